-- What is pending is sent: whatever is due but a reset or a SYN acknowledges RCV.NXT.
use Rattle.tcp_replay.proofs.Words.{ack, ack_due, Acknowledgement, Due, due_of, end_of_text, false≢true, Fin, has, inl, inr, new_count, NewText, None}
use Rattle.tcp_replay.proofs.Words.{plain_segment, refl, Resend, ResentFin, reset_due, segment_of, State, sym, syn_due, text_due, text_limit, true, ◌∙◌}
use Rattle.tcp_replay.proofs.Words.{◌≡◌}
use Rattle.tcp_replay.proofs.Lemmas.{again-kept, due-kept, none-some, or-none, due-bits, some-due}
use Rattle.tcp_progress.proofs.Words.{PendingIsSent}
use Rattle.tcp_replay.proofs.Words.{Text}

-- something is due where an acknowledgement is pending
pub with_pending-due : (s : State) → s.pending.ack ≡ true → due_of s ≡ None → ⊥
unfolding due_of
with_pending-due s pending e =
    let later = (or-none (syn_due s.pending) _ (or-none (reset_due s.pending.reset) _ e).1).1 in
    none-some Acknowledgement (sym (rw pending at (or-none (text_due s) (ack_due s.pending) later).1))

pub pending_sent_lem : PendingIsSent
unfolding segment_of
pending_sent_lem s has_pending no_reset no_syn =
    let P : Due → Type 0 = λ due. (has ack (segment_of s due).flags ≡ true) × ((segment_of s due).ack ≡ s.receiving.rcv_nxt) in
    let tells : (due : Due) → segment_of s due ≡ plain_segment s due → P due = λ due form.
    rw form ((due-bits s.sending due).3, refl) in
    elim (some-due P (due_of s) (due-kept s P (record {
      resets = λ reset is. absurd (none-some reset (sym no_reset ∙ is));
      syn = λ pending. absurd (false≢true (sym no_syn ∙ pending));
      acks = λ _. tells Acknowledgement refl;
      again = λ _. again-kept s.sending (text_limit s) (λ sent. P (Text sent))
          (record { text = λ _ start count _ _ _ _. tells (Text (Resend start count)) refl; fin = λ _ _. tells (Text (ResentFin (end_of_text s.sending))) refl });
      new_text = λ _ _. tells (Text (NewText s.sending.snd_nxt (new_count s.sending (text_limit s) s.pending.probe))) refl;
      fin = λ _ _ _. tells (Text (Fin s.sending.snd_nxt)) refl;
    }))) [
      | inl none ↦ absurd (with_pending-due s has_pending none)
      | inr is ↦ record { due = is.0; is_due = is.1; has_ack = is.2.0; number = is.2.1 }
    ]
