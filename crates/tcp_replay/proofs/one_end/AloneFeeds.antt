-- What each event does to the half that receives, at one end by itself: what came in order grows by the text that is
-- taken, and by nothing else.
use Rattle.tcp_replay.proofs.Words.{◌+◌, ◌++◌, ◌-◌, ◌<◌, ◌==◌, ◌^◌, after_acked_text, after_discarding, after_fin, after_its_ack, after_its_text}
use Rattle.tcp_replay.proofs.Words.{after_judgement, after_own_fin, after_own_syn, after_peer_accepts, after_peer_opens, after_read, after_taking}
use Rattle.tcp_replay.proofs.Words.{after_taking_shut, after_text, after_window_and_blocks, and_parts, ap, arith, Bool, cond_both, Content, discards, drop}
use Rattle.tcp_replay.proofs.Words.{false, false≢true, fin, Foreign, has, has_fin, if◌then◌else◌, inl, inr, is_fin_due, is_foreign, is_listening}
use Rattle.tcp_replay.proofs.Words.{is_syn_sent, IsAlone, Judgement, judgement, length, length-drop, List, min, not, number, PartyState, Peer}
use Rattle.tcp_replay.proofs.Words.{phase_judgement, Receiving, refl, State, subst, sym, syn, take, takes_fin, takes_text, takes_text_of, true}
use Rattle.tcp_replay.proofs.Words.{with_bytes_received, with_fin, with_syn, ℕ, ◌∙◌, ◌≡◌, ◌⊎◌}
use Rattle.tcp_conn.specs.declared.phase.Ending.TheVariants.{Reset}
use Rattle.tcp_replay.proofs.one_end.Phases.{discards-not_ended, end-listen, end-syn_sent, end-synchronized, end-takes_text, not-closed-ended, time_wait-synchronized}
use Rattle.tcp_replay.proofs.{Lists.by_test, one_end.Judgements.in-phase, one_end.Judgements.IsAfterSyn, one_end.Judgements.IsTaken, one_end.Alone.alone-its_ack, one_end.Alone.alone-its_text}
use Rattle.tcp_replay.proofs.{one_end.Feeds.AllText, one_end.Feeds.ByNumber, one_end.Feeds.fed-fin, one_end.Feeds.fed-discarded, one_end.Feeds.fed-read, one_end.Feeds.fed-syn, one_end.Feeds.fed-text, one_end.Feeds.IsFed}
use Rattle.tcp_replay.proofs.{pair.Calls.KeptByCalls, Cases.own_fin-cases}
use Rattle.tcp_replay.proofs.Words.{Aborted, receive_refusal, None, is_time_wait, after_orderly_end, PeerResets, PeerOpens, PeerAccepts, Taken, TakenShut}
use Rattle.tcp_replay.proofs.one_end.Judgements.{IsAckOnly, IsSyn}

-- FROM ONE STATE TO ANOTHER: as many bytes more are in order as make what is unread longer
pub record Feeds (P : ℕ → ℕ → Type 0) (Q : Type 0) (s s' : State) (irs k : ℕ) (delivered : List ℕ) : Type 0 where
  pub fed : IsFed P s'.receiving irs (k + (length s'.receiving.inbox.unread - length s.receiving.inbox.unread)) delivered (discards s'.ending)
  pub config : s'.config ≡ s.config
  -- the peer's SYN is taken once, and where Q holds
  pub stays : s.receiving.opened ≡ true → s'.receiving.opened ≡ true
  pub opens : s'.receiving.opened ≡ true → (s.receiving.opened ≡ true) ⊎ Q

module _ (P : ℕ → ℕ → Type 0) (Q : Type 0) (s : State) (irs k : ℕ) (delivered : List ℕ) (h : IsFed P s.receiving irs k delivered (discards s.ending)) where
  -- nothing comes, and nothing is given up
  still : (gone : Bool) → gone ≡ discards s.ending
      → IsFed P s.receiving irs (k + (length s.receiving.inbox.unread - length s.receiving.inbox.unread)) delivered gone
  still gone e =
      let same : k ≡ k + (length s.receiving.inbox.unread - length s.receiving.inbox.unread) = omega arith in
      subst (λ (n : ℕ). IsFed P s.receiving irs n delivered gone) same (subst (λ (b : Bool). IsFed P s.receiving irs k delivered b) (sym e) h)

  -- an end that stays as it is is fed nothing
  pub feeds-same : Feeds P Q s s irs k delivered
  feeds-same = record { fed = still (discards s.ending) refl; config = refl; stays = λ e. e; opens = λ e. inl e }

  feeds-kept : (s' : State) → s'.receiving ≡ s.receiving → discards s'.ending ≡ discards s.ending → s'.config ≡ s.config → Feeds P Q s s' irs k delivered
  feeds-kept s' same gone config = record {
    fed = subst (λ (r : Receiving). IsFed P r irs (k + (length r.inbox.unread - length s.receiving.inbox.unread)) delivered (discards s'.ending)) (sym same)
        (still (discards s'.ending) gone);
    config = config;
    stays = λ e. ap (λ (r : Receiving). r.opened) same ∙ e;
    opens = λ e. inl (ap (λ (r : Receiving). r.opened) (sym same) ∙ e);
  }

  -- what is unread and held is given up
  discarded : IsFed P (after_discarding s Reset).receiving irs (k + (0 - length s.receiving.inbox.unread)) delivered true
  discarded =
      subst (λ (n : ℕ). IsFed P (after_discarding s Reset).receiving irs n delivered true) (omega arith)
      (fed-discarded P s.receiving irs k delivered (discards s.ending) h)

  feeds-discarded : (s' : State) → s'.receiving ≡ (after_discarding s Reset).receiving → discards s'.ending ≡ true → s'.config ≡ s.config
      → Feeds P Q s s' irs k delivered
  feeds-discarded s' same gone config = record {
    fed = subst (λ (b : Bool). IsFed P s'.receiving irs (k + (length s'.receiving.inbox.unread - length s.receiving.inbox.unread)) delivered b) (sym gone)
        (subst (λ (r : Receiving). IsFed P r irs (k + (length r.inbox.unread - length s.receiving.inbox.unread)) delivered true) (sym same) discarded);
    config = config;
    stays = λ e. ap (λ (r : Receiving). r.opened) same ∙ e;
    opens = λ e. inl (ap (λ (r : Receiving). r.opened) (sym same) ∙ e);
  }

-- THE USER reads
feeds-read : (P : ℕ → ℕ → Type 0) (Q : Type 0) (s : State) (irs k : ℕ) (delivered : List ℕ) (room : ℕ) → IsFed P s.receiving irs k delivered (discards s.ending)
    → Feeds P Q s (with_bytes_received s room) irs k (delivered ++ take (min room (length s.receiving.inbox.unread)) s.receiving.inbox.unread)
unfolding after_read
feeds-read P Q s irs k delivered room h =
    let unread = s.receiving.inbox.unread in
    let same : k ≡ k + (length (drop room unread) - length unread) = omega (arith, length-drop room unread) in
    record {
      fed = subst (λ (n : ℕ). IsFed P (with_bytes_received s room).receiving irs n (delivered ++ take (min room (length unread)) unread)
          (discards s.ending)) same
          (fed-read P s.receiving irs k delivered (discards s.ending) room h);
      config = refl;
      stays = λ e. e;
      opens = λ e. inl e;
    }

-- ALL CALLS, timers and emissions
pub feeds-calls : (P : ℕ → ℕ → Type 0) (Q : Type 0) (peer : Peer) (p : PartyState) (irs k : ℕ) → IsAlone p.endpoint p.accepted p.closed
    → IsFed P p.endpoint.receiving irs k p.delivered (discards p.endpoint.ending)
    → KeptByCalls peer p (λ p'. Feeds P Q p.endpoint p'.endpoint irs k p'.delivered)
feeds-calls P Q peer p irs k a h =
    let s = p.endpoint in
    let same : Feeds P Q s s irs k p.delivered = feeds-same P Q s irs k p.delivered h in
    let gone : Feeds P Q s (after_discarding s Aborted) irs k p.delivered = feeds-discarded P Q s irs k p.delivered h _ refl refl refl in
    let reads : (room : ℕ) → receive_refusal s ≡ None → Feeds P Q s (with_bytes_received s room) irs k
    (p.delivered ++ take (min room (length s.receiving.inbox.unread)) s.receiving.inbox.unread) = λ room _. feeds-read P Q s irs k p.delivered room h in
    let ends : is_time_wait s.phase ≡ true → Feeds P Q s (after_orderly_end s) irs k p.delivered = λ e.
    let at = end-synchronized s (time_wait-synchronized s.phase e) a.progress in
    feeds-kept P Q s irs k p.delivered h _ refl (sym (discards-not_ended s.ending at.0)) refl in
    assumption

-- AN ACKNOWLEDGEMENT leaves what was received as it was
pub record Acked (s x : State) : Type 0 where
  pub receiving : x.receiving ≡ s.receiving
  pub going : discards x.ending ≡ false
  pub config : x.config ≡ s.config

own_fin-keeps_received : (s : State) → discards s.ending ≡ false → Acked s (after_own_fin s)
own_fin-keeps_received s going =
    own_fin-cases s (Acked s) (λ _ _. record { receiving = refl; going = refl; config = refl })
    (λ _ _. record { receiving = refl; going = going; config = refl }) (λ _. record { receiving = refl; going = going; config = refl })

its_ack-acked : (s : State) (v : Content) → discards s.ending ≡ false → Acked s (after_its_ack s v)
unfolding after_its_ack after_window_and_blocks after_acked_text after_own_syn
its_ack-acked s v going =
    let a = own_fin-keeps_received (after_window_and_blocks (after_acked_text (after_own_syn s v) v) v) going in
    record { receiving = a.receiving; going = a.going; config = a.config }

-- TEXT AND FIN
module _ (P : ℕ → ℕ → Type 0) (s x : State) (irs k : ℕ) (delivered : List ℕ) (v : Content) (accepted : List ℕ) (closed : Bool) where
  its_text-fed : IsAlone x accepted closed → discards x.ending ≡ false → v.seq < 2 ^ 32 → AllText (ByNumber P v.seq) 0 v.text
      → IsFed P x.receiving irs k delivered false
      → IsFed P (after_its_text x v).receiving irs (k + (length (after_its_text x v).receiving.inbox.unread - length x.receiving.inbox.unread)) delivered false
  unfolding after_its_text
  its_text-fed a going small came h =
      by_test (takes_text_of x v)
      (λ b. IsFed P (if b then after_text x.receiving v.seq v.text else x.receiving) irs
      (k + (length (if b then after_text x.receiving v.seq v.text else x.receiving).inbox.unread - length x.receiving.inbox.unread)) delivered false)
      (λ e.
      let at = end-takes_text x (and_parts (takes_text x.phase) (not (length v.text == 0)) e).0 a.progress in
      fed-text P x.receiving irs k delivered v.seq v.text a.next small at.1.is_opened at.1.goes_on came h)
      (λ _. subst (λ (n : ℕ). IsFed P x.receiving irs n delivered false) (omega arith) h)

fin-fed : (P : ℕ → ℕ → Type 0) (y : State) (irs k u : ℕ) (delivered : List ℕ) (v : Content) (accepted : List ℕ) (closed : Bool) → IsAlone y accepted closed
    → IsFed P y.receiving irs (k + (length y.receiving.inbox.unread - u)) delivered false
    → IsFed P (after_fin y v).receiving irs (k + (length (after_fin y v).receiving.inbox.unread - u)) delivered false
unfolding after_fin
fin-fed P y irs k u delivered v accepted closed a h =
    by_test (takes_fin y v) (λ b. IsFed P (if b then with_fin y.receiving else y.receiving) irs
    (k + (length (if b then with_fin y.receiving else y.receiving).inbox.unread - u)) delivered false)
    (λ e.
    let takes : takes_text y.phase ≡ true =
    (and_parts (takes_text y.phase) (has fin v.flags) (and_parts (has_fin y v) (is_fin_due y.receiving (number v.seq (length v.text))) e).0).0 in
    let at = end-takes_text y takes a.progress in
    fed-fin P y.receiving irs (k + (length y.receiving.inbox.unread - u)) delivered false at.1.is_opened at.1.goes_on h)
    (λ _. h)

-- both leave these as they were
its_text-ending : (x : State) (v : Content) → ((after_fin (after_its_text x v) v).ending ≡ x.ending) × ((after_fin (after_its_text x v) v).config ≡ x.config)
unfolding after_its_text after_fin
its_text-ending x v = (refl, refl)

text-opened : (x : State) (v : Content) → (after_its_text x v).receiving.opened ≡ x.receiving.opened
unfolding after_its_text after_text
text-opened x v =
    cond_both (takes_text_of x v) (after_text x.receiving v.seq v.text) x.receiving (λ (r : Receiving). r.opened ≡ x.receiving.opened) (λ _. refl) (λ _. refl)

fin-opened : (y : State) (v : Content) → (after_fin y v).receiving.opened ≡ y.receiving.opened
unfolding after_fin
fin-opened y v = cond_both (takes_fin y v) (with_fin y.receiving) y.receiving (λ (r : Receiving). r.opened ≡ y.receiving.opened) (λ _. refl) (λ _. refl)

-- A SEGMENT ARRIVES, whose text P holds of where it was taken
after_syn-going : (s : State) (accepted : List ℕ) (closed : Bool) → IsAfterSyn s → IsAlone s accepted closed → discards s.ending ≡ false
after_syn-going s accepted closed after_syn a =
    discards-not_ended s.ending (not-closed-ended s.phase s.ending s.sending.snd_una s.sending.snd_nxt s.receiving.opened s.receiving.finished after_syn.shut a.progress)

feeds-taking : (P : ℕ → ℕ → Type 0) (Q : Type 0) (s : State) (irs k : ℕ) (delivered : List ℕ) (v : Content) (accepted : List ℕ) (closed : Bool) → IsAfterSyn s
    → IsAlone s accepted closed → v.seq < 2 ^ 32
    → AllText (ByNumber P v.seq) 0 v.text → IsFed P s.receiving irs k delivered (discards s.ending) → Feeds P Q s (after_taking s v) irs k delivered
unfolding after_taking
feeds-taking P Q s irs k delivered v accepted closed after_syn a small came h =
    let x = after_its_ack s v in
    let y = after_its_text x v in
    let acked = its_ack-acked s v (after_syn-going s accepted closed after_syn a) in
    let ax = alone-its_ack s accepted closed v after_syn a in
    let hs : IsFed P s.receiving irs k delivered false = subst (λ (b : Bool). IsFed P s.receiving irs k delivered b)
    (after_syn-going s accepted closed after_syn a) h in
    let hx : IsFed P x.receiving irs k delivered false = subst (λ (r : Receiving). IsFed P r irs k delivered false) (sym acked.receiving) hs in
    let hy = its_text-fed P s x irs k delivered v accepted closed ax acked.going small came hx in
    let hz = fin-fed P y irs k (length x.receiving.inbox.unread) delivered v accepted closed (alone-its_text x accepted closed v ax) hy in
    let same = its_text-ending x v in
    let opened : (after_fin y v).receiving.opened ≡ s.receiving.opened = fin-opened y v ∙ text-opened x v ∙ ap (λ (r : Receiving). r.opened) acked.receiving in
    record {
      fed = subst (λ (b : Bool). IsFed P (after_fin y v).receiving irs
          (k + (length (after_fin y v).receiving.inbox.unread - length s.receiving.inbox.unread)) delivered b) (sym (ap discards same.0 ∙ acked.going))
          (subst (λ (r : Receiving). IsFed P (after_fin y v).receiving irs
          (k + (length (after_fin y v).receiving.inbox.unread - length r.inbox.unread)) delivered false) acked.receiving hz);
      config = same.1 ∙ acked.config;
      stays = λ e. opened ∙ e;
      opens = λ e. inl (sym opened ∙ e);
    }

feeds-taking_shut : (P : ℕ → ℕ → Type 0) (Q : Type 0) (s : State) (irs k : ℕ) (delivered : List ℕ) (v : Content) (accepted : List ℕ) (closed : Bool)
    → IsAfterSyn s → IsAlone s accepted closed
    → IsFed P s.receiving irs k delivered (discards s.ending) → Feeds P Q s (after_taking_shut s v) irs k delivered
unfolding after_taking_shut
feeds-taking_shut P Q s irs k delivered v accepted closed after_syn a h =
    let going = after_syn-going s accepted closed after_syn a in
    let acked = its_ack-acked s v going in
    feeds-kept P Q s irs k delivered h _ acked.receiving (acked.going ∙ sym going) acked.config

-- the peer's SYN
feeds-syn : (P : ℕ → ℕ → Type 0) (Q : Type 0) (s s' : State) (irs k : ℕ) (delivered : List ℕ) (seq : ℕ) → Q → irs ≡ seq → s.receiving.opened ≡ false
    → s'.receiving ≡ with_syn s.receiving seq → s'.ending ≡ s.ending → s'.config ≡ s.config
    → IsFed P s.receiving irs k delivered (discards s.ending) → Feeds P Q s s' irs k delivered
feeds-syn P Q s s' irs k delivered seq is e shut receiving ending config h =
    let fed = fed-syn P s.receiving irs (k + (length s.receiving.inbox.unread - length s.receiving.inbox.unread)) delivered (discards s.ending) shut
    (feeds-same P Q s irs k delivered h).fed in
    let taken : with_syn s.receiving irs ≡ s'.receiving = ap (with_syn s.receiving) e ∙ sym receiving in
    record {
      fed = subst (λ (b : Bool). IsFed P s'.receiving irs (k + (length s'.receiving.inbox.unread - length s.receiving.inbox.unread)) delivered b)
          (ap discards (sym ending))
          (subst (λ (r : Receiving). IsFed P r irs (k + (length r.inbox.unread - length s.receiving.inbox.unread)) delivered (discards s.ending)) taken fed);
      config = config;
      stays = λ opened. absurd (false≢true (sym shut ∙ opened));
      opens = λ _. inr is;
    }

pub opened-by_peer : (s : State) (src : List ℕ) (v : Content)
    → ((after_peer_opens s src v).receiving ≡ with_syn s.receiving v.seq) × ((after_peer_opens s src v).ending ≡ s.ending)
    × ((after_peer_opens s src v).config ≡ s.config)
unfolding after_peer_opens
opened-by_peer s src v = (refl, refl, refl)

pub accepted-by_peer : (s : State) (v : Content)
    → ((after_peer_accepts s v).receiving ≡ with_syn s.receiving v.seq) × ((after_peer_accepts s v).ending ≡ s.ending)
    × ((after_peer_accepts s v).config ≡ s.config)
unfolding after_peer_accepts
accepted-by_peer s v = (refl, refl, refl)

-- whatever is judged of a segment: what comes in order is its text, where that is taken
pub feeds-judgement : (P : ℕ → ℕ → Type 0) (s : State) (irs k : ℕ) (delivered accepted : List ℕ) (closed : Bool) (src dst : List ℕ) (v : Content)
    → v.seq < 2 ^ 32 → IsAlone s accepted closed
    → (s.receiving.opened ≡ false → irs ≡ v.seq) → (is_foreign s src dst v ≡ false → IsTaken s v → AllText (ByNumber P v.seq) 0 v.text)
    → IsFed P s.receiving irs k delivered (discards s.ending)
    → Feeds P (has syn v.flags ≡ true) s (after_judgement (judgement s src dst v) s src v) irs k delivered
unfolding judgement
feeds-judgement P s irs k delivered accepted closed src dst v small a first came h =
    let Q : Type 0 = has syn v.flags ≡ true in
    let J : Judgement → Type 0 = λ j. Feeds P Q s (after_judgement j s src v) irs k delivered in
    let same : J Foreign = feeds-same P Q s irs k delivered h in
    let gone : J PeerResets = feeds-discarded P Q s irs k delivered h _ refl refl refl in
    let opens : is_listening s.phase ≡ true → IsSyn v → J PeerOpens = λ listening is.
    let shut = (end-listen s listening a.progress).1.not_opened in
    let by = opened-by_peer s src v in
    feeds-syn P Q s (after_peer_opens s src v) irs k delivered v.seq is.is_syn (first shut) shut by.0 by.1 by.2 h in
    let accepts : is_syn_sent s.phase ≡ true → IsSyn v → J PeerAccepts = λ sent is.
    let shut = (end-syn_sent s sent a.progress).1.not_opened in
    let by = accepted-by_peer s v in
    feeds-syn P Q s (after_peer_accepts s v) irs k delivered v.seq is.is_syn (first shut) shut by.0 by.1 by.2 h in
    let taken_shut : IsAfterSyn s → IsAckOnly v → J TakenShut = λ after_syn _. feeds-taking_shut P Q s irs k delivered v accepted closed after_syn a h in
    cond_both (is_foreign s src dst v) Foreign (phase_judgement s v) J (λ _. same) (λ mine.
    let taken : IsAfterSyn s → IsTaken s v → J Taken = λ after_syn is. feeds-taking P Q s irs k delivered v accepted closed after_syn a small (came mine is) h in
    in-phase s v J (assumption))
