-- AFTER THE RETRANSMISSION TIMEOUT each emission goes on through what is sent again, until nothing is, whatever is marked later; or it is at SND.NXT.
use Rattle.tcp_replay.proofs.Words.{◌+◌, after_emission, after_retransmit, ap, arith, cases_lt, Due, due_of, end_of_text, IfSome, inl, inr, length, max, None}
use Rattle.tcp_replay.proofs.Words.{Option, Range, Sending, Some, State, subst, sym, text_limit, ℕ, ◌≡◌, ◌≤◌, ◌⊎◌}
use Rattle.tcp_replay.proofs.Lemmas.{done-none}
use Rattle.tcp_progress.proofs.{Words.KeepsFlight, Words.MaySend, Words.StandsAtNext, laws.UnsentSent.nothing-resent, laws.UnsentSent.stands-or-none, laws.UnsentSent.still-done}
use Rattle.tcp_progress.proofs.{laws.FlightSentAgain.may-after_retransmit, laws.FlightSentAgain.Resends, laws.FlightSentAgain.resent, laws.FlightSentAgain.timeout-keeps, laws.FlightSentAgain.timeout-resends, turn.Answering.RangeDone}

-- what the invariant of two ends says of the numbers
pub record IsBounded (d : Sending) : Type 0 where
  pub ahead : 1 + d.released ≤ d.snd_una
  pub most : d.snd_nxt ≤ 1 + end_of_text d

bounded-kept : (d e : Sending) → KeepsFlight d e → IsBounded d → IsBounded e
bounded-kept d e keeps h = omega (arith, ap length keeps.queued, keeps, h)

-- STILL GOING THROUGH what is sent again, or through with it
pub record IsBursting (s : State) : Type 0 where
  pub may : MaySend s
  pub bounded : IsBounded s.sending
  pub form : RangeDone s.sending ⊎ ((start : ℕ) × Resends s start)

-- one emission
pub record IsOut (s : State) : Type 0 where
  pub none : due_of s ≡ None
  pub done : RangeDone s.sending

-- or something of the range goes out, and it goes on
pub record GoesOn (s : State) : Type 0 where
  pub due : Due
  pub is_due : due_of s ≡ Some due
  pub keeps : KeepsFlight s.sending (after_emission s).sending
  pub next : IsBursting (after_emission s)

-- or it is at SND.NXT
abbrev pub Emits : State → Type 0
Emits s = IsOut s ⊎ (StandsAtNext s ⊎ GoesOn s)

done-emits : (s : State) → MaySend s → RangeDone s.sending → Emits s
done-emits s may done =
    elim (stands-or-none s may.reset may.syn (λ _. done-none s.sending (text_limit s) done)) [
      | inl none ↦ inl (record { none = none; done = done })
      | inr stands ↦ inr (inl stands)
    ]

-- one emission of an end that goes through what is sent again
pub bursting-emits : (s : State) → IsBursting s → Emits s
bursting-emits s h =
    elim h.form [
      | inl done ↦ done-emits s h.may done
      | inr more ↦ elim (cases_lt more.0 s.sending.snd_nxt) [
        | inr past ↦ done-emits s h.may (subst (λ (o : Option (Range ℕ)). IfSome o (λ range. range.end ≤ max range.start s.sending.snd_una))
            (sym more.1.range) (omega (arith, past)))
        | inl sent ↦ elim (resent s more.0 more.1) [
          | inl none ↦ absurd (none.past more.0 (omega (arith, h.bounded, more.1.behind, sent)) (omega arith))
          | inr out ↦
              let bounded = bounded-kept s.sending (after_emission s).sending out.keeps h.bounded in
              let next : IsBursting (after_emission s) = record { may = out.resends.may; bounded = bounded; form = inr (out.next, out.resends) } in
              inr (inr (record { due = out.due; is_due = out.is_due; keeps = out.keeps; next = next }))
        ]
      ]
    ]

-- THE TIMEOUT
-- after it all that is in flight is gone through
pub timeout-bursts : (s : State) → MaySend s → IsBounded s.sending → IfSome s.sending.resend (λ range. range.end ≤ s.sending.snd_nxt)
    → IsBursting (after_retransmit s)
timeout-bursts s may bounded range =
    let may' = may-after_retransmit s may in
    elim (cases_lt s.sending.snd_una s.sending.snd_nxt) [
      | inl flight ↦
          let bounded' = bounded-kept s.sending (after_retransmit s).sending (timeout-keeps s may flight) bounded in
          record { may = may'; bounded = bounded'; form = inr (s.sending.snd_una, timeout-resends s may flight) }
      | inr idle ↦
          let same = nothing-resent s may idle in
          let done = still-done s.sending.resend s.sending.snd_una s.sending.snd_nxt idle range in
          record { may = may'; bounded = subst IsBounded (sym same) bounded; form = inl (subst RangeDone (sym same) done) }
    ]
