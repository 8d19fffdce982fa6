-- THE OTHER SIDE IS SERVED: what it sends again goes out, and then it waits to be spoken to; or something is brought on.
use Rattle.tcp_replay.proofs.Words.{◌++◌, ◌<◌, after_emission, after_retransmit, AllByRecursion, ap, arith, cases_Bool, cond_both, due_of, Emit}
use Rattle.tcp_replay.proofs.Words.{EventContent, false, false≢true, inl, inr, length, List, None, Option, other, party_of, PartyState, rcv_position_of}
use Rattle.tcp_replay.proofs.Words.{refl, Reset, Sending, sends_again, sends_text, Some, State, subst, sym, true, WaitingReset, with_all_resent}
use Rattle.tcp_replay.proofs.Words.{world_after, world_after_all, WorldState, ℕ, ◌∙◌, ◌≡◌, ◌⊎◌}
use Rattle.tcp_progress.proofs.Words.{AllCome, Comes, emissions, IsCalm, IsIdle, IsLive, IsSteadyPair, left_in, NoneDiscarded, served, Side}
use Rattle.tcp_progress.proofs.Lemmas.{acked-all, after-append, bursting-emits, calm-append, calm-emissions, calm-served, emit-endpoint, fin-last, going-live}
use Rattle.tcp_progress.proofs.Lemmas.{IsBounded, IsBursting, IsGoing, IsStillFrom, live-in, live-sends, Lowers, over, over-served, past-syn, side-pair}
use Rattle.tcp_progress.proofs.Lemmas.{steps-all, still-done, timeout-bursts, timer-endpoint}
use Rattle.tcp_replay.proofs.Lemmas.{end-is, none-some, one_if, one_if-most}
use Rattle.tcp_progress.proofs.{turn.Serving.cleared, turn.Serving.cleared-same, turn.Serving.may-send-cleared, turn.Serving.reset-first, turn.Speaking.idle-no_syn}
use Rattle.tcp_progress.proofs.{turn.Speaking.standing-out, turn.Speaking.Waits, turn.Asking.syn-alone}

-- it has sent no more than the other has, which doesn't know that it has all; and after a waiting reset it goes through what is sent again
abbrev pub IsBurstingTo : WorldState → Side → Type 0
IsBurstingTo w side =
    ((party_of w side).endpoint.sending.snd_nxt ≡ rcv_position_of (party_of w (other side)))
    × ((party_of w (other side)).endpoint.sending.snd_una < rcv_position_of (party_of w side)) × IsBursting (cleared (party_of w side).endpoint)

idle-clear : (s : State) (waiting : Option WaitingReset) → s.pending.reset ≡ waiting → due_of s ≡ None → cleared s ≡ s
idle-clear s None e idle = cleared-same s e
idle-clear s (Some reset) e idle = absurd (none-some Reset (sym idle ∙ (reset-first s reset e).0))

-- once nothing is due it waits to be spoken to
waits-idle : (w : WorldState) (side : Side) → IsBurstingTo w side → due_of (party_of w side).endpoint ≡ None → Waits w side
waits-idle w side ready idle =
    let s = (party_of w side).endpoint in
    let bursts = subst IsBursting (idle-clear s s.pending.reset refl idle) ready.2 in
    elim (bursting-emits s bursts) [
      | inl out ↦ record { at = ready.0; behind = ready.1; range = inl out.done; syn = ready.2.may.syn }
      | inr more ↦ elim more [
        | inl stands ↦ absurd (none-some stands.due (sym idle ∙ stands.is_due))
        | inr goes ↦ absurd (none-some goes.due (sym idle ∙ goes.is_due))
      ]
    ]

-- ---- ONE EMISSION of its burst: something is brought on in the end, or it goes on
bursting-on : (w : WorldState) (side : Side) (s' : State) → after_emission (party_of w side).endpoint ≡ s'
    → s'.sending.snd_nxt ≡ (party_of w side).endpoint.sending.snd_nxt
    → IsBursting (cleared s') → IsBurstingTo w side → IsStillFrom w (world_after w (Emit side)) → IsBurstingTo (world_after w (Emit side)) side
bursting-on w side s' same snd_nxt bursts ready still =
    let is = still side in
    let at = emit-endpoint w side ∙ same in (
      ap (λ (t : State). t.sending.snd_nxt) at ∙ snd_nxt ∙ ready.0 ∙ sym is.rcv_position_of_y,
      omega (arith, ready.1, is.snd_una_of_y, is.rcv_position_of_x),
      subst (λ (t : State). IsBursting (cleared t)) (sym at) bursts,
    )

module _ (side : Side) (later : List EventContent) (calm : AllByRecursion IsCalm later) where
  burst-on : (w : WorldState) (n : ℕ) (waiting : Option WaitingReset) → (party_of w side).endpoint.pending.reset ≡ waiting → IsGoing w → IsBurstingTo w side
      → Comes w (Emit side) (emissions side n ++ later) → NoneDiscarded (world_after_all (world_after_all (world_after w (Emit side)) (emissions side n)) later)
      → (left_in (world_after_all (world_after_all (world_after w (Emit side)) (emissions side n)) later) < left_in w)
      ⊎ (IsGoing (world_after w (Emit side)) → IsStillFrom w (world_after w (Emit side)) → IsBurstingTo (world_after w (Emit side)) side)
  unfolding after_emission
  burst-on w n (Some reset) e h ready come up =
      let s = (party_of w side).endpoint in
      inr (λ _ still. bursting-on w side (cleared s) (reset-first s reset e).1 refl ready.2 ready still)
  burst-on w n None e h ready come up =
      let s = (party_of w side).endpoint in
      let events = emissions side n ++ later in
      let calm' = calm-append (emissions side n) later (calm-emissions side n) calm in
      let end = after-append (world_after w (Emit side)) (emissions side n) later in
      elim (bursting-emits s (subst IsBursting (cleared-same s e) ready.2)) [
        | inl out ↦ inr (λ _ still. bursting-on w side s (rw out.none refl) refl ready.2 ready still)
        | inr more ↦ elim more [
          | inl stands ↦ inl (rw (sym end) (standing-out w side events calm' h ready.0 ready.1 stands come (rw end up)))
          | inr goes ↦
              inr (λ _ still. bursting-on w side (after_emission s) refl goes.keeps.snd_nxt
              (subst IsBursting (sym (cleared-same (after_emission s) goes.next.may.reset)) goes.next) ready still)
        ]
      ]

-- ---- WHO REPLIES: the side that has all is served; what it sends again goes out, and then it waits to be spoken to.
-- IN A PHASE THAT SENDS NOTHING its SYN isn't acknowledged, or all is: once nothing is due there, and both are where they were, it waits
quiet-waits : (w u : WorldState) (side : Side) → IsGoing w → IsGoing u → IsStillFrom w u → sends_text (party_of w side).endpoint.phase ≡ false
    → (party_of w side).endpoint.sending.snd_nxt ≡ rcv_position_of (party_of w (other side))
    → (party_of w (other side)).endpoint.sending.snd_una < rcv_position_of (party_of w side) → IsIdle u side → Waits u side
quiet-waits w u side h h' still quiet at behind idle =
    let p = party_of w side in
    let q = party_of w (other side) in
    let p' = party_of u side in
    let q' = party_of u (other side) in
    let is = still side in
    let pair = side-pair w side h.kept in
    let pair' = side-pair u side h'.kept in
    let live = (going-live w side h).0 in
    let behind' : q'.endpoint.sending.snd_una < rcv_position_of p' = omega (arith, behind, is.snd_una_of_y, is.rcv_position_of_x) in
    let no_syn = idle-no_syn p'.endpoint idle in
    elim (live-in p q pair live) [
      | inl first ↦
          let snd_una' : p'.endpoint.sending.snd_una ≡ 0 = is.snd_una_of_x ∙ first.1 in
          let one' = (syn-alone p' q' pair' (going-live u side h').0 snd_una').1 in
          record { at = omega (arith, first.2, one', at, is.rcv_position_of_y); behind = behind'; range = inr snd_una'; syn = no_syn }
      | inr rest ↦ elim rest.1 [
        | inl sends ↦ absurd (false≢true (sym quiet ∙ sends))
        | inr acked ↦
            let sends' = pair'.pair.there.alone.sends in
            let all = acked-all p.endpoint acked in
            let more = is.there in
            let same : p'.endpoint.sending.snd_nxt ≡ p'.endpoint.sending.snd_una =
            omega (arith, all, fin-last p q pair live acked, is.snd_una_of_x, sends'.order, sends'.most, ap length more.accepted, ap one_if more.closed) in
            let done = still-done p'.endpoint.sending.resend p'.endpoint.sending.snd_una p'.endpoint.sending.snd_nxt (omega (arith, same)) pair'.there.range in
            record { at = omega (arith, same, is.snd_una_of_x, all, at, is.rcv_position_of_y); behind = behind'; range = inl done; syn = no_syn }
      ]
    ]

-- IN A PHASE THAT SENDS TEXT all goes out again
cleared-bursts : (p q : PartyState) → IsSteadyPair p q → IsLive p → sends_text p.endpoint.phase ≡ true → IsBursting (cleared (after_retransmit p.endpoint))
unfolding after_retransmit
cleared-bursts p q h live sends =
    let had = live-sends p q h live in
    let bounded : IsBounded p.endpoint.sending = record {
      ahead = omega (arith, past-syn p q h sends, had.released);
      most = omega (arith, end-is p.endpoint.sending p.accepted p.closed had, had.most, one_if-most p.closed);
    } in
    timeout-bursts (cleared p.endpoint) (may-send-cleared p q h sends) bounded h.there.range

retransmit-nxt : (s : State) → (after_retransmit s).sending.snd_nxt ≡ s.sending.snd_nxt
unfolding after_retransmit
retransmit-nxt s = cond_both (sends_again s) (with_all_resent s.sending) s.sending (λ (d : Sending). d.snd_nxt ≡ s.sending.snd_nxt) (λ _. refl) (λ _. refl)

-- ---- ONE SIDE IS SERVED: then it waits to be spoken to; or something is brought on
pub replies : (n : ℕ) (w : WorldState) (side : Side) (later : List EventContent) → AllByRecursion IsCalm later → IsGoing w
    → (party_of w side).endpoint.sending.snd_nxt ≡ rcv_position_of (party_of w (other side))
    → (party_of w (other side)).endpoint.sending.snd_una < rcv_position_of (party_of w side) → IsIdle (world_after_all w (served side n)) side
    → AllCome w (served side n) later → NoneDiscarded (world_after_all (world_after_all w (served side n)) later)
    → Lowers w (world_after_all (world_after_all w (served side n)) later) (Waits (world_after_all w (served side n)) side)
replies n w side later calm h at behind idle come up =
    let p = party_of w side in
    let s = p.endpoint in
    let u = world_after_all w (served side n) in
    let same = timer-endpoint w side in
    elim (cases_Bool (sends_text s.phase)) [
      | inl sends ↦
          let bursts = cleared-bursts p (party_of w (other side)) (side-pair w side h.kept) (going-live w side h).0 sends in
          elim (over-served side later calm (λ v. IsBurstingTo v side)
          (λ v k hv ready comes up'. burst-on side later calm v k (party_of v side).endpoint.pending.reset refl hv ready comes up') n w h (λ _ still. (
            ap (λ (t : State). t.sending.snd_nxt) same ∙ retransmit-nxt s ∙ at ∙ sym (still side).rcv_position_of_y,
            omega (arith, behind, (still side).snd_una_of_y, (still side).rcv_position_of_x),
            subst (λ (t : State). IsBursting (cleared t)) (sym same) bursts,
          )) come up) [
            | inl less ↦ inl less
            | inr ready ↦ inr (waits-idle u side ready idle)
          ]
      | inr quiet ↦
          over w u (world_after_all u later) (Waits u side) h (steps-all w (served side n) (calm-served side n) h.kept) (steps-all u later calm) up
          (λ h' still. inr (quiet-waits w u side h h' still quiet at behind idle))
    ]
