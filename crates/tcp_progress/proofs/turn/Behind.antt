-- WHAT ISN'T ACKNOWLEDGED, and nothing is on its way: who sent it sends it again, the other is spoken to by what is old to it, and answers.
use Rattle.tcp_replay.proofs.Words.{◌++◌, ◌<◌, AllByRecursion, ap, arith, Emit, EventContent, inl, inr, List, other, party_of, PartyState, rcv_position_of}
use Rattle.tcp_replay.proofs.Words.{refl, Retransmit, suc, sym, Timer, world_after, world_after_all, WorldState, zero, ℕ, ◌∙◌, ◌≡◌}
use Rattle.tcp_progress.proofs.Words.{A, AllCome, B, emissions, IsCalm, IsIdle, IsUntimed, left_in, NoneDiscarded, served, Side}
use Rattle.tcp_progress.proofs.Lemmas.{after-append, all-untimed, calm-append, calm-served, emit-other, IsGoing, IsStillFrom, KeepsPending, Lowers}
use Rattle.tcp_progress.proofs.Lemmas.{lowers-only, over, pending-same, Steps, steps-all, steps-both, steps-left, timer-other, twice}
use Rattle.tcp_progress.proofs.{turn.Asking.asks, turn.Asking.IsPending, turn.Asking.past-served, turn.Replying.replies, turn.Speaking.old-still}
use Rattle.tcp_progress.proofs.{turn.Speaking.spoken-lowers, turn.Speaking.Waits, turn.Speaking.waits-later}

-- ---- one sent what is taken and not acknowledged, and nothing is on its way
pub record IsBehind (p q : PartyState) : Type 0 where
  pub behind : p.endpoint.sending.snd_una < rcv_position_of q
  pub one : rcv_position_of q ≡ p.endpoint.sending.snd_nxt
  pub two : rcv_position_of p ≡ q.endpoint.sending.snd_nxt

-- WHERE ONE SIDE IS SERVED the other stays as it is
pub emissions-other : (n : ℕ) (w : WorldState) (side : Side) → party_of (world_after_all w (emissions side n)) (other side) ≡ party_of w (other side)
unfolding world_after_all
emissions-other zero w side = refl
emissions-other (suc n) w side = emissions-other n (world_after w (Emit side)) side ∙ emit-other w side

served-other : (n : ℕ) (w : WorldState) (side : Side) → party_of (world_after_all w (served side n)) (other side) ≡ party_of w (other side)
unfolding world_after_all
served-other n w side = emissions-other n (world_after w (Timer side Retransmit)) side ∙ timer-other w side

-- nothing is due at either side
abbrev pub AreIdle : WorldState → Type 0
AreIdle w = IsIdle w A × IsIdle w B

-- ---- ONE WAITS AND IS SPOKEN TO
spoken-to : (w : WorldState) (asker : Side) (there back : List EventContent) → AllByRecursion IsUntimed there → AllByRecursion IsCalm back
    → IsGoing w → Waits w (other asker) → IsPending w asker there → AllCome w there back → AreIdle (world_after_all w there)
    → NoneDiscarded (world_after_all w (there ++ back)) → left_in (world_after_all w (there ++ back)) < left_in w
spoken-to w A there back untimed calm h waits old come idle up =
    spoken-lowers w B old.place old.content there back untimed calm h waits old.old old.comes come idle.1 up
spoken-to w B there back untimed calm h waits old come idle up =
    spoken-lowers w A old.place old.content there back untimed calm h waits old.old old.comes come idle.0 up

-- what is old stays old, while the other is served
pending-later : (m : ℕ) (u v : WorldState) (asker server : Side) (rest : List EventContent) → IsStillFrom u v → IsPending u asker (served server m ++ rest)
    → IsPending v asker rest
pending-later m u v asker server rest still old = record {
  place = old.place;
  content = old.content;
  old = old-still (party_of u asker) (party_of u (other asker)) (party_of v asker) (party_of v (other asker)) old.place old.content (still asker) old.old;
  comes = past-served server asker m old.place rest old.comes;
}

-- ---- WHAT BOTH ORDERS HAVE: one is served, and then the other, and what both sent goes there, and what is answered comes back
abbrev pub after_first : Side → ℕ → WorldState → WorldState
after_first first n w = world_after_all w (served first n)

-- and after both
abbrev pub after_both : Side → ℕ → ℕ → WorldState → WorldState
after_both first n m w = world_after_all (after_first first n w) (served (other first) m)

-- what a turn says of it
pub record IsServed (first : Side) (n m : ℕ) (w : WorldState) (there back : List EventContent) : Type 0 where
  pub untimed : AllByRecursion IsUntimed there
  pub calm : AllByRecursion IsCalm back
  pub out : IsIdle (after_first first n w) first
  pub then_out : IsIdle (after_both first n m w) (other first)
  pub answered : AreIdle (world_after_all (after_both first n m w) there)
  pub comes : AllCome w (served first n) (served (other first) m ++ there)
  pub then_comes : AllCome (after_first first n w) (served (other first) m) there
  pub comes_back : AllCome (after_both first n m w) there back

module _ (first : Side) (n m : ℕ) (w : WorldState) (there back : List EventContent) (g : IsServed first n m w there back) (h : IsGoing w)
    (up : NoneDiscarded (world_after_all (after_both first n m w) (there ++ back))) where
  -- where the first was served,
  abbrev pub u : WorldState
  u = after_first first n w

  -- where both were,
  abbrev pub v : WorldState
  v = after_both first n m w

  -- what is done to the second,
  abbrev pub second : List EventContent
  second = served (other first) m

  -- and where all leads
  abbrev pub end : WorldState
  end = world_after_all v (there ++ back)

  there-calm : AllByRecursion IsCalm there
  there-calm = all-untimed there g.untimed

  -- what comes after both were served is calm
  pub later-calm : AllByRecursion IsCalm (there ++ back)
  later-calm = calm-append there back there-calm g.calm

  -- where all came there no end was reset or aborted, and as much is left as in the end, or more
  steps-back : Steps (world_after_all v there) end
  steps-back =
      let steps = steps-both w (served first n) second (calm-served first n) (calm-served (other first) m) h.kept in
      let kept = (steps-all v there there-calm steps.kept).kept in
      rw (after-append v there back) (steps-all (world_after_all v there) back g.calm kept)

  -- over what comes after the first was served, and after both were
  pub over-first : (IsGoing u → IsStillFrom w u → Lowers u end ⊥) → left_in end < left_in w
  over-first next =
      lowers-only w end
      (over w u end ⊥ h (steps-all w (served first n) (calm-served first n) h.kept) (steps-both u second (there ++ back) (calm-served (other first) m) later-calm) up next)

  over-second : IsGoing u → (IsGoing v → IsStillFrom u v → left_in end < left_in v) → Lowers u end ⊥
  over-second hu next =
      over u v end ⊥ hu (steps-all u second (calm-served (other first) m) hu.kept) (steps-all v (there ++ back) later-calm) up (λ hv still. inl (next hv still))

  -- who asks is served first
  pub asked-first : IsBehind (party_of w first) (party_of w (other first)) → left_in end < left_in w
  asked-first behind =
      let calm = calm-append second there (calm-served (other first) m) there-calm in
      let joined = after-append u second there in
      elim (asks n w first (second ++ there) calm h behind.behind behind.one g.out g.comes (rw joined (steps-back.stays up))) [
        | inl less ↦ omega (arith, less, ap left_in joined, steps-left _ _ steps-back)
        | inr old ↦ over-first (λ hu still.
            let is = still first in
            let at = ap (λ (x : PartyState). x.endpoint.sending.snd_nxt) (served-other n w first) ∙ sym behind.two ∙ sym is.rcv_position_of_x in
            elim (replies m u (other first) there there-calm hu (rw (twice first) at)
            (rw (twice first) (omega (arith, behind.behind, is.snd_una_of_x, is.rcv_position_of_y))) g.then_out g.then_comes (steps-back.stays up)) [
              | inl less ↦ inl (omega (arith, less, steps-left _ _ steps-back))
              | inr waits ↦ over-second hu (λ hv still'. spoken-to v first there back g.untimed g.calm hv waits
                  (pending-later m u v first (other first) there still' old) g.comes_back g.answered up)
            ])
      ]

  -- who is asked is served first
  pub asked-then : IsBehind (party_of w (other first)) (party_of w first) → left_in end < left_in w
  asked-then behind =
      let calm = calm-append second there (calm-served (other first) m) there-calm in
      let joined = after-append u second there in
      elim (replies n w first (second ++ there) calm h (sym behind.two) behind.behind g.out g.comes (rw joined (steps-back.stays up))) [
        | inl less ↦ omega (arith, less, ap left_in joined, steps-left _ _ steps-back)
        | inr waits ↦ over-first (λ hu still.
            let is = still first in
            let one = is.rcv_position_of_x ∙ behind.one ∙ ap (λ (x : PartyState). x.endpoint.sending.snd_nxt) (sym (served-other n w first)) in
            elim (asks m u (other first) there there-calm hu (rw (twice first) (omega (arith, behind.behind, is.snd_una_of_y, is.rcv_position_of_x)))
            (rw (twice first) one) g.then_out g.then_comes (steps-back.stays up)) [
              | inl less ↦ inl (omega (arith, less, steps-left _ _ steps-back))
              | inr old ↦
                  let same : party_of v first ≡ party_of u first = rw (twice first) at (served-other m u (other first)) in
                  let keeps : KeepsPending (party_of u first).endpoint (party_of v first).endpoint = rw same (pending-same (party_of u first).endpoint) in
                  over-second hu (λ hv still'. spoken-to v (other first) there back g.untimed g.calm hv
                  (rw (twice first) (waits-later u v first (still' first) keeps waits)) old g.comes_back g.answered up)
            ])
      ]
