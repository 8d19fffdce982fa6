-- EACH BURST ENDS: with no arrival between, an end has something due only so often.
use Rattle.tcp_replay.proofs.Words.{◌&&◌, ◌+◌, ◌-◌, ◌<◌, Acknowledgement, ap, arith, Bool, Due, due_of, Emit, Fin, IfSome, is_some, length, max, NewText, None}
use Rattle.tcp_replay.proofs.Words.{not, Option, other, party_of, Range, range_after, refl, Resend, ResentFin, Reset, Sending, Some, State, state_after, subst}
use Rattle.tcp_replay.proofs.Words.{suc, Syn, text_limit, true, world_after, world_after_all, WorldState, zero, ℕ, ◌∙◌, ◌≡◌, ◌≤◌}
use Rattle.tcp_progress.proofs.Lemmas.{emission, emit-endpoint, emit-party, has-room, in-every-world, IsKept, side-pair, steps-event, still-emission}
use Rattle.tcp_replay.proofs.Lemmas.{again-kept, due-kept, IsAgain, one_if}
use Rattle.tcp_progress.proofs.Words.{all_of, BurstEnds, EachBurstEnds, Side}
use Rattle.tcp_replay.proofs.Words.{Text}

-- ---- WHAT IS DUE ADVANCES: of what is sent again, or SND.NXT; or something is pending no more
abbrev Settles : State → Due → Type 0
Settles s Reset = is_some s.pending.reset ≡ true
Settles s Syn = s.pending.syn ≡ true
Settles s Acknowledgement = s.pending.ack ≡ true
Settles s (Text (Resend start count)) = (range : Range ℕ) × IsAgain s.sending range start × (0 < count)
Settles s (Text (ResentFin start)) = (range : Range ℕ) × IsAgain s.sending range start
Settles s (Text (NewText start count)) = (start ≡ s.sending.snd_nxt) × (0 < count)
Settles s (Text (Fin start)) = start ≡ s.sending.snd_nxt

due-settles : (s : State) → 1 ≤ text_limit s → IfSome (due_of s) (Settles s)
due-settles s room = due-kept s (Settles s) (record {
  resets = λ reset e. rw e refl;
  syn = λ e. e;
  acks = λ e. e;
  again = λ _. again-kept s.sending (text_limit s) (λ sent. Settles s (Text sent))
      (record { text = λ range start count again _ _ some. (range, again, some room); fin = λ range again. (range, again) });
  new_text = λ _ some. (refl, some);
  fin = λ _ _ _. refl;
})

-- ---- HOW MUCH IS DUE at most, where SND.NXT comes to n at most
abbrev again_left : Option (Range ℕ) → ℕ → ℕ
again_left None snd_una = 0
again_left (Some range) snd_una = range.end - max range.start snd_una

abbrev due_left : ℕ → State → ℕ
due_left n s = one_if (is_some s.pending.reset) + (one_if s.pending.syn + (one_if s.pending.ack + (again_left s.sending.resend s.sending.snd_una + (n - s.sending.snd_nxt))))

and-less : (ack opened : Bool) → one_if (ack && opened) ≤ one_if ack
and-less ack opened = grind arith

one-less : (b : Bool) → b ≡ true → one_if b ≡ 1
one-less b e = grind (arith, e)

-- less of the range is left
range-less : (d : Sending) (range : Range ℕ) (start n : ℕ) → IsAgain d range start → start < n
    → again_left (range_after n d.resend) d.snd_una < again_left d.resend d.snd_una
range-less d range start n again some =
    let before : again_left d.resend d.snd_una ≡ range.end - max range.start d.snd_una = ap (λ (o : Option (Range ℕ)). again_left o d.snd_una) again.is in
    let after : again_left (range_after n d.resend) d.snd_una ≡ range.end - max n d.snd_una = rw again.is refl in
    omega (arith, before, after, again.ahead, again.inside, some)

settles-less : (n : ℕ) (s : State) (due : Due) → Settles s due → (state_after s due).sending.snd_nxt ≤ n → due_left n (state_after s due) < due_left n s
settles-less n s Reset h most = omega (arith, one-less (is_some s.pending.reset) h)
settles-less n s Syn h most = omega (arith, one-less s.pending.syn h, and-less s.pending.ack (not s.receiving.opened))
settles-less n s Acknowledgement h most = omega (arith, one-less s.pending.ack h)
settles-less n s (Text (NewText start count)) h most = omega (arith, h.0, h.1, most)
settles-less n s (Text (Fin start)) h most = omega (arith, h, most)
settles-less n s (Text (Resend start count)) h most = omega (arith, range-less s.sending h.0 start (start + count) h.1 (omega (arith, h.2)))
settles-less n s (Text (ResentFin start)) h most = omega (arith, range-less s.sending h.0 start (start + 1) h.1 (omega arith))

-- ---- IN A WORLD
emission-less : (w : WorldState) (side : Side) (due : Due) → IsKept w → due_of (party_of w side).endpoint ≡ Some due
    → due_left (all_of (party_of (world_after w (Emit side)) side)) (party_of (world_after w (Emit side)) side).endpoint < due_left (all_of (party_of w side))
    (party_of w side).endpoint
emission-less w side due h is =
    let p = party_of w side in
    let q = party_of w (other side) in
    let s = p.endpoint in
    let v = world_after w (Emit side) in
    let p' = party_of v side in
    let pair' = side-pair v side (steps-event w (Emit side) tt h).kept in
    let same : p'.endpoint ≡ state_after s due = emit-endpoint w side ∙ emission s due is in
    let still = still-emission p in
    let all : all_of p' ≡ all_of p = ap all_of (emit-party w side) ∙ omega (arith, ap length still.accepted, ap one_if still.closed) in
    let most : (state_after s due).sending.snd_nxt ≤ all_of p = omega (arith, ap (λ (t : State). t.sending.snd_nxt) same, pair'.pair.there.alone.sends.most, all) in
    let settles : Settles s due = subst (λ (o : Option Due). IfSome o (Settles s)) is (due-settles s (has-room p q (side-pair w side h))) in
    let less = settles-less (all_of p) s due settles most in
    rw (all, same) less

-- THE BURST ENDS
burst-within : (fuel : ℕ) (w : WorldState) (side : Side) (due : Option Due) → due_of (party_of w side).endpoint ≡ due → IsKept w
    → due_left (all_of (party_of w side)) (party_of w side).endpoint < fuel → BurstEnds w side
unfolding world_after_all
burst-within fuel w side None is h less = (0, is)
burst-within zero w side (Some due) is h less = absurd (omega (arith, less))
burst-within (suc fuel) w side (Some due) is h less =
    let v = world_after w (Emit side) in
    let rest = burst-within fuel v side (due_of (party_of v side).endpoint) refl (steps-event w (Emit side) tt h).kept
    (omega (arith, less, emission-less w side due h is)) in
    (suc rest.0, rest.1)

-- with fuel enough
pub burst-ends : (w : WorldState) (side : Side) → IsKept w → BurstEnds w side
burst-ends w side h =
    burst-within (suc (due_left (all_of (party_of w side)) (party_of w side).endpoint)) w side (due_of (party_of w side).endpoint) refl h (omega arith)

-- in every world
pub bursts-end : (w : WorldState) → IsKept w → (side : Side) → BurstEnds w side
bursts-end w h side = burst-ends w side h

pub burst_lem : EachBurstEnds
burst_lem = in-every-world (λ w. (side : Side) → BurstEnds w side) bursts-end
