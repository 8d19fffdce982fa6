-- Who emits until nothing is left sends the acknowledgement that was pending: a waiting reset goes first, and then it.
use Rattle.std.proofs.Common.{◌≡◌, ℕ, ◌≤◌, Bool, true, false, if◌then◌else◌, List, [], ◌∷◌, Option, Some, None, refl, ap, sym, subst, ◌∙◌, IfSome, inl, inr, arith}
use Rattle.tcp_halves.specs.declared.link.WaitingReset.{WaitingReset}
use Rattle.tcp_conn.specs.declared.emit.due.Due.{Due}
use Rattle.tcp_conn.specs.declared.emit.due.Due.TheVariants.{Reset}
use Rattle.tcp_conn.specs.declared.pending.Pending.{Pending}
use Rattle.tcp_conn.specs.Due.{ack_alone, due_of, start_of}
use Rattle.tcp_conn.specs.Emission.{after_ack_alone, after_emission}
use Rattle.tcp_conn.specs.State.{State}
use Rattle.tcp_end.specs.declared.wired.Wired.{Wired}
use Rattle.tcp_replay.proofs.Words.{false≢true}
use Rattle.tcp_progress.proofs.Lemmas.{emission}
use Rattle.tcp_ends.specs.Pair.{Member, end_of, member_after_emission}
use Rattle.tcp_ends.specs.Quiet.{Emission, EmitsPending, EmittingAllEmitsPending, FindsNothing, member_after_emissions}
use Rattle.tcp_ends.proofs.Quietly.{free-of, holds_in}
use Rattle.tcp_ends.proofs.Resting.{quiet_lem}

-- A RESET goes out at once, whatever the window
reset-due : (s : State) (reset : WaitingReset) → s.pending.reset ≡ Some reset → due_of s ≡ Some Reset
unfolding due_of
reset-due s reset e = rw e refl

no-alone : (s : State) (reset : WaitingReset) → s.pending.reset ≡ Some reset → ack_alone s ≡ None
unfolding ack_alone
no-alone s reset e = rw e refl

reset-free : (s : State) (window : ℕ) (reset : WaitingReset) → s.pending.reset ≡ Some reset → holds_in s window ≡ false
reset-free s window reset e =
    let least : 0 ≤ s.sending.snd_una = omega arith in
    free-of s window (no-alone s reset e) (subst (λ (o : Option Due). IfSome o (λ due. start_of s.sending due ≤ s.sending.snd_una)) (sym (reset-due s reset e)) least)

-- and leaves all else that is pending
abbrev core_out : {H : Type 0} → Bool → State → Wired H
core_out held s = if held then record { end = after_ack_alone s } else record { end = after_emission s }

end-after : {H : Type 0} (m : Member H) (e : Emission) → holds_in (end_of m) e.window ≡ false
    → end_of (member_after_emission m e.now e.window e.out) ≡ after_emission (end_of m)
unfolding member_after_emission
end-after {H = H} m e free = ap (λ (held : Bool). (core_out {H = H} held (end_of m)).end) free

reset-gone : {H : Type 0} (m : Member H) (e : Emission) (reset : WaitingReset) → (end_of m).pending.reset ≡ Some reset
    → (end_of (member_after_emission m e.now e.window e.out)).pending ≡ record (end_of m).pending { reset = None }
reset-gone m e reset waits =
    let s = end_of m in
    ap (λ (t : State). t.pending) (end-after m e (reset-free s e.window reset waits) ∙ emission s Reset (reset-due s reset waits))

-- an emission before
emits-behind : {H : Type 0} (m : Member H) (e : Emission) (list : List Emission) → EmitsPending (member_after_emission m e.now e.window e.out) list
    → EmitsPending m (e ∷ list)
unfolding member_after_emissions
emits-behind m e list r = record {
  before = e ∷ r.before;
  emission = r.emission;
  after = r.after;
  form = ap (λ (l : List Emission). e ∷ l) r.form;
  no_reset = r.no_reset;
  no_syn = r.no_syn;
  has_ack = r.has_ack;
}

emits-by : {H : Type 0} (m : Member H) (waiting : Option WaitingReset) (list : List Emission) → (end_of m).pending.reset ≡ waiting
    → (end_of m).pending.syn ≡ false → (end_of m).pending.ack ≡ true → FindsNothing m list → EmitsPending m list
unfolding FindsNothing member_after_emissions
emits-by m waiting [] reset syn has_ack h = absurd h
emits-by m None (e ∷ list) reset syn has_ack h =
    record { before = []; emission = e; after = list; form = refl; no_reset = reset; no_syn = syn; has_ack = has_ack }
emits-by m (Some r) (e ∷ list) reset syn has_ack (inl none) =
    absurd (false≢true (sym (quiet_lem _ m.driving.core e.window none).no_ack ∙ has_ack))
emits-by m (Some r) (e ∷ list) reset syn has_ack (inr rest) =
    let same = reset-gone m e r reset in
    emits-behind m e list (emits-by (member_after_emission m e.now e.window e.out) None list (ap (λ (o : Pending). o.reset) same) (ap (λ (o : Pending). o.syn) same ∙ syn)
    (ap (λ (o : Pending). o.ack) same ∙ has_ack) rest)

pub emptying_lem : (H : Type 0) → EmittingAllEmitsPending H
emptying_lem H m list syn has_ack h = emits-by m (end_of m).pending.reset list refl syn has_ack h
