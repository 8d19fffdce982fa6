-- WHAT AN END EMITS is of form.
use Rattle.std.proofs.Common.{◌≡◌, ℕ, ◌+◌, List, [], ◌∷◌, ◌++◌, refl, ◌≤◌}
use Rattle.std.specs.Prelude.{Bool, true, false, if◌then◌else◌, Option, Some, None, IfSome}
use Rattle.std.specs.Prelude.{is_some}
use Rattle.tcp_wire.specs.Flags.{syn, rst, ack, has}
use Rattle.tcp_wire.specs.Wire.{Content}
use Rattle.tcp_conn.specs.declared.emit.due.Due.{Due}
use Rattle.tcp_conn.specs.declared.emit.due.Due.TheVariants.{Reset, Syn, Acknowledgement}
use Rattle.tcp_conn.specs.State.{State}
use Rattle.tcp_conn.specs.Forms.{segment_of}
use Rattle.tcp_replay.specs.Alone.{IsAlone}
use Rattle.tcp_replay.proofs.one_end.AloneEmissions.{GoesOutAlone}
use Rattle.std.specs.Prelude.{not, ◌&&◌, unwrap_or}
use Rattle.std.proofs.lemmas.Bool.{cond_both, le-ltb}
use Rattle.tcp_conn.specs.Blocks.{blocks_to_report, sack_options}
use Rattle.tcp_halves.specs.declared.link.WaitingReset.{WaitingReset}
use Rattle.tcp_conn.specs.Forms.{shift_offered, is_sack_offered, scale_options, permission_options, syn_segment, plain_segment, reset_segment, waiting_segment}
use Rattle.tcp_replay.proofs.pair.Emissions.{syn-bits, due-bits}
use Rattle.tcp_judge.specs.Rules.{any_syn_option, any_great_shift, has_stray_option, lacks_ack, form_finding}
use Rattle.tcp_judge.proofs.Streams.{unless}

form-none : (v : Content) → has_stray_option v ≡ false → any_great_shift v.options ≡ false → lacks_ack v ≡ false → form_finding v ≡ None
form-none v a b c = rw (a, b, c) refl

reset-lacks : (acked_number : Bool) → (not (has ack (rst + (if acked_number then ack else 0))) && not (has syn (rst + (if acked_number then ack else 0)))
    && not (has rst (rst + (if acked_number then ack else 0)))) ≡ false
reset-lacks true = refl
reset-lacks false = refl

reset-stray : (acked_number : Bool) → (not (has syn (rst + (if acked_number then ack else 0))) && false) ≡ false
reset-stray true = refl
reset-stray false = refl

syn-shift : (shift : Option ℕ) (offered : Bool) → IfSome shift (λ n. n ≤ 14) → any_great_shift (scale_options shift ++ permission_options offered) ≡ false
syn-shift None true h = refl
syn-shift None false h = refl
syn-shift (Some n) true h = rw (le-ltb 14 n h) refl
syn-shift (Some n) false h = rw (le-ltb 14 n h) refl

config-shift : (shift : Option ℕ) → unwrap_or shift 0 ≤ 14 → IfSome shift (λ n. n ≤ 14)
config-shift None h = tt
config-shift (Some n) h = h

offered-shift : (s : State) → IfSome s.config.window_shift (λ n. n ≤ 14) → IfSome (shift_offered s) (λ n. n ≤ 14)
offered-shift s h =
    cond_both (s.receiving.opened && not s.link.scaling) None s.config.window_shift (λ (o : Option ℕ). IfSome o (λ n. n ≤ 14)) (λ _. tt) (λ _. h)

sack-no_syn : (blocks : List (ℕ × ℕ)) → (any_syn_option (sack_options blocks) ≡ false) × (any_great_shift (sack_options blocks) ≡ false)
sack-no_syn [] = (refl, refl)
sack-no_syn (block ∷ blocks) = (refl, refl)

plain-form : (s : State) (due : Due) → form_finding (plain_segment s due) ≡ None
plain-form s due =
    let bits = due-bits s.sending due in
    let none = sack-no_syn (blocks_to_report s) in
    form-none (plain_segment s due)
    (unless (not (has syn (plain_segment s due).flags)) (any_syn_option (sack_options (blocks_to_report s))) (λ _. none.0)) none.1
    (rw bits.3 refl)

syn-lacks : (opened : Bool) → (not (has ack (syn + (if opened then ack else 0))) && not (has syn (syn + (if opened then ack else 0)))
    && not (has rst (syn + (if opened then ack else 0)))) ≡ false
syn-lacks true = refl
syn-lacks false = refl

syn-form : (s : State) → IfSome s.config.window_shift (λ n. n ≤ 14) → form_finding (syn_segment s) ≡ None
syn-form s h =
    let bits = syn-bits s.receiving.opened in
    form-none (syn_segment s) (rw bits.0 refl) (syn-shift (shift_offered s) (is_sack_offered s) (offered-shift s h))
    (syn-lacks s.receiving.opened)

waiting-form : (s : State) (waiting : Option WaitingReset) → form_finding (waiting_segment s waiting) ≡ None
waiting-form s None = plain-form s Acknowledgement
waiting-form s (Some reset) = form-none (reset_segment s reset) (reset-stray (is_some reset.ack)) refl (reset-lacks (is_some reset.ack))

pub due-form : (s : State) (accepted : List ℕ) (closed : Bool) (due : Due) → GoesOutAlone s accepted closed due → IsAlone s accepted closed
    → form_finding (segment_of s due) ≡ None
unfolding segment_of
due-form s accepted closed Reset out a = waiting-form s s.pending.reset
due-form s accepted closed Syn out a = syn-form s (config-shift s.config.window_shift a.config.good.2)
due-form s accepted closed other out a = plain-form s other
