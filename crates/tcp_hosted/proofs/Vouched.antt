-- What a device has vouched for is the summed segment with the right checksum.
use Rattle.std.proofs.Common.{◌≡◌, ◌≤◌, ℕ, Bool, true, false, not, ◌&&◌, if◌then◌else◌, List, [], ◌∷◌, ◌||◌, Option, Some, None, Result, Ok, Err, length, refl, ap, ◌∙◌, arith}
use Rattle.tcp_wire.specs.Decoded.{decode_answer}
use Rattle.tcp_wire.specs.Wire.{Content}
use Rattle.tcp_wire.specs.declared.fault.DecodeError.{DecodeError}
unfoldable use Rattle.tcp_wire.specs.Vouched.{with_right_sum}
use Rattle.tcp_driver.specs.declared.machine.Report.{Report}
use Rattle.tcp_driver.specs.Driver.{Driving, after_arrival, after_taken, at, following, is_reset, is_withheld, way_of}
use Rattle.tcp_driver.specs.Times.{taken}
use Rattle.tcp_conn.specs.declared.arrive.brought.Brought.{Brought}
use Rattle.tcp_conn.specs.declared.arrive.guard.Intake.{Intake}
use Rattle.tcp_conn.specs.declared.arrive.judgement.Judgement.{Judgement}
use Rattle.tcp_conn.specs.Guard.{after_intake_of, brought_by_intake, duplicate_of_intake, rule_of_intake, urgency_of_intake, window_of_intake}
unfoldable use Rattle.tcp_conn.specs.Guard.{after_intake, intake_at_once, intake_brought, intake_duplicate, intake_rule, intake_window}
use Rattle.tcp_conn.specs.Phase.{is_time_wait}
use Rattle.tcp_conn.specs.State.{State}
use Rattle.tcp_conn.specs.Taking.{bytes_acked}
use Rattle.tcp_end.specs.declared.wired.Wired.{Wired}
use Rattle.tcp_end.specs.Wired.{brings_nothing, is_last_fin, is_of_connection, machine, report}
use Rattle.tcp_host.specs.Pair.{pair_of}
use Rattle.tcp_hosted.specs.Coming.{comes_to, is_pair}
use Rattle.tcp_hosted.specs.Ends.{VouchedIsSummed}

same-pair : (src dst bytes : List ℕ) → 20 ≤ length bytes → pair_of src dst bytes ≡ pair_of src dst (with_right_sum src dst bytes)
unfolding with_right_sum
same-pair src dst (a ∷ b ∷ c ∷ d ∷ rest) long = refl
same-pair src dst [] long = absurd (omega (arith, long))
same-pair src dst (a ∷ []) long = absurd (omega (arith, long))
same-pair src dst (a ∷ b ∷ []) long = absurd (omega (arith, long))
same-pair src dst (a ∷ b ∷ c ∷ []) long = absurd (omega (arith, long))

same-reset : (src dst bytes : List ℕ) → 20 ≤ length bytes → is_reset bytes ≡ is_reset (with_right_sum src dst bytes)
unfolding with_right_sum
same-reset src dst (a ∷ b ∷ c ∷ d ∷ e ∷ f ∷ g ∷ h ∷ i ∷ j ∷ k ∷ l ∷ m ∷ n ∷ rest) long = refl
same-reset src dst bytes long = absurd (omega (arith, long))

-- ---- WHATEVER WAS READ the two ways do the same with it
module _ (guard : Option ℕ) (s : State) (src dst : List ℕ) where
  abbrev by_way : Bool → Intake
  by_way vouched = record { is_vouched = vouched; guard = guard }

  same-state : (r : Result Content DecodeError) → after_intake_of (by_way true) s src dst r ≡ after_intake_of (by_way false) s src dst r
  same-state (Ok v) = refl
  same-state (Err fault) = refl

  same-duplicate : (r : Result Content DecodeError) → duplicate_of_intake (by_way true) s src dst r ≡ duplicate_of_intake (by_way false) s src dst r
  same-duplicate (Ok v) = refl
  same-duplicate (Err fault) = refl

  same-urgency : (r : Result Content DecodeError) → urgency_of_intake (by_way true) s src dst r ≡ urgency_of_intake (by_way false) s src dst r
  same-urgency (Ok v) = refl
  same-urgency (Err fault) = refl

  same-window : (r : Result Content DecodeError) → window_of_intake (by_way true) s src dst r ≡ window_of_intake (by_way false) s src dst r
  same-window (Ok v) = refl
  same-window (Err fault) = refl

  same-rule : (r : Result Content DecodeError) → rule_of_intake (by_way true) s src dst r ≡ rule_of_intake (by_way false) s src dst r
  same-rule (Ok v) = refl
  same-rule (Err fault) = refl

  same-brought : (r : Result Content DecodeError) → brought_by_intake (by_way true) s src dst r ≡ brought_by_intake (by_way false) s src dst r
  same-brought (Ok v) = refl
  same-brought (Err fault) = refl

  -- what the driver is told, of what each of them says
  told : Result Content DecodeError → State → Bool → Bool → Bool → Option Judgement → Brought → Report
  told r after duplicate urgent window rule brought = record {
    acked = bytes_acked s after;
    is_duplicate = duplicate;
    at_once = urgent;
    window = if window then Some after.sending.snd_wnd else None;
    repeats_fin = is_time_wait s.phase && (is_of_connection rule && is_last_fin s.receiving.rcv_nxt r);
    from_peer = is_of_connection rule && (not (brings_nothing brought) || window);
  }

  told-by : Bool → Result Content DecodeError → Report
  told-by vouched r =
      told r (after_intake_of (by_way vouched) s src dst r) (duplicate_of_intake (by_way vouched) s src dst r) (urgency_of_intake (by_way vouched) s src dst r)
      (window_of_intake (by_way vouched) s src dst r) (rule_of_intake (by_way vouched) s src dst r) (brought_by_intake (by_way vouched) s src dst r)

  same-told : (r : Result Content DecodeError) → told-by true r ≡ told-by false r
  unfolding told-by
  same-told (Ok v) = refl
  same-told (Err fault) = refl

  state-is : (bytes : List ℕ) → after_intake (by_way true) s src dst bytes ≡ after_intake (by_way false) s src dst (with_right_sum src dst bytes)
  unfolding after_intake
  state-is bytes = same-state (decode_answer src dst (with_right_sum src dst bytes))

  report-is : (bytes : List ℕ) → report (by_way true) s src dst bytes ≡ report (by_way false) s src dst (with_right_sum src dst bytes)
  unfolding after_intake intake_rule intake_at_once intake_duplicate intake_window intake_brought told told-by
  report-is bytes = same-told (decode_answer src dst (with_right_sum src dst bytes))

-- ---- SO DOES A DRIVER
following-is : {H : Type 0} (d : Driving (Wired H)) (now : ℕ) → State → Report → Driving (Wired H)
following-is {H = H} d now s report =
    following machine (record d.core { end = s }) (taken d.times ((machine {A = H}).una (record d.core { end = s })) report now) now

same-taken : {H : Type 0} (d : Driving (Wired H)) (now : ℕ) (src dst bytes : List ℕ)
    → after_taken machine d now src dst bytes (way_of d true) ≡ after_taken machine d now src dst (with_right_sum src dst bytes) (way_of d false)
unfolding following-is
same-taken d now src dst bytes =
    ap (λ s. following-is d now s (report (by_way d.times.limits.guard d.core.end src dst true) d.core.end src dst bytes)) (state-is d.times.limits.guard d.core.end src dst bytes)
    ∙ ap (λ r. following-is d now (after_intake (by_way d.times.limits.guard d.core.end src dst false) d.core.end src dst (with_right_sum src dst bytes)) r)
    (report-is d.times.limits.guard d.core.end src dst bytes)

after-is : {H : Type 0} (d : Driving (Wired H)) (now : ℕ) (src dst bytes : List ℕ) → 20 ≤ length bytes
    → after_arrival machine d now src dst bytes (way_of d true) ≡ after_arrival machine d now src dst (with_right_sum src dst bytes) (way_of d false)
after-is {H = H} d now src dst bytes long =
    ap (λ after. if d.times.bursting || is_withheld (machine {A = H}) d.core bytes then d else after) (same-taken d now src dst bytes)
    ∙ ap (λ reset. if d.times.bursting || ((machine {A = H}).ignores_resets d.core && reset) then d
    else after_taken machine d now src dst (with_right_sum src dst bytes) (way_of d false)) (same-reset src dst bytes long)

pub vouched_lem : (H : Type 0) → VouchedIsSummed H
vouched_lem H pair end now src dst bytes long =
    ap (λ after. if comes_to pair src dst bytes then after else end) (after-is end (at end now) src dst bytes long)
    ∙ ap (λ other. if is_pair pair other then after_arrival machine end (at end now) src dst (with_right_sum src dst bytes) (way_of end false) else end)
    (same-pair src dst bytes long)
