-- WITHOUT A GUARD bytes come in as `arrive` takes them, summed or vouched for.
use Rattle.std.specs.Prelude.{◌≡◌, ℕ, Bool, false, true, refl, if◌then◌else◌, List, Option, None, Result, Ok, Err}
use Rattle.tcp_wire.specs.Decoded.{decode_answer}
use Rattle.tcp_wire.specs.Vouched.{with_right_sum}
use Rattle.tcp_wire.specs.Wire.{Content}
use Rattle.tcp_wire.specs.declared.fault.DecodeError.{DecodeError}
use Rattle.tcp_conn.specs.declared.arrive.guard.Intake.{Intake}
use Rattle.tcp_conn.specs.Arrival.{after_reading, answer_to_reading}
unfoldable use Rattle.tcp_conn.specs.Arrival.{after_arrival, arrival_answer}
use Rattle.tcp_conn.specs.AtOnce.{is_urgent_reading}
unfoldable use Rattle.tcp_conn.specs.AtOnce.{answers_at_once}
use Rattle.tcp_conn.specs.Guard.{after_intake_of, answer_to_intake, brought_by_intake, bytes_read, duplicate_of_intake, rule_of_intake, urgency_of_intake, window_of_intake}
unfoldable use Rattle.tcp_conn.specs.Guard.{after_intake, guarded, intake_answer, intake_at_once, intake_brought, intake_duplicate, intake_rule, intake_window}
use Rattle.tcp_conn.specs.State.{State}
use Rattle.tcp_conn.specs.Taking.{brought_reading, is_duplicate_reading, rule_of_reading, takes_window_reading}
unfoldable use Rattle.tcp_conn.specs.Taking.{brought, is_duplicate, is_window_taken, rule_of}

-- no guard, whoever has summed the bytes
abbrev pub unguarded : Bool → Intake
unguarded vouched = record { is_vouched = vouched; guard = None }

-- ---- WHAT WAS READ of them decides
module _ (vouched : Bool) (s : State) (src dst : List ℕ) where
  answer-reading : (r : Result Content DecodeError) → answer_to_intake (unguarded vouched) s src dst r ≡ answer_to_reading s src dst r
  unfolding guarded
  answer-reading (Ok v) = refl
  answer-reading (Err fault) = refl

  after-reading : (r : Result Content DecodeError) → after_intake_of (unguarded vouched) s src dst r ≡ after_reading s src dst r
  unfolding guarded
  after-reading (Ok v) = refl
  after-reading (Err fault) = refl

  rule-reading : (r : Result Content DecodeError) → rule_of_intake (unguarded vouched) s src dst r ≡ rule_of_reading s src dst r
  unfolding guarded
  rule-reading (Ok v) = refl
  rule-reading (Err fault) = refl

  at_once-reading : (r : Result Content DecodeError) → urgency_of_intake (unguarded vouched) s src dst r ≡ is_urgent_reading s src dst r
  unfolding guarded
  at_once-reading (Ok v) = refl
  at_once-reading (Err fault) = refl

  duplicate-reading : (r : Result Content DecodeError) → duplicate_of_intake (unguarded vouched) s src dst r ≡ is_duplicate_reading s src dst r
  unfolding guarded
  duplicate-reading (Ok v) = refl
  duplicate-reading (Err fault) = refl

  window-reading : (r : Result Content DecodeError) → window_of_intake (unguarded vouched) s src dst r ≡ takes_window_reading s src dst r
  unfolding guarded
  window-reading (Ok v) = refl
  window-reading (Err fault) = refl

  brought-reading : (r : Result Content DecodeError) → brought_by_intake (unguarded vouched) s src dst r ≡ brought_reading s src dst r
  unfolding guarded
  brought-reading (Ok v) = refl
  brought-reading (Err fault) = refl

-- ---- ANY BYTES
module _ (vouched : Bool) (s : State) (src dst bytes : List ℕ) where
  abbrev read : List ℕ
  read = bytes_read (unguarded vouched) src dst bytes

  pub same-answer : intake_answer (unguarded vouched) s src dst bytes ≡ arrival_answer s src dst read
  unfolding intake_answer arrival_answer
  same-answer = answer-reading vouched s src dst (decode_answer src dst read)

  pub same-after : after_intake (unguarded vouched) s src dst bytes ≡ after_arrival s src dst read
  unfolding after_intake after_arrival
  same-after = after-reading vouched s src dst (decode_answer src dst read)

  pub same-rule : intake_rule (unguarded vouched) s src dst bytes ≡ rule_of s src dst read
  unfolding intake_rule rule_of
  same-rule = rule-reading vouched s src dst (decode_answer src dst read)

  pub same-at_once : intake_at_once (unguarded vouched) s src dst bytes ≡ answers_at_once s src dst read
  unfolding intake_at_once answers_at_once
  same-at_once = at_once-reading vouched s src dst (decode_answer src dst read)

  pub same-duplicate : intake_duplicate (unguarded vouched) s src dst bytes ≡ is_duplicate s src dst read
  unfolding intake_duplicate is_duplicate
  same-duplicate = duplicate-reading vouched s src dst (decode_answer src dst read)

  pub same-window : intake_window (unguarded vouched) s src dst bytes ≡ is_window_taken s src dst read
  unfolding intake_window is_window_taken
  same-window = window-reading vouched s src dst (decode_answer src dst read)

  pub same-brought : intake_brought (unguarded vouched) s src dst bytes ≡ brought s src dst read
  unfolding intake_brought brought
  same-brought = brought-reading vouched s src dst (decode_answer src dst read)
