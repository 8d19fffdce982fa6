-- More than one segment goes out as one only where all but the last are full, and the buffer has room.
use Rattle.std.proofs.Common.{◌≡◌, ℕ, zero, suc, subst, refl, sym, ap, ◌+◌, ◌-◌, ◌*◌, ◌/◌, ◌<◌, ◌≤◌, min, arith, mul-le-mul_right, div-mul-le_self}
use Rattle.std.proofs.lemmas.Bool.Decides.{nat_tests}
use Rattle.std.specs.Prelude.{Option, Some, None}
use Rattle.tcp_wire.specs.Wire.{header_len, max_len}
use Rattle.tcp_halves.specs.declared.sent.Sent.TheVariants.{NewText}
use Rattle.tcp_halves.specs.Config.{max_mss}
use Rattle.tcp_conn.specs.declared.emit.due.Due.{Due}
use Rattle.tcp_conn.specs.declared.emit.due.Due.TheVariants.{Text}
use Rattle.tcp_conn.specs.declared.emit.transmit.TheConstants.{EMIT_ROOM}
use Rattle.tcp_halves.specs.Sender.{IsSender}
use Rattle.tcp_conn.specs.State.{State, Sending}
use Rattle.tcp_conn.specs.Writing.{IsWritable}
use Rattle.tcp_conn.specs.Blocks.{blocks_to_report, sack_length}
use Rattle.tcp_conn.specs.Due.{due_of}
use Rattle.tcp_conn.specs.Train.{IsTogether, after_emissions, count_for, count_of_due, count_together, text_allowed, text_as_one, train_count}
use Rattle.tcp_conn.proofs.Segments.{report_options_short}
use Rattle.tcp_conn.proofs.Trains.{allowed-parts, is_new_text}

-- text that is allowed follows on what was sent
allowed-behind : (s : Sending) → 0 < text_allowed s → s.released < s.snd_nxt
allowed-behind s some = grind (arith, nat_tests)

-- all segments before the last are full
before-last : (more text each : ℕ) → 0 < each → suc more ≤ (text + (each - 1)) / each → more * each < text
before-last more text each some few =
    let step : suc more * each ≡ more * each + each = omega arith in
    omega (arith, step, some, mul-le-mul_right each few, div-mul-le_self (text + (each - 1)) each)

pub all-full : (count text each : ℕ) → 0 < each → count ≤ count_for text each → 0 < count → (count - 1) * each < text
all-full zero text each some few positive = absurd (omega (arith, positive))
all-full (suc more) text each some few positive =
    let same : more ≡ suc more - 1 = omega arith in
    subst (λ k. k * each < text) same (before-last more text each some few)

pub fit : (count room each : ℕ) → count ≤ room / each → count * each ≤ room
fit count room each few = omega (arith, mul-le-mul_right each few, div-mul-le_self room each)

pub together : (s : State) (most room start each : ℕ) → due_of s ≡ Some (Text (NewText start each)) → each ≤ max_mss → EMIT_ROOM ≤ room
    → 1 < count_together s most room (Text (NewText start each)) → IsTogether s start each (count_together s most room (Text (NewText start each))) room
together s most room start each due short large several =
    let count = count_together s most room (Text (NewText start each)) in
    let new = is_new_text s start each due in
    let allowed = all-full count (text_allowed s.sending) each new.some (omega (arith, several)) (omega (arith, several)) in
    record {
      several = several;
      follows = new.at;
      behind = allowed-behind s.sending (omega (arith, allowed));
      some = new.some;
      short = short;
      allowed = allowed;
      fits = omega (arith, large, report_options_short s, fit count (min room max_len - (header_len + sack_length (blocks_to_report s))) each (omega (arith, several)));
    }

-- their text can be written as that of one segment
pub whole-first : (count each : ℕ) → 1 < count → each ≤ count * each
whole-first zero each several = absurd (omega (arith, several))
whole-first (suc more) each several =
    let step : suc more * each ≡ more * each + each = omega arith in
    omega (arith, step)

pub all-but-one : (count each : ℕ) → 1 < count → each ≤ (count - 1) * each
all-but-one zero each several = absurd (omega (arith, several))
all-but-one (suc zero) each several = absurd (omega (arith, several))
all-but-one (suc (suc more)) each several =
    let same : suc more ≡ suc (suc more) - 1 = omega arith in
    let step : suc more * each ≡ more * each + each = omega arith in
    subst (λ k. each ≤ k * each) same (omega (arith, step))

pub run_writable : (s : State) (start each count room : ℕ) → IsTogether s start each count room → IsSender s.sending → EMIT_ROOM ≤ room
    → IsWritable s (Text (NewText start (text_as_one s.sending count each))) room
run_writable s start each count room run sound large =
    let allowed = allowed-parts s.sending (omega (arith, run.allowed)) in
    let first : each ≤ count * each = whole-first count each run.several in
    let second : each ≤ (count - 1) * each = all-but-one count each run.several in
    record {
      least = omega (arith, large);
      sendable = record {
        inside = λ _. omega (arith, run.follows, allowed.1, second, run.allowed);
        short = omega (arith, run.fits, first);
        most = omega (arith, run.follows, allowed.0, allowed.1, second, run.allowed, sound.limit);
      };
      fits = omega (arith, run.fits, first);
    }

-- where nothing is due, nothing is emitted
pub none_emitted : (s : State) (most room : ℕ) → due_of s ≡ None → s ≡ after_emissions (train_count s most room) s
unfolding train_count after_emissions
none_emitted s most room none = sym (ap (λ (due : Option Due). after_emissions (count_of_due s most room due) s) none)

pub more-than-one : (n : ℕ) → 0 < n → (n ≡ 1 → ⊥) → 1 < n
more-than-one zero some several = absurd (omega (arith, some))
more-than-one (suc zero) some several = absurd (several refl)
more-than-one (suc (suc n)) some several = omega arith
