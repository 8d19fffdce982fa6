-- What is in flight is kept in order, and in few stretches, whatever is called.
use Rattle.std.proofs.Common.{◌≡◌, ℕ, suc, ◌+◌, ◌<◌, ◌≤◌, List, length, arith}
use Rattle.std.specs.Prelude.{max}
use Rattle.tcp_recovery.specs.declared.stretch.Stretch.{Stretch}
use Rattle.tcp_recovery.specs.declared.delivered.Delivered.{Delivered}
use Rattle.tcp_recovery.specs.Stretches.{AreInOrder, appended, before, behind, cut_out, fitted, without}
use Rattle.tcp_recovery.specs.Rack.{Flight, IsFlight}
use Rattle.tcp_recovery.proofs.Order.{appended-order, appended-few, cut-few, cut-order, fitted-few, fitted-order, higher, pieces, without-few, without-order}

-- a list that is in order and has few stretches
pub record IsKept (to : ℕ) (all : List Stretch) : Type 0 where
  pub order : AreInOrder 0 to all
  pub few : length all ≤ 64

pub kept-new : (to start end now span : ℕ) (all : List Stretch) → to ≤ start → start < end → IsKept to all
    → IsKept end (fitted (appended start end now span all))
kept-new to start end now span all h some k = record {
  order = fitted-order 0 end (appended start end now span all) (appended-order 0 to start end now span all h some k.order);
  few =
      let n : length (appended start end now span all) ≤ suc (length all) = appended-few start end now span all in
      let few : length all ≤ 64 = k.few in
      fitted-few 64 (appended start end now span all) (omega (arith, n, few)) (omega arith);
}

pub kept-again : (to start end now : ℕ) (all : List Stretch) → start < end → IsKept to all
    → IsKept (max to end) (fitted (fitted (cut_out start end now all)))
kept-again to start end now all some k =
    let n : length (cut_out start end now all) ≤ suc (suc (length all)) = cut-few to start end now all (omega (arith, some)) k.order in
    let few : length all ≤ 64 = k.few in
    let once : length (fitted (cut_out start end now all)) ≤ 65 = fitted-few 65 (cut_out start end now all) (omega (arith, n, few)) (omega arith) in
    record {
      order = fitted-order 0 (max to end) (fitted (cut_out start end now all)) (fitted-order 0 (max to end) (cut_out start end now all) (cut-order to start end now all some k.order));
      few = fitted-few 64 (fitted (cut_out start end now all)) once (omega arith);
    }

pub kept-without : (to start end : ℕ) (all : List Stretch) → start ≤ end → IsKept to all → IsKept (max to end) (fitted (without start end all))
kept-without to start end all h k =
    let n : length (without start end all) ≤ suc (length all) = without-few to start end all h k.order in
    let few : length all ≤ 64 = k.few in
    record {
      order = fitted-order 0 (max to end) (without start end all) (without-order to start end all h k.order);
      few = fitted-few 64 (without start end all) (omega (arith, n, few)) (omega arith);
    }

-- ---- as what a flight always has
pub flight-new : (f : Flight) (all : List Stretch) (next : ℕ) (d : Delivered) (start end now span : ℕ) → IsFlight f → f.next ≤ start → start < end
    → all ≡ fitted (appended start end now span f.stretches) → next ≡ max f.next end
    → IsFlight (record { stretches = all; next = next; delivered = d })
flight-new f all next d start end now span k h some e m =
    let kept : IsKept end (fitted (appended start end now span f.stretches)) =
    kept-new f.next start end now span f.stretches h some (record { order = k.order; few = k.few }) in
    rw (e, m) (record { order = higher 0 end (max f.next end) (fitted (appended start end now span f.stretches)) (omega arith) kept.order; few = kept.few })

pub flight-again : (f : Flight) (all : List Stretch) (next : ℕ) (d : Delivered) (start end now : ℕ) → IsFlight f → start < end
    → all ≡ fitted (fitted (cut_out start end now f.stretches)) → next ≡ max f.next end
    → IsFlight (record { stretches = all; next = next; delivered = d })
flight-again f all next d start end now k some e m =
    let kept : IsKept (max f.next end) (fitted (fitted (cut_out start end now f.stretches))) =
    kept-again f.next start end now f.stretches some (record { order = k.order; few = k.few }) in
    rw (e, m) (record { order = kept.order; few = kept.few })

pub flight-without : (f : Flight) (all : List Stretch) (d : Delivered) (start end : ℕ) → IsFlight f → start ≤ end → end ≤ f.next
    → all ≡ fitted (without start end f.stretches) → IsFlight (record f { stretches = all; delivered = d })
flight-without f all d start end k h within e =
    let kept : IsKept (max f.next end) (fitted (without start end f.stretches)) =
    kept-without f.next start end f.stretches h (record { order = k.order; few = k.few }) in
    rw e (record { order = higher 0 (max f.next end) f.next (fitted (without start end f.stretches)) (omega (arith, within)) kept.order; few = kept.few })

-- cutting has room
pub has_room : (f : Flight) (start end : ℕ) → IsFlight f → start ≤ end
    → length (before start f.stretches) + length (behind end f.stretches) ≤ 65
has_room f start end k h =
    let few : length f.stretches ≤ 64 = k.few in
    let n : length (before start f.stretches) + length (behind end f.stretches) ≤ suc (length f.stretches) = pieces 0 f.next start end f.stretches h k.order in
    omega (arith, few, n)
