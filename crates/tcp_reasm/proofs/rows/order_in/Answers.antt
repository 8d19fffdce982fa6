use Rattle.std.proofs.Common.{◌≡◌, ◌+◌, ◌-◌, ◌∷◌, ℕ, List, ap, sym, ◌∙◌, refl, arith, length, length-drop, drop}
use Rattle.std.proofs.lemmas.List.{map-set, length-map, length-set}
use Rattle.std.proofs.lemmas.List.Edits.{paste_none}
use Rattle.std.proofs.Math.Seq.{map-set_same, paste}
use Rattle.tcp_reasm.specs.declared.rows.Row.{Row}
use Rattle.tcp_reasm.specs.Rows.{span_of, orders, at}
use Rattle.tcp_reasm.proofs.Fields.{order_at}
use Rattle.tcp_reasm.proofs.Orders.{turn, later, behind, put_in}
use Rattle.tcp_reasm.proofs.rows.order_in.Goals as goal

none : (n : ℕ) → 0 ≡ n - n
none n = omega arith

pub loop-next-init : goal.loop-next-init
loop-next-init c = record {
  least = omega arith;
  most = omega arith;
  size = refl;
  order =
      paste_none (orders c.args.rows.now) c.args.index (c.args.id ∷ drop c.args.index (orders c.args.rows.now))
      ∙ ap (paste (orders c.args.rows.now) c.args.index (c.args.id ∷ drop c.args.index (orders c.args.rows.now))) (none c.args.index);
  moved = ap (at (c.args.id ∷ drop c.args.index (orders c.args.rows.now))) (none c.args.index);
  olders = refl;
  newers = refl;
  spans = refl;
}

pub loop-next-preserved : goal.loop-next-preserved
loop-next-preserved c =
    let d : List ℕ = orders c.args.rows.now in
    let s : List ℕ = c.args.id ∷ drop c.args.index d in
    let n : ℕ = c.loop-next.next - c.args.index in
    let size : length d ≡ length c.args.rows.now = length-map c.args.rows.now (λ (row : Row). row.order) in
    let more : c.loop-next.next + 1 - c.args.index ≡ n + 1 = omega (arith, c.loop-next.invariant.least) in
    record {
      least = omega (arith, c.loop-next.invariant.least);
      most = omega (arith, c.loop-next-test.true);
      size = length-set _ _ _ ∙ c.loop-next.invariant.size;
      order =
          map-set (λ (row : Row). row.order) _ _ _
          ∙ (turn d s (orders c.loop-next.rows) c.args.index n c.loop-next.next c.loop-next.moved c.loop-next.invariant.order (omega (arith, c.loop-next.invariant.least)) c.loop-next.invariant.moved (omega (arith, size, c.requires.room, c.loop-next-test.true)) (omega (arith, length-drop c.args.index d, size, c.requires.room, c.loop-next.invariant.least, c.loop-next-test.true))
          ∙ ap (paste d c.args.index s) (sym more));
      moved =
          order_at c.loop-next.rows c.loop-next.next
          ∙ (later d s (orders c.loop-next.rows) c.args.index n c.loop-next.next c.loop-next.invariant.order (omega (arith, c.loop-next.invariant.least)) (omega (arith, size, c.requires.room, c.requires.within)) (omega (arith, length-drop c.args.index d, size, c.requires.room, c.loop-next.invariant.least, c.loop-next-test.true))
          ∙ sym (behind d c.args.id c.args.index c.loop-next.next c.loop-next.invariant.least));
      olders = map-set_same (λ (row : Row). row.older) _ _ _ _ refl ∙ c.loop-next.invariant.olders;
      newers = map-set_same (λ (row : Row). row.newer) _ _ _ _ refl ∙ c.loop-next.invariant.newers;
      spans = map-set_same span_of _ _ _ _ refl ∙ c.loop-next.invariant.spans;
    }

pub returns-clause-orders : goal.returns-clause-orders
returns-clause-orders c =
    put_in (orders c.args.rows.now) (orders c.loop-next.rows) c.args.id c.args.index c.args.len c.loop-next.next c.loop-next.invariant.order (omega (arith, c.loop-next.invariant.most, c.loop-next-test.false)) c.requires.within
    (omega (arith, length-map c.args.rows.now (λ (row : Row). row.order), c.requires.room))

pub returns-clause-olders : goal.returns-clause-olders
returns-clause-olders c = c.loop-next.invariant.olders

pub returns-clause-newers : goal.returns-clause-newers
returns-clause-newers c = c.loop-next.invariant.newers

pub returns-clause-spans : goal.returns-clause-spans
returns-clause-spans c = c.loop-next.invariant.spans
