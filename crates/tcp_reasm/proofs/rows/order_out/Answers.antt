use Rattle.std.proofs.Common.{◌≡◌, ◌+◌, ◌-◌, ◌<◌, ℕ, List, ap, sym, ◌∙◌, refl, arith, length, length-drop, drop}
use Rattle.std.proofs.lemmas.List.{map-set, length-map, length-set, get_or-drop}
use Rattle.std.proofs.Math.Seq.{map-set_same, paste}
use Rattle.tcp_reasm.specs.declared.rows.Row.{Row}
use Rattle.tcp_reasm.specs.Rows.{span_of, orders, at}
use Rattle.tcp_reasm.proofs.Fields.{order_at}
use Rattle.tcp_reasm.proofs.Orders.{turn, later, taken_out}
use Rattle.tcp_reasm.proofs.rows.order_out.Goals as goal

pub loop-next-preserved : goal.loop-next-preserved
loop-next-preserved c =
    let d : List ℕ = orders c.args.rows.now in
    let s : List ℕ = drop c.args.past d in
    let n : ℕ = c.loop-next.next - c.args.past in
    let size : length d ≡ length c.args.rows.now = length-map c.args.rows.now (λ (row : Row). row.order) in
    let more : c.loop-next.next + 1 - c.args.past ≡ n + 1 = omega (arith, c.loop-next.invariant.least) in
    let place : c.args.past + n ≡ c.loop-next.next = omega (arith, c.loop-next.invariant.least) in
    let inside : n < length s = omega (arith, length-drop c.args.past d, size, c.requires.room, c.loop-next.invariant.least, c.loop-next-test.true) in
    let word =
    order_at c.loop-next.rows c.loop-next.next
    ∙ (later d s (orders c.loop-next.rows) c.args.first n c.loop-next.next c.loop-next.invariant.order (omega (arith, c.requires.ordered, place)) (omega (arith, size, c.requires.room, c.requires.within, c.requires.ordered)) (omega (arith, inside))
    ∙ (ap (at d) (sym place) ∙ sym (get_or-drop c.args.past d n 0))) in
    record {
      least = omega (arith, c.loop-next.invariant.least);
      most = omega (arith, c.loop-next-test.true);
      size = length-set _ _ _ ∙ c.loop-next.invariant.size;
      order =
          map-set (λ (row : Row). row.order) _ _ _
          ∙ (turn d s (orders c.loop-next.rows) c.args.first n (c.args.first + n) _ c.loop-next.invariant.order refl word (omega (arith, size, inside, length-drop c.args.past d, c.requires.ordered)) inside
          ∙ ap (paste d c.args.first s) (sym more));
      olders = map-set_same (λ (row : Row). row.older) _ _ _ _ refl ∙ c.loop-next.invariant.olders;
      newers = map-set_same (λ (row : Row). row.newer) _ _ _ _ refl ∙ c.loop-next.invariant.newers;
      spans = map-set_same span_of _ _ _ _ refl ∙ c.loop-next.invariant.spans;
    }

pub returns-clause-orders : goal.returns-clause-orders
returns-clause-orders c =
    taken_out (orders c.args.rows.now) (orders c.loop-next.rows) c.args.first c.args.past c.args.len c.loop-next.next c.loop-next.invariant.order (omega (arith, c.loop-next.invariant.most, c.loop-next-test.false)) (omega (arith, c.requires.ordered)) c.requires.within
    (omega (arith, length-map c.args.rows.now (λ (row : Row). row.order), c.requires.room))
