use Rattle.std.proofs.Common.{◌*◌, ◌/◌, refl, arith}
use Rattle.std.proofs.lemmas.List.{length-take-le}
use Rattle.tcp_numbers.proofs.LaneSums.{at_most, taken_more, all_taken}
use Rattle.tcp_numbers.proofs.lanes.lane_sum.Goals as goal

pub add_load-requires-clause-most : goal.add_load-requires-clause-most
add_load-requires-clause-most c =
    let taken = c.loop-front.invariant.taken in
    let len = length-take-le (c.min.result / 32 * 32) c.args.bytes.now c.loop-front.invariant.inside in
    at_most (255 * taken.loads) 65280 c.loop-front.mixed c.loop-front.lows
    (omega (arith, taken.len, len, c.loop-front.invariant.few, c.loop-front-test.true)) taken.most

pub loop-front-preserved : goal.loop-front-preserved
loop-front-preserved c = record {
  inside = c.loop-front.invariant.inside;
  few = c.loop-front.invariant.few;
  loads = c.loop-front.invariant.loads;
  taken = taken_more 16 c.loop-front.mixed c.loop-front.lows c.add_load.result.0 c.add_load.result.1 c.loop-front.front.now _ _ (λ k. omega arith) c.loop-front-test.true refl
      c.add_load.ensures.sum c.add_load.ensures.most c.loop-front.invariant.taken;
}

pub returns-clause-sum : goal.returns-clause-sum
returns-clause-sum c =
    let all = all_taken (c.min.result / 32 * 32) c.loop-front.mixed c.loop-front.lows c.loop-front.front.now c.args.bytes.now _ c.loop-front.invariant.inside
    c.loop-front.invariant.loads refl
    c.loop-front-test.false c.loop-front.invariant.taken in
    omega (arith, all, c.weigh.ensures)
