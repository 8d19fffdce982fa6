use Rattle.std.proofs.Common.{◌*◌, refl, arith}
use Rattle.tcp_numbers.proofs.LaneSums.{at_most, none_taken, taken_more}
use Rattle.tcp_numbers.proofs.lanes.short_lane_sum.Goals as goal

pub add_short_load-requires-clause-most : goal.add_short_load-requires-clause-most
add_short_load-requires-clause-most c =
    let taken = c.loop-rest.invariant in
    at_most (255 * taken.loads) 65280 c.loop-rest.mixed c.loop-rest.lows (omega (arith, taken.len, c.requires, c.loop-rest-test.true)) taken.most

pub loop-rest-init : goal.loop-rest-init
loop-rest-init c = none_taken 8 16 c.args.bytes.now

pub loop-rest-preserved : goal.loop-rest-preserved
loop-rest-preserved c =
    taken_more 8 c.loop-rest.mixed c.loop-rest.lows c.add_short_load.result.0 c.add_short_load.result.1 c.loop-rest.rest.now _ _ (λ k. omega arith)
    c.loop-rest-test.true refl c.add_short_load.ensures.sum c.add_short_load.ensures.most c.loop-rest.invariant
