use Rattle.std.proofs.Common.{◌∙◌, arith}
use Rattle.tcp_numbers.proofs.LaneSums.{words_weighed}
use Rattle.tcp_numbers.proofs.lanes.weigh_short.Goals as goal

pub returns : goal.returns
returns c =
    words_weighed 8 0 c.args.mixed c.args.lows c.fits-mixed.0 c.fits-lows.0 c.fits-mixed.1 c.fits-lows.1 (omega arith) ∙ omega arith
