use Rattle.std.proofs.Common.{arith}
use Rattle.tcp_wire.proofs.segment.Segment.is_valid.Goals as goal

pub fits_after-requires : goal.fits_after-requires
fits_after-requires c = omega arith
