use Rattle.std.proofs.Common.{◌≡◌, drop}
use Rattle.tcp_recovery.specs.Rack.{lost_in}
use Rattle.tcp_recovery.proofs.losses.lost_in.Given as goal

abbrev pub invariant-loop-s : goal.invariant-loop-s
invariant-loop-s l = lost_in l.d l.reo_wnd l.now (drop l.s-index l.all) ≡ lost_in l.d l.reo_wnd l.now l.all
