use Rattle.std.proofs.Common.{◌≡◌, drop}
use Rattle.tcp_recovery.specs.Rack.{deadline_of, sooner}
use Rattle.tcp_recovery.proofs.losses.deadline_of.Given as goal

abbrev pub invariant-loop-s : goal.invariant-loop-s
invariant-loop-s l = sooner l.at (deadline_of l.d l.reo_wnd (drop l.s-index l.all)) ≡ deadline_of l.d l.reo_wnd l.all
