use Rattle.std.proofs.Common.{◌≡◌, drop}
use Rattle.std.specs.Prelude.{map}
use Rattle.tcp_wire.specs.View.{block}
use Rattle.tcp_judge.specs.Reports.{block_finding}
use Rattle.tcp_judge.proofs.reports.block_finding.Given as goal

-- it is asked of the blocks that are left
abbrev pub invariant-loop-edges : goal.invariant-loop-edges
invariant-loop-edges g l = block_finding l.acked_number l.spans (map block l.blocks) ≡ block_finding l.acked_number l.spans (map block (drop l.edges-index l.blocks))
