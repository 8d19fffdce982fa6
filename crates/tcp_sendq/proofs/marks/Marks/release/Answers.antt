use Rattle.std.proofs.Common.{rules}
use Rattle.tcp_sendq.proofs.Intervals.{moved_down-from_retain}
use Rattle.tcp_sendq.proofs.marks.Marks.release.Goals as goal

pub returns-clause-items : goal.returns-clause-items
returns-clause-items g c =
    moved_down-from_retain _ _ _ (λ x b f' y called. (search rules, search rules, search rules)) _ _ c.retain_mut.ensures.filtered
