use Rattle.std.proofs.Common.{sym}
use Rattle.tcp_table.proofs.Placed.{in_place_revalued}
use Rattle.tcp_table.proofs.table.Table.get_mut.Goals as goal

pub invariant_of-self-lent : goal.invariant_of-self-lent
invariant_of-self-lent g c w =
    in_place_revalued g.K.Ord.cmp g.met.K.Ord.total _ c.self.inside.places c.self.invariant c.args.slot c.in-Some.held.now (sym c.in-Some.ensures.value) w
