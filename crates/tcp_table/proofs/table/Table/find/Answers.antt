use Rattle.std.proofs.Common.{◌≡◌, None, sym}
use Rattle.std.specs.BTreeMap.{get}
use Rattle.tcp_table.proofs.Placed.{is_distinct, lacks_key}
use Rattle.tcp_table.proofs.table.Table.find.Goals as goal

pub returns-in-None-clause-none : goal.returns-in-None-clause-none
returns-in-None-clause-none g c =
    let nowhere : get g.K.Ord.cmp c.self.inside.places c.args.key.now ≡ None = sym c.in-None.ensures.value in
    rw (← c.self.view_is) (lacks_key g.K.Ord.cmp g.met.K.Ord.total _ c.self.inside.places c.self.invariant c.args.key.now nowhere)

pub returns-in-Some-clause-distinct : goal.returns-in-Some-clause-distinct
returns-in-Some-clause-distinct g c = rw (← c.self.view_is) (is_distinct g.K.Ord.cmp g.met.K.Ord.total _ c.self.inside.places c.self.invariant)

pub returns-in-None-clause-distinct : goal.returns-in-None-clause-distinct
returns-in-None-clause-distinct g c = rw (← c.self.view_is) (is_distinct g.K.Ord.cmp g.met.K.Ord.total _ c.self.inside.places c.self.invariant)
