use Rattle.std.proofs.Common.{◌≡◌, ◌∙◌, ◌∷◌, ◌++◌, [], arith, List, length}
use Rattle.tcp_reasm.specs.declared.rows.Row.{Row}
use Rattle.tcp_reasm.specs.Rows.{olders, newers, without, loop_of, IsRing}
use Rattle.tcp_reasm.proofs.Fields.{near, older_at, newer_at, back_next, back_ring}
use Rattle.tcp_reasm.proofs.rows.to_back.Goals as goal

pub link-requires-clause-first : goal.link-requires-clause-first
link-requires-clause-first c = (near c.args.rows.now c.args.id c.requires.ring c.requires.row).1

pub link-requires-clause-second : goal.link-requires-clause-second
link-requires-clause-second c = (near c.args.rows.now c.args.id c.requires.ring c.requires.row).0

pub link-requires-2-clause-first : goal.link-requires-2-clause-first
link-requires-2-clause-first c =
    let rows : List Row = c.args.rows.now in
    let below = back_next (length rows) c.args.id _ _ _ (olders rows) (newers rows) (newers c.link.new.rows) c.requires.ring c.requires.row (newer_at rows c.args.id) (older_at rows c.args.id) c.link.ensures.newers (newer_at c.link.new.rows 0) in
    omega (arith, below, c.link.ensures.len)

made : (c : goal.After-rows-3-1) → IsRing c.link-3.new.rows × (loop_of c.link-3.new.rows ≡ without c.args.id (loop_of c.args.rows.now) ++ c.args.id ∷ [])
made c =
    let rows : List Row = c.args.rows.now in
    back_ring (length rows) (length c.link-3.new.rows) c.args.id _ _ _ (olders rows) (newers rows) _ _ _ _ _ _ (c.link-3.ensures.len ∙ (c.link-2.ensures.len ∙ c.link.ensures.len)) c.requires.ring c.requires.row (newer_at rows c.args.id) (older_at rows c.args.id)
    c.link.ensures.olders c.link.ensures.newers (newer_at c.link.new.rows 0) c.link-2.ensures.olders c.link-2.ensures.newers c.link-3.ensures.olders c.link-3.ensures.newers

pub returns-clause-ring : goal.returns-clause-ring
returns-clause-ring c = (made c).0

pub returns-clause-after : goal.returns-clause-after
returns-clause-after c = (made c).1
