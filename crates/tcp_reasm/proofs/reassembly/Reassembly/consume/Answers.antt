use Rattle.tcp_reasm.specs.Rows.{newest}
use Rattle.std.proofs.Common.{◌≡◌, ◌-◌, ℕ, List, ap, arith, ◌∙◌, length}
use Rattle.tcp_reasm.specs.declared.table.Run.{Run as Entry}
use Rattle.tcp_reasm.specs.Reassembly.{after_read}
use Rattle.tcp_reasm.proofs.Rings.{length_turned}
use Rattle.tcp_reasm.proofs.Views.{kept_sound, read_view, emptied_view, read_kept}
use Rattle.tcp_reasm.proofs.reassembly.Reassembly.consume.Goals as goal

pub returns-then-is_empty-clause-after : goal.returns-then-is_empty-clause-after
returns-then-is_empty-clause-after g c =
    let table : List Entry = (newest c.self.inside.table.base c.self.inside.table.len c.self.inside.table.rows.items) in
    let bare : length table ≡ 0 = c.is_empty.ensures.0 c.if-is_empty.true in
    emptied_view c.self.inside.ring.bytes c.rewind.new.self.bytes c.self.inside.unread c.min-count.result c.args.most table c.min-count.ensures c.self.invariant.0.fits c.self.invariant.0.inside c.rewind.ensures c.if-self-eq0.true bare
    ∙ ap (λ q. after_read q c.args.most) c.self.view_is

pub returns-then-is_empty-clause-sound : goal.returns-then-is_empty-clause-sound
returns-then-is_empty-clause-sound g c =
    let left : ℕ = c.self.inside.unread - c.min-count.result in
    kept_sound c.rewind.new.self.bytes left (newest c.self.inside.table.base c.self.inside.table.len c.self.inside.table.rows.items) (read_kept c.self.inside.ring.bytes c.rewind.new.self.bytes c.self.inside.unread left (newest c.self.inside.table.base c.self.inside.table.len c.self.inside.table.rows.items) c.self.invariant.0 c.rewind.ensures (omega arith))

pub returns-clause-after : goal.returns-clause-after
returns-clause-after g c =
    read_view c.self.inside.ring.bytes c.advance.new.self.bytes c.self.inside.unread c.min-count.result c.args.most (newest c.self.inside.table.base c.self.inside.table.len c.self.inside.table.rows.items) c.min-count.ensures c.self.invariant.0.fits c.self.invariant.0.inside c.advance.ensures.bytes
    ∙ ap (λ q. after_read q c.args.most) c.self.view_is

pub invariant_of-self-2 : goal.invariant_of-self-2
invariant_of-self-2 g c = (
  read_kept c.self.inside.ring.bytes c.advance.new.self.bytes c.self.inside.unread (c.self.inside.unread - c.min-count.result) (newest c.self.inside.table.base c.self.inside.table.len c.self.inside.table.rows.items) c.self.invariant.0
      (ap length c.advance.ensures.bytes ∙ length_turned c.min-count.result c.self.inside.ring.bytes) (omega arith),
  omega arith,
  c.self.invariant.2,
  c.self.invariant.3,
)

pub returns-clause-sound : goal.returns-clause-sound
returns-clause-sound g c = kept_sound c.advance.new.self.bytes (c.self.inside.unread - c.min-count.result) (newest c.self.inside.table.base c.self.inside.table.len c.self.inside.table.rows.items) (invariant_of-self-2 g c).0
