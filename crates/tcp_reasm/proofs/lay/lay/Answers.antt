use Rattle.std.proofs.Common.{◌≡◌, ◌+◌, ◌-◌, ℕ, List, arith, ap, sym, refl, ◌∙◌, length, take, drop}
use Rattle.std.specs.Prelude.{min}
use Rattle.tcp_reasm.specs.Reassembly.{Run, stamp_of_run}
use Rattle.tcp_reasm.specs.Rows.{newest}
use Rattle.tcp_reasm.specs.Store.{runs_in, ranked, laid, held_to, gap_to}
use Rattle.tcp_reasm.proofs.Gaps.{turn_goes_on}
use Rattle.std.proofs.lemmas.List.{drop_all}
use Rattle.tcp_reasm.proofs.Rings.{length_put, laid_nothing, take_put, drop_put, put_laid}
use Rattle.tcp_reasm.proofs.Turns.{turn_laid, turn_unread}
use Rattle.tcp_reasm.proofs.lay.lay.Goals as goal

pub returns-then-is_empty-clause-len : goal.returns-then-is_empty-clause-len
returns-then-is_empty-clause-len g c = ap length c.write.ensures.bytes ∙ length_put (c.args.unread + c.args.place) c.args.text.now c.args.ring.now.bytes

pub returns-then-is_empty-clause-unread : goal.returns-then-is_empty-clause-unread
returns-then-is_empty-clause-unread g c =
    ap (take c.args.unread) c.write.ensures.bytes ∙ take_put c.args.unread (c.args.unread + c.args.place) c.args.text.now c.args.ring.now.bytes (omega arith)

pub returns-then-is_empty-clause-window : goal.returns-then-is_empty-clause-window
returns-then-is_empty-clause-window g c =
    ap (drop c.args.unread) c.write.ensures.bytes
    ∙ drop_put c.args.unread c.args.place (c.args.unread + c.args.place) c.args.text.now c.args.ring.now.bytes refl
    ∙ put_laid (newest c.args.table.now.base c.args.table.now.len c.args.table.now.rows.items) c.args.place c.args.text.now (drop c.args.unread c.args.ring.now.bytes) (c.is_empty.ensures.0 c.if-is_empty.true)
