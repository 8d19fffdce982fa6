use Rattle.std.proofs.Common.{ℕ, refl, sym, subst}
use Rattle.capture_window.specs.Windows.{Counts}
use Rattle.capture_form.specs.Pcap.{record_at}
use Rattle.capture_window.proofs.Counting.{counts_start, counts_filled, counts_popped, counts_end}
use Rattle.capture_window.proofs.taking.take_frames.Goals as goal

pub loop-taker-init : goal.loop-taker-init
loop-taker-init g c = counts_start c.args.form (g.I.Input.remaining c.args.input.now) c.args.window.now

pub returns-then-not-branch : goal.returns-then-not-branch
returns-then-not-branch g c =
    counts_end c.args.form (g.I.Input.remaining c.args.input.now) (g.I.Input.remaining c.fill.new.input) c.args.window.now c.fill.new.window c.loop-taker.count
    (c.in_ok-fill.ensures.end cc) (c.in_ok-fill.ensures.met cc)
    (counts_filled c.args.form (g.I.Input.remaining c.args.input.now) (g.I.Input.remaining c.loop-taker.input) (g.I.Input.remaining c.fill.new.input) c.args.window.now c.loop-taker.window c.fill.new.window
    c.loop-taker.count c.loop-taker.invariant c.in_ok-fill.ensures.held)

pub loop-taker-preserved : goal.loop-taker-preserved
loop-taker-preserved g c =
    subst (λ (count : ℕ). Counts c.args.form (g.I.Input.remaining c.args.input.now) c.args.window.now count (g.I.Input.remaining c.fill.new.input) c.pass_record.new.window) (sym c.in_ok-count.ensures)
    (counts_popped c.args.form (g.I.Input.remaining c.args.input.now) (g.I.Input.remaining c.fill.new.input) c.args.window.now c.fill.new.window c.pass_record.new.window c.loop-taker.count c.in-Some.wire (record_at c.args.form c.fill.new.window) refl
    c.in-Some.ensures
    (counts_filled c.args.form (g.I.Input.remaining c.args.input.now) (g.I.Input.remaining c.loop-taker.input) (g.I.Input.remaining c.fill.new.input) c.args.window.now c.loop-taker.window c.fill.new.window
    c.loop-taker.count c.loop-taker.invariant c.in_ok-fill.ensures.held))
