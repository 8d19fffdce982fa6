use Rattle.std.proofs.Common.{ap}
use Rattle.tcp_wire.proofs.ReadOptions.{options_start, options_step, listed_all, read_up_to_start, read_up_to_more}
use Rattle.tcp_wire.proofs.option_reading.read_options.Goals as goal

pub loop-option-init : goal.loop-option-init
loop-option-init c = (options_start c.new-options.result.items c.args.area.now c.new-options.ensures, read_up_to_start c.args.area.ref_ptr c.new-options.result.items c.new-options.ensures)

pub loop-option-preserved : goal.loop-option-preserved
loop-option-preserved c = (
  options_step c.loop-option.options.items c.push.new.self.items c.in-Some.option c.loop-option.unread.0.now c.in-Some.behind.now c.args.area.now c.requires.fits c.in-Some.ensures.value c.push.ensures.items c.loop-option.invariant.0,
  read_up_to_more c.args.area.ref_ptr c.loop-option.unread.0.ref_ptr c.in-Some.behind.ref_ptr c.loop-option.options.items c.push.new.self.items c.in-Some.option c.push.ensures.items c.in-Some.ensures.body c.in-Some.ensures.behind c.loop-option.invariant.1,
)

pub returns-clause-options : goal.returns-clause-options
returns-clause-options c =
    ap (λ listed. listed.0) (listed_all c.loop-option.options.items c.loop-option.unread.0.now c.args.area.now c.in_default.ensures.value c.loop-option.invariant.0 c.requires.reads)

pub returns-clause-pad : goal.returns-clause-pad
returns-clause-pad c =
    ap (λ listed. listed.1) (listed_all c.loop-option.options.items c.loop-option.unread.0.now c.args.area.now c.in_default.ensures.value c.loop-option.invariant.0 c.requires.reads)
