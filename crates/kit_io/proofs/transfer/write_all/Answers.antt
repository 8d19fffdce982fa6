use Rattle.std.proofs.Common.{◌+◌, take, drop, refl, arith, length-drop, take-append-drop, ◌∙◌}
use Rattle.std.proofs.lemmas.List.{take_rest}
use Rattle.kit_io.proofs.Transfers.{Appends-more, Appends-kept, Appends-nothing, take-more, some-written}
use Rattle.kit_io.proofs.transfer.write_all.Goals as goal

pub loop-at-preserved : goal.loop-at-preserved
loop-at-preserved g c =
    let at = c.loop-at.at in let bytes = c.args.bytes.now in
    let more = rw take_rest at c.in-Ok.ensures.bytes in
    let bound = rw take_rest at c.in-Ok.ensures.bound in (
      rw (← take-more at c.in-Ok.count (at + c.in-Ok.count) bytes refl) (Appends-more _ _ _ (take at bytes) _ c.loop-at.invariant.0 more),
      some-written _ _ _ _ c.in-Ok.count-test.1 c.in-Ok.ensures.failures ∙ c.loop-at.invariant.1,
      omega (arith, bound, length-drop at bytes),
    )

pub returns-in-Err-clause-front : goal.returns-in-Err-clause-front
returns-in-Err-clause-front g c =
    let at = c.loop-at.at in let bytes = c.args.bytes.now in
    record { front = take at bytes; rest = drop at bytes; whole = take-append-drop at bytes; appends = Appends-kept _ _ _ (take at bytes) c.loop-at.invariant.0 c.in-Err.ensures.bytes }

pub returns-in-Ok-eq0-clause-front : goal.returns-in-Ok-eq0-clause-front
returns-in-Ok-eq0-clause-front g c =
    let at = c.loop-at.at in let bytes = c.args.bytes.now in
    record { front = take at bytes; rest = drop at bytes; whole = take-append-drop at bytes; appends = Appends-nothing _ _ _ (take at bytes) _ c.in-Ok-eq0.field-0 (omega arith) c.loop-at.invariant.0 c.in-Ok-eq0.ensures.bytes }

pub returns-then-is_err-clause-front : goal.returns-then-is_err-clause-front
returns-then-is_err-clause-front g c =
    let at = c.loop-at.at in let bytes = c.args.bytes.now in
    record { front = take at bytes; rest = drop at bytes; whole = take-append-drop at bytes; appends = Appends-kept _ _ _ (take at bytes) c.loop-at.invariant.0 c.flush.ensures.bytes }
