use Rattle.std.proofs.Common.{◌+◌, ◌-◌, ◌≤◌, length, drop, subst, arith, add-one, length-drop}
use Rattle.std.proofs.lemmas.List.{take_all}
use Rattle.kit_text.specs.Cutting.{FindsWithin}
use Rattle.kit_text.proofs.Cuts.{slice_split-first, slice_split-nowhere}
use Rattle.kit_text.proofs.cutting.parted.Goals as goal

pub returns-in-Some-clause-pieces : goal.returns-in-Some-clause-pieces
returns-in-Some-clause-pieces c =
    let bytes = c.args.bytes.now in let i = c.in-Some.i in
    let found = subst (FindsWithin c.args.at bytes (length bytes)) c.in-Some.is c.requires in
    let whole : length (drop (i + 1) bytes) ≤ length bytes - (i + 1) = omega (arith, length-drop (i + 1) bytes) in
    rw (take_all _ _ whole, add-one) (slice_split-first c.args.at bytes i found.inside found.before found.here)

pub returns-in-None-clause-pieces : goal.returns-in-None-clause-pieces
returns-in-None-clause-pieces c =
    slice_split-nowhere c.args.at c.args.bytes.now (subst (FindsWithin c.args.at c.args.bytes.now (length c.args.bytes.now)) c.in-None.is c.requires)
