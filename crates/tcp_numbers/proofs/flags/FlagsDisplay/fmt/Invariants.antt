use Rattle.std.proofs.Common.{◌≡◌, map, take}
use Rattle.std.specs.Fmt.{HasWritten, IsPlainFormatter}
use Rattle.tcp_numbers.specs.Texts.{set_names}
use Rattle.tcp_numbers.proofs.FlagNames.{joined, is_none}
use Rattle.tcp_numbers.proofs.flags.FlagsDisplay.fmt.Given as goal

abbrev pub invariant-loop-is_set : goal.invariant-loop-is_set
invariant-loop-is_set g l =
    let names = set_names (map (λ flag. (flag.0, flag.1.now)) (take l.is_set-index l.is_set-items)) in
    (l.is_first ≡ is_none names) × (IsPlainFormatter l.fn.f → HasWritten g.W.Write.write_str_gives l.fn.f (joined names) l.f)
