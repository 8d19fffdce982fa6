use Rattle.std.proofs.Common.{drop, decimal, sym, subst, arith}
use Rattle.std.proofs.lemmas.Fmt.{length-decimal-le, IsAscii-decimal}
use Rattle.std.proofs.lemmas.Str.{IsUtf8-append, IsUtf8-from_ascii}
use Rattle.std.specs.Str.{IsUtf8}
use Rattle.kit_text.proofs.room.put_number.Goals as goal

pub write_digits-requires : goal.write_digits-requires
write_digits-requires c = (omega (arith, length-decimal-le 20 c.args.n (omega arith) (omega (arith, c.ranges.n.fits)) c.ranges.n.fits), omega arith)

pub returns-clause-start : goal.returns-clause-start
returns-clause-start c = omega (arith, c.write_digits.ensures.start, length-decimal-le 20 c.args.n (omega arith) (omega (arith, c.ranges.n.fits)) c.ranges.n.fits)

pub returns-clause-utf8 : goal.returns-clause-utf8
returns-clause-utf8 c = λ behind.
    subst IsUtf8 (sym c.write_digits.ensures.written)
    (IsUtf8-append (decimal c.args.n) (drop c.args.end c.args.room.now) (IsUtf8-from_ascii (decimal c.args.n) (IsAscii-decimal c.args.n c.ranges.n.fits)) behind)
