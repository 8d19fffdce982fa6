use Rattle.std.proofs.Common.{◌*◌, ap, subst, arith, length, length-drop}
use Rattle.tcp_wire.specs.Fault.{FirstFault}
use Rattle.tcp_wire.specs.Wire.{Content, data_offset}
use Rattle.tcp_judge.proofs.taken.read_taken.Goals as goal

-- where an option or the padding is at fault, length and data offset are right
pub read_around-requires-clause-least : goal.read_around-requires-clause-least
read_around-requires-clause-least c =
    let f = c.in-Err-BadOption in
    (subst (FirstFault c.args.src.0 c.args.dst.0 c.args.bytes.now) f.field-0-is ((c.parse.ensures.fault f.field-0).0 f.is)).0.0

pub read_around-requires-clause-inside : goal.read_around-requires-clause-inside
read_around-requires-clause-inside c =
    let f = c.in-Err-BadOption in
    (subst (FirstFault c.args.src.0 c.args.dst.0 c.args.bytes.now) f.field-0-is ((c.parse.ensures.fault f.field-0).0 f.is)).2.1

pub read_around-requires-in-Err-BadPadding-clause-least : goal.read_around-requires-in-Err-BadPadding-clause-least
read_around-requires-in-Err-BadPadding-clause-least c =
    let f = c.in-Err-BadPadding in
    (subst (FirstFault c.args.src.0 c.args.dst.0 c.args.bytes.now) f.field-0-is ((c.parse.ensures.fault f.field-0).0 f.is)).0.0

pub read_around-requires-in-Err-BadPadding-clause-inside : goal.read_around-requires-in-Err-BadPadding-clause-inside
read_around-requires-in-Err-BadPadding-clause-inside c =
    let f = c.in-Err-BadPadding in
    (subst (FirstFault c.args.src.0 c.args.dst.0 c.args.bytes.now) f.field-0-is ((c.parse.ensures.fault f.field-0).0 f.is)).2.1

pub returns-in-Err-BadOption-clause-short : goal.returns-in-Err-BadOption-clause-short
returns-in-Err-BadOption-clause-short c =
    let f = c.in-Err-BadOption in
    let fault = subst (FirstFault c.args.src.0 c.args.dst.0 c.args.bytes.now) f.field-0-is ((c.parse.ensures.fault f.field-0).0 f.is) in
    omega (arith, ap (λ (v : Content). length v.text) c.read_around.ensures, length-drop (4 * data_offset c.args.bytes.now) c.args.bytes.now, fault.0.1, fault.2.0)

pub returns-in-Err-BadPadding-clause-short : goal.returns-in-Err-BadPadding-clause-short
returns-in-Err-BadPadding-clause-short c =
    let f = c.in-Err-BadPadding in
    let fault = subst (FirstFault c.args.src.0 c.args.dst.0 c.args.bytes.now) f.field-0-is ((c.parse.ensures.fault f.field-0).0 f.is) in
    omega (arith, ap (λ (v : Content). length v.text) c.read_around-in-Err-BadPadding.ensures, length-drop (4 * data_offset c.args.bytes.now) c.args.bytes.now, fault.0.1, fault.2.0)

pub read_around-requires-clause-short : goal.read_around-requires-clause-short
read_around-requires-clause-short c =
    let f = c.in-Err-BadOption in
    (subst (FirstFault c.args.src.0 c.args.dst.0 c.args.bytes.now) f.field-0-is ((c.parse.ensures.fault f.field-0).0 f.is)).0.1

pub read_around-requires-clause-behind : goal.read_around-requires-clause-behind
read_around-requires-clause-behind c =
    let f = c.in-Err-BadOption in
    (subst (FirstFault c.args.src.0 c.args.dst.0 c.args.bytes.now) f.field-0-is ((c.parse.ensures.fault f.field-0).0 f.is)).2.0

pub read_around-requires-in-Err-BadPadding-clause-short : goal.read_around-requires-in-Err-BadPadding-clause-short
read_around-requires-in-Err-BadPadding-clause-short c =
    let f = c.in-Err-BadPadding in
    (subst (FirstFault c.args.src.0 c.args.dst.0 c.args.bytes.now) f.field-0-is ((c.parse.ensures.fault f.field-0).0 f.is)).0.1

pub read_around-requires-in-Err-BadPadding-clause-behind : goal.read_around-requires-in-Err-BadPadding-clause-behind
read_around-requires-in-Err-BadPadding-clause-behind c =
    let f = c.in-Err-BadPadding in
    (subst (FirstFault c.args.src.0 c.args.dst.0 c.args.bytes.now) f.field-0-is ((c.parse.ensures.fault f.field-0).0 f.is)).2.0
