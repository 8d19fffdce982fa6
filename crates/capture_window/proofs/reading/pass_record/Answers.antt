use Rattle.std.proofs.Common.{◌≡◌, ◌-◌, ℕ, List, length, drop, Some, sym, ap, ◌∙◌, arith}
use Rattle.capture_form.specs.Pcap.{record_at}
use Rattle.capture_form.specs.View.{frame_content}
use Rattle.capture_window.proofs.Holding.{behind_record, popped_first}
use Rattle.capture_window.proofs.reading.pass_record.Goals as goal

pub overflow_sub-taken : goal.overflow_sub-taken
overflow_sub-taken g c =
    let is : record_at c.args.form c.args.window.now ≡ Some (frame_content c.in-Some.frame, c.in-Some.rest.now) = ap (record_at c.args.form) (sym c.bytes.ensures) ∙ c.in-Some.ensures in
    omega (arith, (behind_record c.args.form c.args.window.now c.in-Some.rest.now (frame_content c.in-Some.frame) is).0, ap length c.bytes-2.ensures)

pub returns : goal.returns
returns g c =
    let is : record_at c.args.form c.args.window.now ≡ Some (frame_content c.in-Some.frame, c.in-Some.rest.now) = ap (record_at c.args.form) (sym c.bytes.ensures) ∙ c.in-Some.ensures in
    popped_first c.args.form c.args.window.now c.in-Some.rest.now (frame_content c.in-Some.frame) is
    ∙ ap (λ (xs : List ℕ). Some (c.in-Some.frame.wire, drop (length xs - length c.in-Some.rest.now) c.args.window.now)) (sym c.bytes-2.ensures)
    ∙ ap (λ (bytes : List ℕ). Some (c.in-Some.frame.wire, bytes)) (sym c.pass.ensures)
