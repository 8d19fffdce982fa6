use Rattle.std.proofs.Common.{◌≡◌, ◌++◌, IfOk, IfSome, sym, subst}
use Rattle.capture_ends.specs.Captures.{CaptureContent, frames_behind}
use Rattle.capture_ends.proofs.capture.judge_capture.Goals as goal

pub returns-in-Pcap-clause-packets : goal.returns-in-Pcap-clause-packets
returns-in-Pcap-clause-packets g c =
    subst (λ f. IfOk c.read_records.result (λ (r : CaptureContent). IfSome (g.I.Input.remaining c.args.input.now) (λ bytes. r.packets ≡ frames_behind f (c.args.window.now ++ bytes))))
    (sym c.in-Pcap.is) c.read_records.ensures.packets

pub returns-in-Sections-clause-packets : goal.returns-in-Sections-clause-packets
returns-in-Sections-clause-packets g c =
    subst (λ f. IfOk c.read_sections.result (λ (r : CaptureContent). IfSome (g.I.Input.remaining c.args.input.now) (λ bytes. r.packets ≡ frames_behind f (c.args.window.now ++ bytes))))
    (sym c.in-Sections.is) c.read_sections.ensures.packets
