-- What an emission makes of the connection and the pacer, step by step: the steps are small, since what they make is large.
use Rattle.std.proofs.Common.{◌≡◌, ℕ, Bool, Option, ap, ◌∙◌}
use Rattle.std.specs.Prelude.{is_some}
use Rattle.tcp_congestion.specs.Control.{Control}
use Rattle.tcp_end.specs.declared.wired.Wired.{Wired}
use Rattle.tcp_repair.specs.Repairing.{Repaired}
use Rattle.tcp_steady.specs.declared.steady.Steady.{Steady}
use Rattle.tcp_steady.specs.Steady.{asked_pacer, emitted_first, end_of, flight_of, pacer_behind}

module _ {W B A T : Type 0} (c : Control W) where
  pub emitted_by : (s paced after : Steady W B A) (now window flight : ℕ) (is_sent : Bool) (sent first : Option T) (r whole : Repaired (Wired B) W)
      → paced ≡ record s { pacer = asked_pacer c s now }
      → after ≡ record paced { repairing = r; pacer = pacer_behind c r paced.pacer is_sent flight window }
      → flight ≡ flight_of (end_of s) → is_sent ≡ is_some sent → sent ≡ first → r ≡ whole → after ≡ emitted_first c s now window first whole
  emitted_by s paced after now window flight is_sent sent first r whole asked behind counted said same left =
      behind
      ∙ ap (λ (x : Steady W B A). record x { repairing = r; pacer = pacer_behind c r x.pacer is_sent flight window }) asked
      ∙ ap (λ (f : ℕ). record s { repairing = r; pacer = pacer_behind c r (asked_pacer c s now) is_sent f window }) counted
      ∙ ap (λ (b : Bool). record s { repairing = r; pacer = pacer_behind c r (asked_pacer c s now) b (flight_of (end_of s)) window }) said
      ∙ ap (λ (o : Option T). record s { repairing = r; pacer = pacer_behind c r (asked_pacer c s now) (is_some o) (flight_of (end_of s)) window }) same
      ∙ ap (λ (q : Repaired (Wired B) W). emitted_first c s now window first q) left
