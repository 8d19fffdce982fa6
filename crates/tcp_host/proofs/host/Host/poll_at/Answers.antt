use Rattle.std.proofs.Common.{◌≡◌, ℕ, Some}
use Rattle.tcp_host.specs.Hosting.{deadline_at}
use Rattle.tcp_host.specs.Record.{of_record}
use Rattle.tcp_host.proofs.Earliest.{of_one}
use Rattle.tcp_host.proofs.host.Host.poll_at.Goals as goal

pub returns-clause-of_one : goal.returns-clause-of_one
returns-clause-of_one g c =
    let ends = c.self.inside.ends.ends in
    let records = c.self.inside.records.ends in
    let P : ℕ → Type 0 = λ time. (slot : ℕ) × (deadline_at g.T.Timed.behaviour ends slot ≡ Some time) in
    let Q : ℕ → Type 0 = λ time. (slot : ℕ) × (deadline_at of_record records slot ≡ Some time) in
    rw (c.earlier.ensures, ← c.self.view_is)
    (of_one P Q c.poll_at.result c.poll_at-2.result c.poll_at.ensures.of_an_end c.poll_at-2.ensures.of_an_end)
