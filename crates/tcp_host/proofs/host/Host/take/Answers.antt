use Rattle.std.proofs.Common.{◌≡◌, ◌≢◌, ℕ, Option, Some, subst, sym, ap, ◌∙◌}
use Rattle.std.specs.Option.{IsSomeAnd}
use Rattle.tcp_table.specs.declared.held.Id.{Id}
use Rattle.tcp_table.specs.Table.{held_at, id_at}
use Rattle.tcp_host.specs.Hosting.{Hosting, IsFor, open_at, origin_at}
use Rattle.tcp_host.specs.Pair.{pair_of}
use Rattle.tcp_host.specs.Record.{record_after}
use Rattle.tcp_host.proofs.Apart.{pair_cmp}
use Rattle.tcp_host.proofs.Doors.{origin_kept, other_door, others_kept}
use Rattle.tcp_host.proofs.Due.{is_for}
use Rattle.tcp_host.proofs.host.Host.take.Goals as goal

pub returns-in-Some-find-clause-other_listeners : goal.returns-in-Some-find-clause-other_listeners
returns-in-Some-find-clause-other_listeners g c slot not_opened =
    let found = c.in-Some-find.slot in
    let ends = c.self.inside.ends.ends in
    let new = c.arrive.new.self.ends in
    let src = c.args.src in
    let dst = c.args.dst in
    let bytes = c.args.bytes.now in
    let b = g.T.Timed.behaviour in
    let At : Option Id → Type 0 = λ o. IsSomeAnd o (λ origin. origin.slot ≡ slot) in
    let is : pair_of src dst bytes ≡ Some c.in-Some.pair = sym c.pair_of.ensures ∙ c.in-Some.is in
    let inside : IsFor pair_cmp ends src dst bytes found = is_for pair_cmp ends src dst bytes c.in-Some.pair found is c.in-Some-find.ensures.found in
    let for-it : IsFor pair_cmp c.args.self.now.ends src dst bytes found =
    subst (λ (h : Hosting g.row.T.Denot g.row.L.Denot). IsFor pair_cmp h.ends src dst bytes found) c.self.view_is inside in
    let kept : origin_at new found ≡ origin_at ends found =
    origin_kept ends new found (λ guest. b.arrived guest.end c.args.now src dst bytes c.args.is_vouched) c.in-Some-arrive.ensures.state in
    let apart : At (origin_at new found) → ⊥ = λ at.
    not_opened (found, for-it, subst (λ (h : Hosting g.row.T.Denot g.row.L.Denot). At (origin_at h.ends found)) c.self.view_is (subst At kept at)) in
    ap (λ t. held_at t slot) c.announce.ensures.listeners
    ∙ other_door c.self.inside.listeners c.is_open-was_open.result (open_at b new found) (origin_at new found) (id_at new found) slot apart
    ∙ ap (λ (h : Hosting g.row.T.Denot g.row.L.Denot). held_at h.listeners slot) c.self.view_is

pub returns-in-Some-find-2-clause-other_records : goal.returns-in-Some-find-2-clause-other_records
returns-in-Some-find-2-clause-other_records g c slot not_for =
    let found = c.in-Some-find-2.slot in
    let records = c.self.inside.records.ends in
    let src = c.args.src in
    let dst = c.args.dst in
    let bytes = c.args.bytes.now in
    let is : pair_of src dst bytes ≡ Some c.in-Some.pair = sym c.pair_of.ensures ∙ c.in-Some.is in
    let inside : IsFor pair_cmp records src dst bytes found = is_for pair_cmp records src dst bytes c.in-Some.pair found is c.in-Some-find-2.ensures.found in
    let for-it : IsFor pair_cmp c.args.self.now.records src dst bytes found =
    subst (λ (h : Hosting g.row.T.Denot g.row.L.Denot). IsFor pair_cmp h.records src dst bytes found) c.self.view_is inside in
    let apart : slot ≢ found = λ e. not_for (subst (λ (k : ℕ). IsFor pair_cmp c.args.self.now.records src dst bytes k) (sym e) for-it) in
    others_kept records c.arrive-in-Some-find-2.new.self.ends found (λ guest. record_after guest.end c.args.now src dst bytes) slot apart c.in-Some-arrive-2.ensures.state
    ∙ ap (λ (h : Hosting g.row.T.Denot g.row.L.Denot). held_at h.records slot) c.self.view_is
