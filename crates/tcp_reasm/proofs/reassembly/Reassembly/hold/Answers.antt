use Rattle.tcp_reasm.specs.Rows.{newest}
use Rattle.tcp_reasm.specs.Reassembly.{IsInbox}
use Rattle.std.proofs.Common.{◌≡◌, ◌≤◌, ◌-◌, ◌+◌, ◌∷◌, ℕ, suc, List, ap, sym, subst, arith, ◌∙◌, refl, length}
use Rattle.std.specs.Prelude.{true, false, nat_le}
use Rattle.std.proofs.lemmas.Bool.Decides.{nat_tests}
use Rattle.tcp_reasm.specs.declared.table.Run.{Run as Entry}
use Rattle.tcp_reasm.specs.Reassembly.{Inbox, with_overlay}
use Rattle.tcp_reasm.specs.Store.{runs_in, overlay_at, rest_of, union_of}
use Rattle.tcp_reasm.proofs.Joins.{piece_of, union_within}
use Rattle.tcp_reasm.proofs.Views.{kept_sound, held_view, held_kept, seen_parts, none_view, runs_view}
use Rattle.tcp_reasm.proofs.Searches.{touched_here}
use Rattle.tcp_reasm.proofs.Puts.{rest_counted}
use Rattle.tcp_reasm.proofs.reassembly.Reassembly.hold.Goals as goal

few : (n most : ℕ) → n ≤ most → true ≡ nat_le n most
few n most h = grind (arith, nat_tests)

many : (n most : ℕ) → most ≤ n → false ≡ nat_le (suc n) most
many n most h = grind (arith, nat_tests)

pub returns-then-len-past-clause-kept : goal.returns-then-len-past-clause-kept
returns-then-len-past-clause-kept g c =
    let ring : List ℕ = c.self.inside.ring.bytes in
    let table : List Entry = (newest c.self.inside.table.base c.self.inside.table.len c.self.inside.table.rows.items) in
    let place : ℕ = c.args.start in
    let end : ℕ = place + length c.args.text.now in
    let piece = piece_of place end 0 in
    let seen = seen_parts ring c.self.inside.unread table c.args.self.now c.self.view_is c.self.invariant.0.fits in
    let count = rest_counted c.self.inside.table.base c.self.inside.table.len c.touched-first.result.0 c.touched-first.result.1 c.self.inside.table.rows.items (record { from = place; to = end }) c.self.invariant.3 c.touched-first.ensures in
    many (length (rest_of piece (runs_in table))) c.args.self.now.most_runs (omega (arith, count, c.len.ensures.field, ap (λ (q : Inbox). q.most_runs) c.self.view_is, c.if-len-past.true))
    ∙ ap (λ n. nat_le n c.args.self.now.most_runs) (sym (runs_view ring c.self.inside.unread table c.args.self.now place end 0 c.args.text.now c.self.view_is refl (omega arith) (omega (arith, seen.0, seen.1)) c.self.invariant.0.inside c.self.invariant.0.away))

pub returns-then-len-past-clause-none : goal.returns-then-len-past-clause-none
returns-then-len-past-clause-none g c =
    none_view c.self.inside.ring.bytes c.self.inside.unread (newest c.self.inside.table.base c.self.inside.table.len c.self.inside.table.rows.items) c.args.self.now c.args.start (c.args.start + length c.args.text.now) c.args.text.now c.self.view_is c.requires.gap refl c.self.invariant.0.inside

pub lay-requires-clause-here : goal.lay-requires-clause-here
lay-requires-clause-here g c =
    touched_here c.self.inside.table.base c.self.inside.table.len c.touched-first.result.0 c.touched-first.result.1 c.self.inside.table.rows.items (record { from = c.args.start; to = c.args.start + length c.args.text.now }) c.self.invariant.3 c.touched-first.ensures (omega arith)

-- the piece ends in the window
fits : (g : _) (c : goal.After-put g) → c.args.start + length c.args.text.now ≤ length c.self.inside.ring.bytes - c.self.inside.unread
fits g c =
    let seen = seen_parts c.self.inside.ring.bytes c.self.inside.unread (newest c.self.inside.table.base c.self.inside.table.len c.self.inside.table.rows.items) c.args.self.now c.self.view_is c.self.invariant.0.fits in
    omega (arith, seen.0, seen.1, c.requires.within)

pub put-requires-clause-within : goal.put-requires-clause-within
put-requires-clause-within g c =
    let piece = piece_of c.args.start (c.args.start + length c.args.text.now) 0 in
    let seen = seen_parts c.self.inside.ring.bytes c.self.inside.unread (newest c.self.inside.table.base c.self.inside.table.len c.self.inside.table.rows.items) c.args.self.now c.self.view_is c.self.invariant.0.fits in
    let room : ℕ = length c.self.inside.ring.bytes - c.self.inside.unread in
    omega (arith, union_within room piece piece (runs_in (newest c.self.inside.table.base c.self.inside.table.len c.self.inside.table.rows.items)) (omega (arith, seen.0, seen.1, c.requires.within)) c.self.invariant.0.inside, c.self.invariant.0.most)

joined : (g : _) (c : goal.After-put g) →
    (let piece = piece_of c.args.start (c.args.start + length c.args.text.now) 0 in
    let all = runs_in (newest c.self.inside.table.base c.self.inside.table.len c.self.inside.table.rows.items) in
    runs_in (newest c.put.new.self.base c.put.new.self.len c.put.new.self.rows.items) ≡ union_of piece piece all ∷ rest_of piece all)
joined g c = c.put.ensures.runs

few_runs : (g : _) (c : goal.After-put g) → length (runs_in (newest c.put.new.self.base c.put.new.self.len c.put.new.self.rows.items)) ≤ c.self.inside.most_runs
few_runs g c =
    let count = rest_counted c.self.inside.table.base c.self.inside.table.len c.touched-first.result.0 c.touched-first.result.1 c.self.inside.table.rows.items (record { from = c.args.start; to = c.args.start + length c.args.text.now }) c.self.invariant.3 c.touched-first.ensures in
    omega (arith, ap length (joined g c), count, c.len.ensures.field, c.if-len-past.false)

pub invariant_of-self : goal.invariant_of-self
invariant_of-self g c = (
  held_kept c.self.inside.ring.bytes c.lay.new.ring.bytes c.self.inside.unread c.args.start (c.args.start + length c.args.text.now) 0 (newest c.self.inside.table.base c.self.inside.table.len c.self.inside.table.rows.items) (newest c.put.new.self.base c.put.new.self.len c.put.new.self.rows.items) c.self.invariant.0 c.lay.ensures.len c.requires.gap (omega arith) (fits g c) (joined g c) (few_runs g c),
  omega arith,
  omega (arith, c.put.ensures.room, c.self.invariant.2),
  c.put.ensures.table,
)

pub returns-clause-kept : goal.returns-clause-kept
returns-clause-kept g c =
    let table : List Entry = (newest c.self.inside.table.base c.self.inside.table.len c.self.inside.table.rows.items) in
    let end : ℕ = c.args.start + length c.args.text.now in
    let rest = rest_of (piece_of c.args.start end 0) (runs_in table) in
    few (suc (length rest)) c.args.self.now.most_runs (omega (arith, ap length (joined g c), ap (λ (q : Inbox). q.most_runs) c.self.view_is, few_runs g c))
    ∙ ap (λ n. nat_le n c.args.self.now.most_runs) (sym (runs_view c.self.inside.ring.bytes c.self.inside.unread table c.args.self.now c.args.start end 0 c.args.text.now c.self.view_is refl (omega arith) (fits g c) c.self.invariant.0.inside c.self.invariant.0.away))

pub returns-clause-after : goal.returns-clause-after
returns-clause-after g c =
    let unread : ℕ = c.self.inside.unread in
    let text : List ℕ = c.args.text.now in
    let place : ℕ = c.args.start in
    held_view c.self.inside.ring.bytes c.lay.new.ring.bytes unread (newest c.self.inside.table.base c.self.inside.table.len c.self.inside.table.rows.items) (newest c.put.new.self.base c.put.new.self.len c.put.new.self.rows.items) place (place + length text) 0 text c.requires.gap refl (omega arith) c.self.invariant.0.fits (fits g c) c.self.invariant.0.inside c.self.invariant.0.away
    c.lay.ensures.len c.lay.ensures.unread c.lay.ensures.window (joined g c)
    ∙ ap (λ (q : Inbox). with_overlay q (overlay_at q place text)) c.self.view_is

pub returns-clause-none : goal.returns-clause-none
returns-clause-none g c =
    none_view c.self.inside.ring.bytes c.self.inside.unread (newest c.self.inside.table.base c.self.inside.table.len c.self.inside.table.rows.items) c.args.self.now c.args.start (c.args.start + length c.args.text.now) c.args.text.now c.self.view_is c.requires.gap refl c.self.invariant.0.inside

pub returns-then-len-past-clause-sound : goal.returns-then-len-past-clause-sound
returns-then-len-past-clause-sound g c =
    subst IsInbox c.self.view_is (kept_sound c.self.inside.ring.bytes c.self.inside.unread (newest c.self.inside.table.base c.self.inside.table.len c.self.inside.table.rows.items) c.self.invariant.0)

pub returns-clause-sound : goal.returns-clause-sound
returns-clause-sound g c = kept_sound _ _ _ (invariant_of-self g c).0
