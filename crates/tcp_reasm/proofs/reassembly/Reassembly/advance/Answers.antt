use Rattle.tcp_reasm.specs.Rows.{newest, placed, AreTouched}
use Rattle.std.proofs.Common.{◌≡◌, ◌≤◌, ◌-◌, ℕ, List, ap, subst, arith, ◌∙◌, refl, length, take, drop}
use Rattle.std.proofs.lemmas.List.{length-map}
use Rattle.tcp_reasm.specs.declared.table.Run.{Run as Entry}
use Rattle.tcp_reasm.specs.Reassembly.{Inbox, Run, bytes_in_order, with_overlay}
use Rattle.tcp_reasm.specs.Store.{run_of, runs_in, overlay_at, union_of}
use Rattle.tcp_reasm.proofs.Joins.{piece_of, union_wraps, union_within}
use Rattle.tcp_reasm.proofs.Views.{kept_sound, advanced_view, advanced_kept, seen_parts}
use Rattle.tcp_reasm.proofs.Tables.{length_newest}
use Rattle.tcp_reasm.proofs.reassembly.Reassembly.advance.Goals as goal

-- the text ends in the window
fits : (g : _) (c : goal.After-self-1 g) → length c.args.text.now ≤ length c.self.inside.ring.bytes - c.self.inside.unread
fits g c =
    let seen = seen_parts c.self.inside.ring.bytes c.self.inside.unread (newest c.self.inside.table.base c.self.inside.table.len c.self.inside.table.rows.items) c.args.self.now c.self.view_is c.self.invariant.0.fits in
    omega (arith, seen.0, seen.1, c.requires.within)

-- how far it goes on in order
given : (g : _) (c : goal.After-self-1 g) → (let piece = piece_of 0 (length c.args.text.now) 0 in c.union_of-count.result.to ≡ (union_of piece piece (runs_in (newest c.self.inside.table.base c.self.inside.table.len c.self.inside.table.rows.items))).to)
given g c = ap (λ (run : Run). run.to) c.union_of-count.ensures.union

pub reach-requires : goal.reach-requires
reach-requires g c =
    let table : List Entry = (newest c.self.inside.table.base c.self.inside.table.len c.self.inside.table.rows.items) in
    let piece = piece_of 0 (length c.args.text.now) 0 in
    let room : ℕ = length c.self.inside.ring.bytes - c.self.inside.unread in
    let seen = seen_parts c.self.inside.ring.bytes c.self.inside.unread table c.args.self.now c.self.view_is c.self.invariant.0.fits in
    let before : length c.args.text.now ≤ room = omega (arith, seen.0, seen.1, c.requires.within) in
    omega (arith, ap (λ (run : Run). run.to) c.union_of-count.ensures.union, union_within room piece piece (runs_in table) before c.self.invariant.0.inside, c.lay.ensures.len, c.self.invariant.0.fits)

pub advance-requires-clause-count : goal.advance-requires-clause-count
advance-requires-clause-count g c = ap (λ (run : Run). run.to) c.union_of-count.ensures.union

pub advance-requires-clause-within : goal.advance-requires-clause-within
advance-requires-clause-within g c =
    let piece = piece_of 0 (length c.args.text.now) 0 in
    let room : ℕ = length c.self.inside.ring.bytes - c.self.inside.unread in
    let seen = seen_parts c.self.inside.ring.bytes c.self.inside.unread (newest c.self.inside.table.base c.self.inside.table.len c.self.inside.table.rows.items) c.args.self.now c.self.view_is c.self.invariant.0.fits in
    let before : length c.args.text.now ≤ room = omega (arith, seen.0, seen.1, c.requires.within) in
    omega (arith, ap (λ (run : Run). run.to) c.union_of-count.ensures.union, union_within room piece piece (runs_in (newest c.self.inside.table.base c.self.inside.table.len c.self.inside.table.rows.items)) before c.self.invariant.0.inside, c.self.invariant.0.most)

pub overflow_add-self : goal.overflow_add-self
overflow_add-self g c =
    let piece = piece_of 0 (length c.args.text.now) 0 in
    let room : ℕ = length c.self.inside.ring.bytes - c.self.inside.unread in
    let seen = seen_parts c.self.inside.ring.bytes c.self.inside.unread (newest c.self.inside.table.base c.self.inside.table.len c.self.inside.table.rows.items) c.args.self.now c.self.view_is c.self.invariant.0.fits in
    let before : length c.args.text.now ≤ room = omega (arith, seen.0, seen.1, c.requires.within) in
    omega (arith, ap (λ (run : Run). run.to) c.union_of-count.ensures.union, union_within room piece piece (runs_in (newest c.self.inside.table.base c.self.inside.table.len c.self.inside.table.rows.items)) before c.self.invariant.0.inside, c.self.invariant.0.fits, c.self.invariant.0.most)

pub invariant_of-self : goal.invariant_of-self
invariant_of-self g c =
    let size = length_newest c.self.inside.table.base c.self.inside.table.len c.self.inside.table.rows.items c.self.invariant.3.some in
    let after = length_newest c.advance.new.self.base c.advance.new.self.len c.advance.new.self.rows.items c.advance.ensures.table.some in (
      advanced_kept c.self.inside.ring.bytes c.reach.new.self.bytes c.self.inside.unread c.union_of-count.result.to (length c.args.text.now) 0 (newest c.self.inside.table.base c.self.inside.table.len c.self.inside.table.rows.items) (newest c.advance.new.self.base c.advance.new.self.len c.advance.new.self.rows.items) c.self.invariant.0 (ap length c.reach.ensures.bytes ∙ c.lay.ensures.len) c.requires.some (fits g c) (given g c)
          c.advance.ensures.runs (omega (arith, length-map (newest c.advance.new.self.base c.advance.new.self.len c.advance.new.self.rows.items) run_of, length-map (newest c.self.inside.table.base c.self.inside.table.len c.self.inside.table.rows.items) run_of, size, after, c.advance.ensures.few, c.self.invariant.0.few)),
      c.reach.ensures.ready,
      omega (arith, c.advance.ensures.room, c.self.invariant.2),
      c.advance.ensures.table,
    )

pub returns-clause-after : goal.returns-clause-after
returns-clause-after g c =
    let unread : ℕ = c.self.inside.unread in
    let text : List ℕ = c.args.text.now in
    let table : List Entry = (newest c.self.inside.table.base c.self.inside.table.len c.self.inside.table.rows.items) in
    let piece = piece_of 0 (length text) 0 in
    let behind = ap (drop unread) c.reach.ensures.bytes ∙ c.lay.ensures.window in
    let advanced = advanced_view c.self.inside.ring.bytes c.reach.new.self.bytes unread c.union_of-count.result.to table (newest c.advance.new.self.base c.advance.new.self.len c.advance.new.self.rows.items) (length text) 0 text refl c.requires.some c.self.invariant.0.fits (fits g c) c.self.invariant.0.inside c.self.invariant.0.away
    (ap length c.reach.ensures.bytes ∙ c.lay.ensures.len) (ap (take unread) c.reach.ensures.bytes ∙ c.lay.ensures.unread) behind (given g c) c.advance.ensures.runs in (
      advanced.0
          ∙ ap (λ (q : Inbox). with_overlay q (overlay_at q 0 text)) c.self.view_is,
      advanced.1 ∙ ap (λ (q : Inbox). length (bytes_in_order (overlay_at q 0 text))) c.self.view_is,
      omega (arith, given g c, (union_wraps piece piece (runs_in table)).1, c.requires.some),
    )

pub returns-clause-sound : goal.returns-clause-sound
returns-clause-sound g c = kept_sound _ _ _ (invariant_of-self g c).0
