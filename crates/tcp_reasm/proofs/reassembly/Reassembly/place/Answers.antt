use Rattle.tcp_reasm.specs.Rows.{newest}
use Rattle.tcp_reasm.specs.Reassembly.{IsInbox}
use Rattle.tcp_reasm.proofs.Views.{kept_sound}
use Rattle.std.proofs.Common.{◌≡◌, ◌⊎◌, ◌<◌, ◌≤◌, ◌-◌, ℕ, List, w64, arith, ap, sym, subst, ◌∙◌, inl, inr, take, length}
use Rattle.std.specs.Prelude.{true, false, min, ◌==◌}
use Rattle.std.proofs.lemmas.Bool.Decides.{nat_tests}
use Rattle.std.proofs.lemmas.Int.{to_z-of_z}
use Rattle.tcp_reasm.specs.declared.placed.Placed.TheVariants.{NotKept}
use Rattle.tcp_reasm.specs.Reassembly.{Inbox, piece, after_place, place_answer}
use Rattle.tcp_reasm.specs.Laws.{cell_at, KeepsBytes, TakesPiece, LeavesOthers, EndsAtMissing}
use Rattle.tcp_reasm.proofs.Choices.{outside_view, place_view}
use Rattle.tcp_reasm.proofs.Placing.{after_place-keeps, after_place-takes, after_place-leaves, after_place-missing, ends_at_missing}
use Rattle.tcp_reasm.proofs.Views.{seen_parts, seen_held, missing_view}
use Rattle.tcp_reasm.proofs.reassembly.Reassembly.place.Goals as goal
use Rattle.tcp_reasm.proofs.reassembly.Reassembly.place.Goals.{then-is_empty-via-then-is_empty, then-is_empty-via-else-is_empty+then-window-start}

above_zero : (n : ℕ) → (n == 0) ≡ false → 0 < n
above_zero n e = grind (arith, nat_tests)

is_zero : (n : ℕ) → (n == 0) ≡ true → n ≡ 0
is_zero n e = grind (arith, nat_tests)

-- nothing of the text lies inside the window: it isn't kept
outside : (g : _) (c : goal.Joined-then-is_empty g) → (c.args.self.now ≡ after_place c.args.self.now c.args.offset c.args.text.now) × (NotKept ≡ place_answer c.args.self.now c.args.offset c.args.text.now)
outside g c =
    let q : Inbox = c.args.self.now in
    let same_offset = to_z-of_z w64 c.args.offset c.ranges.offset in
    let is_start : c.piece_of-start.result.0 ≡ (piece c.args.offset c.args.text.now).start = c.piece_of-start.ensures.start ∙ ap (λ o. (piece o c.args.text.now).start) same_offset in
    let is_rest : c.piece_of-start.result.1.now ≡ (piece c.args.offset c.args.text.now).text = c.piece_of-start.ensures.text ∙ ap (λ o. (piece o c.args.text.now).text) same_offset in
    let wide : length q.held ≡ length c.self.inside.ring.bytes - c.self.inside.unread = seen_held c.self.inside.ring.bytes c.self.inside.unread (newest c.self.inside.table.base c.self.inside.table.len c.self.inside.table.rows.items) q c.self.view_is in
    let is_outside : (length (piece c.args.offset c.args.text.now).text ≡ 0) ⊎ (length q.held ≤ (piece c.args.offset c.args.text.now).start) =
    elim c.then-is_empty.branch [
      | then-is_empty-via-then-is_empty w ↦ inl (ap length (sym is_rest) ∙ is_zero (length c.piece_of-start.result.1.now) (sym c.is_empty.ensures ∙ w.if-is_empty.true))
      | then-is_empty-via-else-is_empty+then-window-start w ↦ inr (omega (arith, wide, w.if-window-start.true, is_start))
    ] in
    outside_view q c.args.offset c.args.text.now is_outside

pub returns-then-is_empty-clause-after : goal.returns-then-is_empty-clause-after
returns-then-is_empty-clause-after g c = (outside g c).0

pub returns-then-is_empty-clause-answer : goal.returns-then-is_empty-clause-answer
returns-then-is_empty-clause-answer g c = (outside g c).1

pub returns-then-is_empty-clause-missing : goal.returns-then-is_empty-clause-missing
returns-then-is_empty-clause-missing g c =
    ends_at_missing c.args.self.now
    (sym (ap (λ (q : Inbox). cell_at q.held 0) c.self.view_is)
    ∙ missing_view c.self.inside.ring.bytes c.self.inside.unread (newest c.self.inside.table.base c.self.inside.table.len c.self.inside.table.rows.items) c.self.invariant.0.inside)

-- some of the text lies inside the window
inside : (g : _) (c : goal.After-keep g) → (c.keep.new.self ≡ after_place c.args.self.now c.args.offset c.args.text.now) × (c.keep.result ≡ place_answer c.args.self.now c.args.offset c.args.text.now)
inside g c =
    let q : Inbox = c.args.self.now in
    let same_offset = to_z-of_z w64 c.args.offset c.ranges.offset in
    let start : ℕ = c.piece_of-start.result.0 in
    let rest : List ℕ = c.piece_of-start.result.1.now in
    let is_start : start ≡ (piece c.args.offset c.args.text.now).start = c.piece_of-start.ensures.start ∙ ap (λ o. (piece o c.args.text.now).start) same_offset in
    let is_rest : rest ≡ (piece c.args.offset c.args.text.now).text = c.piece_of-start.ensures.text ∙ ap (λ o. (piece o c.args.text.now).text) same_offset in
    let wide : length q.held ≡ length c.self.inside.ring.bytes - c.self.inside.unread = seen_held c.self.inside.ring.bytes c.self.inside.unread (newest c.self.inside.table.base c.self.inside.table.len c.self.inside.table.rows.items) q c.self.view_is in
    let is_count : c.min.result ≡ min (length q.held - start) (length rest) = omega (arith, wide, c.min.ensures) in
    place_view q c.keep.new.self c.args.offset c.args.text.now start rest (take c.min.result rest) c.keep.result is_start is_rest
    (ap (λ n. take n rest) is_count) (above_zero (length rest) (sym c.is_empty.ensures ∙ c.if-is_empty.false)) (omega (arith, wide))
    c.keep.ensures.after c.keep.ensures.answer

pub returns-clause-after : goal.returns-clause-after
returns-clause-after g c = (inside g c).0

pub returns-clause-answer : goal.returns-clause-answer
returns-clause-answer g c = (inside g c).1

pub returns-clause-kept : goal.returns-clause-kept
returns-clause-kept g c =
    subst (λ (new : Inbox). KeepsBytes c.args.self.now new) (sym (returns-clause-after g c)) (after_place-keeps c.args.self.now c.args.offset c.args.text.now)

pub returns-clause-taken : goal.returns-clause-taken
returns-clause-taken g c =
    let q : Inbox = c.args.self.now in
    let wide : length q.held ≡ length c.self.inside.ring.bytes - c.self.inside.unread = seen_held c.self.inside.ring.bytes c.self.inside.unread (newest c.self.inside.table.base c.self.inside.table.len c.self.inside.table.rows.items) q c.self.view_is in
    let seen = seen_parts c.self.inside.ring.bytes c.self.inside.unread (newest c.self.inside.table.base c.self.inside.table.len c.self.inside.table.rows.items) q c.self.view_is c.self.invariant.0.fits in
    λ kept. subst (λ (new : Inbox). TakesPiece q new (piece c.args.offset c.args.text.now)) (sym (returns-clause-after g c))
    (after_place-takes q c.args.offset c.args.text.now (omega (arith, wide, seen.0, seen.1)) (λ refused. kept (returns-clause-answer g c ∙ refused)))

pub returns-clause-others : goal.returns-clause-others
returns-clause-others g c =
    subst (λ (new : Inbox). LeavesOthers c.args.self.now new (piece c.args.offset c.args.text.now)) (sym (returns-clause-after g c))
    (after_place-leaves c.args.self.now c.args.offset c.args.text.now)

pub returns-clause-missing : goal.returns-clause-missing
returns-clause-missing g c =
    subst (λ (new : Inbox). EndsAtMissing new) (sym (returns-clause-after g c))
    (after_place-missing c.args.self.now c.args.offset c.args.text.now
    (sym (ap (λ (q : Inbox). cell_at q.held 0) c.self.view_is)
    ∙ missing_view c.self.inside.ring.bytes c.self.inside.unread (newest c.self.inside.table.base c.self.inside.table.len c.self.inside.table.rows.items) c.self.invariant.0.inside))

pub returns-then-is_empty-clause-sound : goal.returns-then-is_empty-clause-sound
returns-then-is_empty-clause-sound g c =
    subst IsInbox c.self.view_is (kept_sound c.self.inside.ring.bytes c.self.inside.unread (newest c.self.inside.table.base c.self.inside.table.len c.self.inside.table.rows.items) c.self.invariant.0)
