use Rattle.std.proofs.Common.{◌≡◌, suc, ◌∙◌, ap, sym, subst, arith, length, take, drop, set, get_or, ◌++◌, ◌∷◌, [], List, ℕ}
use Rattle.std.specs.Prelude.{map, if◌then◌else◌}
use Rattle.std.proofs.lemmas.List.{length-append, map-append, take-append-le, take_all, length-map}
use Rattle.tcp_reasm.specs.declared.rows.Row.{Row}
use Rattle.tcp_reasm.specs.Rows.{olders, newers, orders, spans, span_of, loop_of, IsRing}
use Rattle.tcp_reasm.proofs.Fields.{newer_at, bare, ends, found, grown_ring, whole, whole_twice}
use Rattle.tcp_reasm.proofs.rows.grow.Goals as goal

-- what the vector has after the push
pushed : (g : _) (c : goal.After-rows-2-1 g) → c.push.new.self.items ≡ c.args.rows.now.items ++ c.default.result ∷ []
pushed g c =
    c.push.ensures.items
    ∙ ap (λ b. if b then c.args.rows.now.items ++ c.default.result ∷ [] else c.args.rows.now.items)
    (c.push.ensures.succeeds (omega (arith, c.args.rows.now.ok.0, c.requires.room)))

last_is : (g : _) (c : goal.After-rows-2-1 g) → c.index.result.now.newer ≡ (get_or c.args.rows.now.items 0 bare).newer
last_is g c = ap (λ (row : Row). row.newer) (found c.args.rows.now.items 0 c.index.result.now c.requires.ring.some c.index.ensures)

pub link-requires-clause-first : goal.link-requires-clause-first
link-requires-clause-first g c =
    omega (
      arith,
      ap (λ (row : Row). row.newer) (found c.args.rows.now.items 0 c.index.result.now c.requires.ring.some c.index.ensures),
      (ends c.args.rows.now.items c.requires.ring).1,
      ap length c.deref_mut.ensures.value,
      ap length c.push.ensures.items,
      ap (λ b. length (if b then c.args.rows.now.items ++ c.default.result ∷ [] else c.args.rows.now.items)) (c.push.ensures.succeeds (omega (arith, c.args.rows.now.ok.0, c.requires.room))),
      length-append c.args.rows.now.items (c.default.result ∷ []),
    )

-- its length, and what its slices are
size : (g : _) (c : goal.After-rows-2-1 g) → c.push.new.self.len ≡ suc (length c.args.rows.now.items)
size g c = c.push.new.self.ok.0 ∙ (ap length (pushed g c) ∙ omega (arith, length-append c.args.rows.now.items (c.default.result ∷ [])))

abbrev Final : (g : _) → goal.After-rows-2-1 g → List Row
Final g c = take c.push.new.self.len (c.link-2.new.rows ++ drop (length c.link-2.new.rows) (take c.push.new.self.len (c.link.new.rows ++ drop (length c.link.new.rows) c.push.new.self.items)))

first_size : (g : _) (c : goal.After-rows-2-1 g) → length c.link.new.rows ≡ c.push.new.self.len
first_size g c = c.link.ensures.len ∙ (ap length c.deref_mut.ensures.value ∙ sym c.push.new.self.ok.0)

after_first : (g : _) (c : goal.After-rows-2-1 g) → c.deref_mut-2.result.now ≡ c.link.new.rows
after_first g c = c.deref_mut-2.ensures.value ∙ whole c.push.new.self.len c.link.new.rows c.push.new.self.items (first_size g c) (omega (arith, c.push.new.self.ok.0))

second_size : (g : _) (c : goal.After-rows-2-1 g) → length c.link-2.new.rows ≡ c.push.new.self.len
second_size g c = c.link-2.ensures.len ∙ (ap length (after_first g c) ∙ first_size g c)

final : (g : _) (c : goal.After-rows-2-1 g) → Final g c ≡ c.link-2.new.rows
final g c = whole_twice c.push.new.self.len c.link-2.new.rows c.link.new.rows c.push.new.self.items (second_size g c) (first_size g c) (omega (arith, c.push.new.self.ok.0))

-- a field of the rows before both links
field : (f : Row → ℕ) (g : _) (c : goal.After-rows-2-1 g) → f c.default.result ≡ 0 → map f c.deref_mut.result.now ≡ map f c.args.rows.now.items ++ 0 ∷ []
field f g c none = ap (map f) (c.deref_mut.ensures.value ∙ pushed g c) ∙ (map-append f c.args.rows.now.items (c.default.result ∷ []) ∙ ap (λ n. map f c.args.rows.now.items ++ n ∷ []) none)

ring : (g : _) (c : goal.After-rows-2-1 g) → IsRing c.link-2.new.rows × (loop_of c.link-2.new.rows ≡ loop_of c.args.rows.now.items ++ length c.args.rows.now.items ∷ [])
ring g c =
    let rows : List Row = c.args.rows.now.items in
    grown_ring (length rows) (length c.link-2.new.rows) c.index.result.now.newer (olders rows) (newers rows) (olders c.deref_mut.result.now) (newers c.deref_mut.result.now) (olders c.link.new.rows) (newers c.link.new.rows) (olders c.link-2.new.rows) (newers c.link-2.new.rows)
    (second_size g c ∙ size g c) c.requires.ring (last_is g c ∙ newer_at rows 0)
    (field (λ (row : Row). row.older) g c c.default.ensures.1.1.1.0) (field (λ (row : Row). row.newer) g c c.default.ensures.1.1.0)
    (c.link.ensures.olders ∙ ap (set (olders c.deref_mut.result.now) c.index.result.now.newer) (c.len-id.ensures ∙ c.args.rows.now.ok.0))
    (c.link.ensures.newers ∙ ap (λ i. set (newers c.deref_mut.result.now) i c.index.result.now.newer) (c.len-id.ensures ∙ c.args.rows.now.ok.0))
    (c.link-2.ensures.olders ∙ ap (λ (rows : List Row). set (olders rows) c.len-id.result 0) (after_first g c) ∙ ap (λ i. set (olders c.link.new.rows) i 0) (c.len-id.ensures ∙ c.args.rows.now.ok.0))
    (c.link-2.ensures.newers ∙ ap (λ (rows : List Row). set (newers rows) 0 c.len-id.result) (after_first g c) ∙ ap (set (newers c.link.new.rows) 0) (c.len-id.ensures ∙ c.args.rows.now.ok.0))

pub returns-clause-ring : goal.returns-clause-ring
returns-clause-ring g c = subst IsRing (sym (final g c)) (ring g c).0

pub returns-clause-after : goal.returns-clause-after
returns-clause-after g c = ap loop_of (final g c) ∙ (ring g c).1

pub returns-clause-orders : goal.returns-clause-orders
returns-clause-orders g c =
    ap orders (final g c) ∙ (c.link-2.ensures.orders ∙ (ap orders (after_first g c) ∙ (c.link.ensures.orders ∙ field (λ (row : Row). row.order) g c c.default.ensures.1.1.1.1)))

pub returns-clause-spans : goal.returns-clause-spans
returns-clause-spans g c =
    let rows : List Row = c.args.rows.now.items in
    let before : spans c.deref_mut.result.now ≡ spans rows ++ span_of c.default.result ∷ [] = ap spans (c.deref_mut.ensures.value ∙ pushed g c) ∙ map-append span_of rows (c.default.result ∷ []) in
    ap (λ (xs : List Row). take (length rows) (spans xs)) (final g c)
    ∙ (ap (take (length rows)) (c.link-2.ensures.spans ∙ (ap spans (after_first g c) ∙ (c.link.ensures.spans ∙ before)))
    ∙ (take-append-le (length rows) (spans rows) (span_of c.default.result ∷ []) (omega (arith, length-map rows span_of)) ∙ take_all (length rows) (spans rows) (omega (arith, length-map rows span_of))))
