use Rattle.std.proofs.Common.{◌≡◌, ◌+◌, ◌-◌, ◌<◌, ◌≤◌, ◌∷◌, [], ℕ, suc, List, ap, sym, subst, ◌∙◌, refl, arith, get_or, length, length-drop, length-take, take, drop}
use Rattle.std.proofs.lemmas.List.{length-map, get_or-drop, get_or-take, drop_all}
use Rattle.std.proofs.Math.Seq.{drop-cons}
use Rattle.tcp_reasm.specs.declared.rows.Row.{Row}
use Rattle.tcp_reasm.specs.Rows.{orders, at, count, without, freed, loop_of}
use Rattle.tcp_reasm.proofs.Links.{once_same, count-append, count-without}
use Rattle.tcp_reasm.proofs.Fields.{bare, order_at}
use Rattle.tcp_reasm.proofs.rows.free.Goals as goal

none : (n : ℕ) → 0 ≡ n - n
none n = omega arith

pub loop-next-init : goal.loop-next-init
loop-next-init c =
    let xs : List ℕ = take (c.args.past - c.args.first) (drop c.args.first (orders c.args.rows.now)) in
    record {
      least = omega arith;
      most = c.requires.ordered;
      size = refl;
      ring = c.requires.ring;
      order = refl;
      runs = refl;
      left = sym (ap (λ n. freed (drop n xs) (loop_of c.args.rows.now)) (none c.args.first));
      each = λ x. subst (λ n. count x (drop n xs) ≤ count x (loop_of c.args.rows.now)) (none c.args.first) (c.requires.each x);
    }

-- the rows that are left of a part of an order, and the first of them
pub part : (d : List ℕ) (first past next id : ℕ) → first ≤ next → next < past → past ≤ length d → id ≡ at d next →
    (let xs = take (past - first) (drop first d) in drop (next - first) xs ≡ id ∷ drop (next + 1 - first) xs)
part d first past next id least less within is =
    let xs : List ℕ = take (past - first) (drop first d) in
    let below : next - first < length xs = omega (arith, length-take (past - first) (drop first d), length-drop first d, least, less, within) in
    let place : first + (next - first) ≡ next = omega (arith, least) in
    let step : suc (next - first) ≡ next + 1 - first = omega (arith, least) in
    let word : at xs (next - first) ≡ id = get_or-take (past - first) (drop first d) (next - first) 0 (omega (arith, least, less)) ∙ (get_or-drop first d (next - first) 0 ∙ (ap (at d) place ∙ sym is)) in
    drop-cons xs (next - first) 0 below ∙ (ap (λ x. x ∷ drop (suc (next - first)) xs) word ∙ ap (λ n. id ∷ drop n xs) step)

-- the row of a turn
row : (d : List ℕ) (rows : List Row) (first past next : ℕ) → orders rows ≡ d → first ≤ next → next < past → past ≤ length d →
    (let xs = take (past - first) (drop first d) in drop (next - first) xs ≡ (get_or rows next bare).order ∷ drop (next + 1 - first) xs)
row d rows first past next same least less within = part d first past next (get_or rows next bare).order least less within (order_at rows next ∙ ap (λ (xs : List ℕ). at xs next) same)

pub to_back-requires-clause-row : goal.to_back-requires-clause-row
to_back-requires-clause-row c =
    let id : ℕ = (get_or c.loop-next.rows c.loop-next.next bare).order in
    let is = row (orders c.args.rows.now) c.loop-next.rows c.args.first c.args.past c.loop-next.next c.loop-next.invariant.order c.loop-next.invariant.least c.loop-next-test.true (omega (arith, c.requires.within, length-map c.args.rows.now (λ (row : Row). row.order))) in
    omega (arith, c.loop-next.invariant.each id, ap (count id) is, once_same id id refl)

pub loop-next-preserved : goal.loop-next-preserved
loop-next-preserved c =
    let id : ℕ = (get_or c.loop-next.rows c.loop-next.next bare).order in
    let xs : List ℕ = take (c.args.past - c.args.first) (drop c.args.first (orders c.args.rows.now)) in
    let is = row (orders c.args.rows.now) c.loop-next.rows c.args.first c.args.past c.loop-next.next c.loop-next.invariant.order c.loop-next.invariant.least c.loop-next-test.true (omega (arith, c.requires.within, length-map c.args.rows.now (λ (row : Row). row.order))) in
    let rest : List ℕ = drop (c.loop-next.next + 1 - c.args.first) xs in
    let some : 0 < count id (loop_of c.loop-next.rows) = omega (arith, c.loop-next.invariant.each id, ap (count id) is, once_same id id refl) in
    record {
      least = omega (arith, c.loop-next.invariant.least);
      most = omega (arith, c.loop-next-test.true);
      size = c.to_back.ensures.len ∙ c.loop-next.invariant.size;
      ring = c.to_back.ensures.ring;
      order = c.to_back.ensures.orders ∙ c.loop-next.invariant.order;
      runs = c.to_back.ensures.spans ∙ c.loop-next.invariant.runs;
      left = ap (freed rest) c.to_back.ensures.after ∙ (ap (λ (ys : List ℕ). freed ys (loop_of c.loop-next.rows)) (sym is) ∙ c.loop-next.invariant.left);
      each = λ x. omega (arith, ap (count x) c.to_back.ensures.after, count-append x (without id (loop_of c.loop-next.rows)) (id ∷ []), count-without id x (loop_of c.loop-next.rows) some, c.loop-next.invariant.each x, ap (count x) is);
    }

pub returns-clause-after : goal.returns-clause-after
returns-clause-after c =
    let xs : List ℕ = take (c.args.past - c.args.first) (drop c.args.first (orders c.args.rows.now)) in
    let ends : drop (c.loop-next.next - c.args.first) xs ≡ [] = drop_all (c.loop-next.next - c.args.first) xs (omega (arith, length-take (c.args.past - c.args.first) (drop c.args.first (orders c.args.rows.now)), c.loop-next.invariant.most, c.loop-next-test.false)) in
    sym (ap (λ (ys : List ℕ). freed ys (loop_of c.loop-next.rows)) ends) ∙ c.loop-next.invariant.left
