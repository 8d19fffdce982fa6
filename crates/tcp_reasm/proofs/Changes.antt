-- What the calls that change a table leave.
use Rattle.std.proofs.Common.{◌≡◌, ◌≢◌, ℕ, zero, suc, ◌+◌, ◌-◌, ◌<◌, ◌≤◌, inl, inr, List, [], ◌∷◌, ◌++◌, length, get_or, set, take, drop, append-nil, refl, sym, ◌∙◌, ap, subst, arith, length-take, length-drop}
use Rattle.std.specs.Prelude.{map}
use Rattle.std.proofs.Math.Seq.{drop-cons}
use Rattle.std.proofs.lemmas.List.{length-map, drop-drop, map-append, drop-take, take-take, take-map, drop-map, take-append-drop, take-append-le, get_or-take, get_or-drop, get_or-set_same, get_or-set_other}
use Rattle.tcp_reasm.specs.declared.rows.Row.{Row}
use Rattle.tcp_reasm.specs.declared.table.Run.{Run as Entry}
use Rattle.tcp_reasm.specs.Rows.{at, count, without, minus, freed, olders, newers, orders, span, span_of, spans, loop_of, chain, run_in, runs_at, newest, placed, lowered, Rising, IsLoop, IsPath, IsRing, IsTable}
use Rattle.tcp_reasm.proofs.Links.{once_same, same_or_not, count-append, count-without, without_later}
use Rattle.tcp_reasm.proofs.Freed.{counted_at, count-take, count-drop, count-split, freed_take, count-minus, take_without}
use Rattle.tcp_reasm.proofs.Rises.{rising_out}
use Rattle.tcp_reasm.proofs.Tables.{length_loop, length_orders, length_ids, counted_row, row_below}

-- ---- parts of the order

pub front_ids : (d : List ℕ) (first len : ℕ) → first ≤ len → take first (take len d) ≡ take first d
front_ids d first len ordered = take-take first len d ordered

pub back_ids : (d : List ℕ) (past len : ℕ) → past ≤ len → drop past (take len d) ≡ take (len - past) (drop past d)
back_ids d past len ordered = let same : len ≡ past + (len - past) = omega (arith, ordered) in ap (λ n. drop past (take n d)) same ∙ drop-take past (len - past) d

pub middle_ids : (d : List ℕ) (first past len : ℕ) → first ≤ past → past ≤ len → take (past - first) (drop first (take len d)) ≡ take (past - first) (drop first d)
middle_ids d first past len ordered within =
    ap (take (past - first)) (back_ids d first len (omega (arith, ordered, within))) ∙ take-take (past - first) (len - first) (drop first d) (omega (arith, ordered, within))

-- each number is in one of the three
pub count-parts : (x first past : ℕ) (ids : List ℕ) → first ≤ past → count x (take first ids) + (count x (take (past - first) (drop first ids)) + count x (drop past ids)) ≡ count x ids
count-parts x first past ids ordered =
    let place : first + (past - first) ≡ past = omega (arith, ordered) in
    omega (arith, count-split x first ids, count-split x (past - first) (drop first ids), ap (count x) (drop-drop (past - first) first ids), ap (λ n. count x (drop n ids)) place)

-- a list by one of its places
pub split_at : (xs : List ℕ) (index x : ℕ) → index < length xs → at xs index ≡ x → xs ≡ take index xs ++ x ∷ drop (suc index) xs
split_at xs index x below is =
    sym (take-append-drop index xs) ∙ (ap (λ (ys : List ℕ). take index xs ++ ys) (drop-cons xs index 0 below) ∙ ap (λ y. take index xs ++ y ∷ drop (suc index) xs) is)

-- ---- runs of other rows stay

pub map_on : (f g : ℕ → Entry) (ids : List ℕ) → ((x : ℕ) → 0 < count x ids → f x ≡ g x) → map f ids ≡ map g ids
map_on f g [] same = refl
map_on f g (x ∷ ids) same =
    ap (λ run. run ∷ map f ids) (same x (omega (arith, once_same x x refl))) ∙ ap (λ (runs : List Entry). g x ∷ runs) (map_on f g ids (λ y some. same y (omega (arith, some))))

pub run_set : (base id x from to : ℕ) (all : List Entry) → x ≢ id → run_in base (set all id (span from to)) x ≡ run_in base all x
run_set base id x from to all other = ap (lowered base) (get_or-set_other all id x (span from to) (span 0 0) other)

pub run_written : (base id : ℕ) (run : Entry) (all : List Entry) → id < length all → run_in base (set all id (span (base + run.from) (base + run.to))) id ≡ run
run_written base id run all below =
    let from : base + run.from - base ≡ run.from = omega arith in
    let to : base + run.to - base ≡ run.to = omega arith in
    ap (lowered base) (get_or-set_same all id (span (base + run.from) (base + run.to)) (span 0 0) below) ∙ (ap (λ n. span n (base + run.to - base)) from ∙ ap (span run.from) to)

pub others_set : (base id from to : ℕ) (all : List Entry) (ids : List ℕ) → count id ids ≡ 0 → runs_at base (set all id (span from to)) ids ≡ runs_at base all ids
others_set base id from to all ids none =
    map_on (run_in base (set all id (span from to))) (run_in base all) ids
    (λ x some. run_set base id x from to all (λ e. absurd (omega (arith, some, ap (λ y. count y ids) e, none))))

-- ---- the ring stays where its links do

pub same_ring : (rows after : List Row) → length after ≡ length rows → olders after ≡ olders rows → newers after ≡ newers rows → IsRing rows → IsRing after × (loop_of after ≡ loop_of rows)
same_ring rows after size older newer ring = (
  subst (λ n. IsLoop n (olders after) (newers after)) (sym size) (subst (λ xs. IsLoop (length rows) xs (newers after)) (sym older) (subst (λ ys. IsLoop (length rows) (olders rows) ys) (sym newer) ring)),
  ap (λ n. chain (n - 1) 0 (olders after)) size ∙ ap (chain (length rows - 1) 0) older,
)

-- ---- some are removed

pub freed_each : (base len first past : ℕ) (rows : List Row) → IsTable base len rows → first ≤ past → past ≤ len → (x : ℕ) → count x (take (past - first) (drop first (orders rows))) ≤ count x (take len (loop_of rows))
freed_each base len first past rows table ordered within x =
    omega (arith, ap (count x) (middle_ids (orders rows) first past len ordered within), count-parts x first past (take len (orders rows)) ordered, table.same x)

pub removed : (base len first past n : ℕ) (rows mid after : List Row) → IsTable base len rows → first ≤ past → past ≤ len → n ≡ len - (past - first)
    → IsRing mid → length mid ≡ length rows → loop_of mid ≡ freed (take (past - first) (drop first (orders rows))) (loop_of rows) → orders mid ≡ orders rows → spans mid ≡ spans rows
    → length after ≡ length mid → take (first + (len - past)) (orders after) ≡ take first (orders mid) ++ take (len - past) (drop past (orders mid)) → olders after ≡ olders mid → newers after ≡ newers mid → spans after ≡ spans mid
    → IsTable base n after × (spans after ≡ spans rows) × (take n (orders after) ≡ take first (take len (orders rows)) ++ drop past (take len (orders rows)))
    × (take n (loop_of after) ≡ minus (take (past - first) (drop first (take len (orders rows)))) (take len (loop_of rows)))
removed base len first past n rows mid after table ordered within count_is ring_mid size_mid loop_mid orders_mid spans_mid size order older newer runs =
    let d : List ℕ = orders rows in
    let ids : List ℕ = take len d in
    let xs : List ℕ = take (past - first) (drop first d) in
    let recent : List ℕ = take len (loop_of rows) in
    let made = same_ring mid after size older newer ring_mid in
    let sub = freed_each base len first past rows table ordered within in
    let all : spans after ≡ spans rows = runs ∙ spans_mid in
    let same_middle : xs ≡ take (past - first) (drop first ids) = sym (middle_ids d first past len ordered within) in
    let size_xs : length xs ≡ past - first = omega (arith, length-take (past - first) (drop first d), length-drop first d, length_orders rows, table.some, ordered, within) in
    let left : take n (orders after) ≡ take first ids ++ drop past ids =
    let place : n ≡ first + (len - past) = omega (arith, count_is, ordered, within) in
    ap (λ k. take k (orders after)) place ∙ (order ∙ (ap (λ (ys : List ℕ). take first ys ++ take (len - past) (drop past ys)) orders_mid
    ∙ (ap (λ (ys : List ℕ). ys ++ take (len - past) (drop past d)) (sym (front_ids d first len (omega (arith, ordered, within)))) ∙ ap (λ (ys : List ℕ). take first ids ++ ys) (sym (back_ids d past len within))))) in
    let new : take n (loop_of after) ≡ minus (take (past - first) (drop first ids)) recent =
    let few : n ≡ len - length xs = omega (arith, count_is, size_xs) in
    ap (take n) (made.1 ∙ loop_mid) ∙ (ap (λ k. take k (freed xs (loop_of rows))) few ∙ (freed_take xs (loop_of rows) len sub (omega (arith, length_loop rows, table.some)) ∙ ap (λ (ys : List ℕ). minus ys recent) same_middle)) in (
      record {
        some = omega (arith, count_is, size, size_mid, table.some);
        most = omega (arith, size, size_mid, table.most);
        ring = made.0;
        same = λ x. omega (
          arith,
          ap (count x) left,
          count-append x (take first ids) (drop past ids),
          count-parts x first past ids ordered,
          ap (count x) new,
          ap (count x) same_middle,
          count-minus xs recent sub x,
          ap (λ (ys : List ℕ). count x (minus ys recent)) same_middle,
          table.same x,
        );
        rising = subst (Rising 0) (sym (ap (runs_at base (spans after)) left ∙ (ap (λ (ys : List Entry). runs_at base ys (take first ids ++ drop past ids)) all
            ∙ (map-append (run_in base (spans rows)) (take first ids) (drop past ids)
            ∙ (ap (λ (ys : List Entry). ys ++ runs_at base (spans rows) (drop past ids)) (sym (take-map (run_in base (spans rows)) first ids)) ∙ ap (λ (ys : List Entry). take first (runs_at base (spans rows) ids) ++ ys) (sym (drop-map (run_in base (spans rows)) past ids)))))))
            (rising_out 0 first past (placed base len rows) table.rising ordered);
        low = table.low;
      },
      all,
      left,
      new,
    )

-- none is
pub none_removed : (ids recent : List ℕ) (first len : ℕ) → (take len ids ≡ take first (take len ids) ++ drop first (take len ids)) × (recent ≡ minus (take (first - first) (drop first (take len ids))) recent)
none_removed ids recent first len = let none : 0 ≡ first - first = omega arith in (sym (take-append-drop first (take len ids)), ap (λ n. minus (take n (drop first (take len ids))) recent) none)

-- ---- a row that no run has

pub last_is : (older newer : List ℕ) (x : ℕ) (c : List ℕ) (y : ℕ) → IsPath older newer x c y → 0 < length c → at newer y ≡ at c (length c - 1)
last_is older newer x [] y h some = absurd (omega (arith, some))
last_is older newer x (z ∷ []) y h some = h.2.1
last_is older newer x (z ∷ t ∷ c) y h some =
    let place : length (z ∷ t ∷ c) - 1 ≡ suc (length (t ∷ c) - 1) = omega arith in
    last_is older newer z (t ∷ c) y h.2 (omega arith) ∙ sym (ap (at (z ∷ t ∷ c)) place)

pub last_fresh : (c : List ℕ) (n k : ℕ) → ((x : ℕ) → count x c ≤ 1) → n ≤ k → k < length c → count (at c k) (take n c) ≡ 0
last_fresh c n k apart least below =
    let x : ℕ = at c k in
    let place : n + (k - n) ≡ k = omega (arith, least) in
    let is : at (drop n c) (k - n) ≡ x = get_or-drop n c (k - n) 0 ∙ ap (at c) place in
    omega (arith, count-split x n c, apart x, counted_at (k - n) (drop n c) (omega (arith, length-drop n c, least, below)), ap (λ y. count y (drop n c)) is)

pub spare_last : (base len : ℕ) (rows : List Row) → IsTable base len rows → suc len < length rows → (0 < count (at (newers rows) 0) (loop_of rows)) × (count (at (newers rows) 0) (take len (loop_of rows)) ≡ 0)
spare_last base len rows table more =
    let c : List ℕ = loop_of rows in
    let size : length c ≡ length rows - 1 = length_loop rows in
    let is : at (newers rows) 0 ≡ at c (length c - 1) = last_is (olders rows) (newers rows) 0 c 0 table.ring.path (omega (arith, size, more)) in (
      omega (arith, counted_at (length c - 1) c (omega (arith, size, more)), ap (λ x. count x c) is),
      ap (λ x. count x (take len c)) is ∙ last_fresh c len (length c - 1) (λ x. omega (arith, table.ring.apart x)) (omega (arith, size, more)) (omega (arith, size, more)),
    )

-- another row
pub grown_table : (base len : ℕ) (rows after : List Row) → IsTable base len rows → length rows < 4097 → IsRing after → length after ≡ suc (length rows) → loop_of after ≡ loop_of rows ++ length rows ∷ [] → orders after ≡ orders rows ++ 0 ∷ [] → take (length rows) (spans after) ≡ spans rows
    → IsTable base len after × (newest base len after ≡ newest base len rows) × (placed base len after ≡ placed base len rows) × (0 < count (length rows) (loop_of after)) × (count (length rows) (take len (loop_of after)) ≡ 0)
grown_table base len rows after table few ring size loop order runs =
    let n : ℕ = length rows in
    let recent : take len (loop_of after) ≡ take len (loop_of rows) = ap (take len) loop ∙ take-append-le len (loop_of rows) (n ∷ []) (omega (arith, length_loop rows, table.some)) in
    let ids : take len (orders after) ≡ take len (orders rows) = ap (take len) order ∙ take-append-le len (orders rows) (0 ∷ []) (omega (arith, length_orders rows, table.some)) in
    let kept : (x : ℕ) → x < n → run_in base (spans after) x ≡ run_in base (spans rows) x =
    λ x below. ap (lowered base) (sym (get_or-take n (spans after) x (span 0 0) below) ∙ ap (λ (ys : List Entry). get_or ys x (span 0 0)) runs) in
    let same_runs : (ys : List ℕ) → ((x : ℕ) → 0 < count x ys → x < n) → runs_at base (spans after) ys ≡ runs_at base (spans rows) ys =
    λ ys inside. map_on (run_in base (spans after)) (run_in base (spans rows)) ys (λ x some. kept x (inside x some)) in
    let in_recent : (x : ℕ) → 0 < count x (take len (loop_of rows)) → x < n = λ x some. table.ring.inside x (omega (arith, some, count-take x len (loop_of rows))) in
    let in_ids : (x : ℕ) → 0 < count x (take len (orders rows)) → x < n = λ x some. in_recent x (omega (arith, some, table.same x)) in
    let same_placed : placed base len after ≡ placed base len rows = ap (runs_at base (spans after)) ids ∙ same_runs (take len (orders rows)) in_ids in
    let fresh : count n (take len (loop_of rows)) ≡ 0 =
    elim (same_or_not (count n (take len (loop_of rows))) 0) [ inl none ↦ none | inr more ↦ absurd (omega (arith, in_recent n (omega (arith, more)))) ] in (
      record {
        some = omega (arith, size, table.some);
        most = omega (arith, size, few);
        ring = ring;
        same = λ x. omega (arith, ap (count x) ids, ap (count x) recent, table.same x);
        rising = subst (Rising 0) (sym same_placed) table.rising;
        low = table.low;
      },
      ap (runs_at base (spans after)) recent ∙ same_runs (take len (loop_of rows)) in_recent,
      same_placed,
      omega (arith, ap (count n) loop, count-append n (loop_of rows) (n ∷ []), once_same n n refl),
      ap (count n) recent ∙ fresh,
    )

-- ---- another run

take_out : (x n : ℕ) (c : List ℕ) → count x (take n c) ≡ 0 → take n (without x c) ≡ take n c
take_out x zero c none = refl
take_out x (suc n) [] none = refl
take_out x (suc n) (y ∷ c) none =
    let other : x ≢ y = λ e. absurd (omega (arith, none, once_same x y e)) in
    ap (take (suc n)) (without_later x y c other) ∙ ap (λ (ys : List ℕ). y ∷ ys) (take_out x n c (omega (arith, none)))

pub inserted : (base len index id : ℕ) (run : Entry) (rows mid front after : List Row) → IsTable base len rows → suc len < length rows → index ≤ len → 0 < count id (loop_of rows) → count id (take len (loop_of rows)) ≡ 0
    → Rising 0 (take index (placed base len rows) ++ run ∷ drop index (placed base len rows))
    → length mid ≡ length rows → spans mid ≡ set (spans rows) id (span (base + run.from) (base + run.to)) → olders mid ≡ olders rows → newers mid ≡ newers rows → orders mid ≡ orders rows
    → IsRing front → length front ≡ length mid → loop_of front ≡ id ∷ without id (loop_of mid) → orders front ≡ orders mid → spans front ≡ spans mid
    → length after ≡ length front → take (suc len) (orders after) ≡ take index (orders front) ++ id ∷ take (len - index) (drop index (orders front)) → olders after ≡ olders front → newers after ≡ newers front → spans after ≡ spans front
    → IsTable base (suc len) after × (newest base (suc len) after ≡ run ∷ newest base len rows)
inserted base len index id run rows mid front after table more within some none rising size_mid spans_mid older_mid newer_mid order_mid ring_front size_front loop_front order_front spans_front size order older newer runs =
    let d : List ℕ = orders rows in
    let ids : List ℕ = take len d in
    let recent : List ℕ = take len (loop_of rows) in
    let all : List Entry = set (spans rows) id (span (base + run.from) (base + run.to)) in
    let last = same_ring front after size older newer ring_front in
    let first = same_ring rows mid size_mid older_mid newer_mid table.ring in
    let all_is : spans after ≡ all = runs ∙ (spans_front ∙ spans_mid) in
    let id_in : id < length (spans rows) = omega (arith, length-map rows span_of, table.ring.inside id (omega (arith, some))) in
    let none_ids : count id ids ≡ 0 = omega (arith, none, table.same id) in
    let new : take (suc len) (loop_of after) ≡ id ∷ recent =
    ap (take (suc len)) (last.1 ∙ (loop_front ∙ ap (λ (c : List ℕ). id ∷ without id c) first.1)) ∙ ap (λ (ys : List ℕ). id ∷ ys) (take_out id len (loop_of rows) none) in
    let left : take (suc len) (orders after) ≡ take index ids ++ id ∷ drop index ids =
    order ∙ (ap (λ (ys : List ℕ). take index ys ++ id ∷ take (len - index) (drop index ys)) (order_front ∙ order_mid)
    ∙ (ap (λ (ys : List ℕ). ys ++ id ∷ take (len - index) (drop index d)) (sym (front_ids d index len within)) ∙ ap (λ (ys : List ℕ). take index ids ++ id ∷ ys) (sym (back_ids d index len within)))) in
    let here : run_in base all id ≡ run = run_written base id run (spans rows) id_in in
    let placed_is : placed base (suc len) after ≡ take index (placed base len rows) ++ run ∷ drop index (placed base len rows) =
    ap (runs_at base (spans after)) left ∙ (ap (λ (ys : List Entry). runs_at base ys (take index ids ++ id ∷ drop index ids)) all_is
    ∙ (map-append (run_in base all) (take index ids) (id ∷ drop index ids)
    ∙ (ap (λ (ys : List Entry). ys ++ run_in base all id ∷ runs_at base all (drop index ids)) (others_set base id (base + run.from) (base + run.to) (spans rows) (take index ids) (omega (arith, none_ids, count-take id index ids)) ∙ sym (take-map (run_in base (spans rows)) index ids))
    ∙ (ap (λ (r : Entry). take index (placed base len rows) ++ r ∷ runs_at base all (drop index ids)) here
    ∙ ap (λ (ys : List Entry). take index (placed base len rows) ++ run ∷ ys) (others_set base id (base + run.from) (base + run.to) (spans rows) (drop index ids) (omega (arith, none_ids, count-drop id index ids)) ∙ sym (drop-map (run_in base (spans rows)) index ids)))))) in (
      record {
        some = omega (arith, size, size_front, size_mid, more);
        most = omega (arith, size, size_front, size_mid, table.most);
        ring = last.0;
        same = λ x. omega (arith, ap (count x) left, count-append x (take index ids) (id ∷ drop index ids), count-split x index ids, ap (count x) new, table.same x);
        rising = subst (Rising 0) (sym placed_is) rising;
        low = table.low;
      },
      ap (runs_at base (spans after)) new ∙ (ap (λ (ys : List Entry). runs_at base ys (id ∷ recent)) all_is
          ∙ (ap (λ (r : Entry). r ∷ runs_at base all recent) here ∙ ap (λ (ys : List Entry). run ∷ ys) (others_set base id (base + run.from) (base + run.to) (spans rows) recent none))),
    )

-- ---- a run that is another

first_take : (x n : ℕ) (c : List ℕ) → 0 < count x (take n c) → n ≤ length c → take n (x ∷ without x c) ≡ x ∷ without x (take n c)
first_take x zero c some fits = absurd (omega (arith, some))
first_take x (suc n) c some fits = ap (λ (ys : List ℕ). x ∷ ys) (sym (ap (take n) (append-nil (without x c))) ∙ take_without x n c [] some fits)

pub renewed : (base len index : ℕ) (run : Entry) (rows mid after : List Row) → IsTable base len rows → index < len
    → Rising 0 (take index (placed base len rows) ++ run ∷ drop (suc index) (placed base len rows))
    → length mid ≡ length rows → spans mid ≡ set (spans rows) (at (orders rows) index) (span (base + run.from) (base + run.to)) → olders mid ≡ olders rows → newers mid ≡ newers rows → orders mid ≡ orders rows
    → IsRing after → length after ≡ length mid → loop_of after ≡ at (orders rows) index ∷ without (at (orders rows) index) (loop_of mid) → orders after ≡ orders mid → spans after ≡ spans mid
    → IsTable base len after × (newest base len after ≡ run ∷ runs_at base (spans rows) (without (at (orders rows) index) (take len (loop_of rows))))
renewed base len index run rows mid after table within rising size_mid spans_mid older_mid newer_mid order_mid ring size loop order runs =
    let id : ℕ = at (orders rows) index in
    let ids : List ℕ = take len (orders rows) in
    let recent : List ℕ = take len (loop_of rows) in
    let all : List Entry = set (spans rows) id (span (base + run.from) (base + run.to)) in
    let first = same_ring rows mid size_mid older_mid newer_mid table.ring in
    let all_is : spans after ≡ all = runs ∙ spans_mid in
    let some : 0 < count id recent = counted_row base len index rows table within in
    let id_in : id < length (spans rows) = omega (arith, length-map rows span_of, row_below base len index rows table within) in
    let here : run_in base all id ≡ run = run_written base id run (spans rows) id_in in
    let new : take len (loop_of after) ≡ id ∷ without id recent =
    ap (take len) (loop ∙ ap (λ (c : List ℕ). id ∷ without id c) first.1) ∙ first_take id len (loop_of rows) some (omega (arith, length_loop rows, table.some)) in
    let once_in : count id recent ≤ 1 = omega (arith, count-take id len (loop_of rows), table.ring.apart id) in
    let left : take len (orders after) ≡ ids = ap (take len) (order ∙ order_mid) in
    let word : at ids index ≡ id = get_or-take len (orders rows) index 0 within in
    let parts : ids ≡ take index ids ++ id ∷ drop (suc index) ids = split_at ids index id (omega (arith, length_ids len rows table.some, within)) word in
    let other : count id (take index ids) + count id (drop (suc index) ids) ≡ 0 =
    omega (arith, ap (count id) parts, count-append id (take index ids) (id ∷ drop (suc index) ids), once_same id id refl, table.same id, once_in) in
    let placed_is : placed base len after ≡ take index (placed base len rows) ++ run ∷ drop (suc index) (placed base len rows) =
    ap (runs_at base (spans after)) (left ∙ parts) ∙ (ap (λ (ys : List Entry). runs_at base ys (take index ids ++ id ∷ drop (suc index) ids)) all_is
    ∙ (map-append (run_in base all) (take index ids) (id ∷ drop (suc index) ids)
    ∙ (ap (λ (ys : List Entry). ys ++ run_in base all id ∷ runs_at base all (drop (suc index) ids)) (others_set base id (base + run.from) (base + run.to) (spans rows) (take index ids) (omega (arith, other)) ∙ sym (take-map (run_in base (spans rows)) index ids))
    ∙ (ap (λ (r : Entry). take index (placed base len rows) ++ r ∷ runs_at base all (drop (suc index) ids)) here
    ∙ ap (λ (ys : List Entry). take index (placed base len rows) ++ run ∷ ys) (others_set base id (base + run.from) (base + run.to) (spans rows) (drop (suc index) ids) (omega (arith, other)) ∙ sym (drop-map (run_in base (spans rows)) (suc index) ids)))))) in (
      record {
        some = omega (arith, size, size_mid, table.some);
        most = omega (arith, size, size_mid, table.most);
        ring = ring;
        same = λ x. omega (arith, ap (count x) left, ap (count x) new, count-without id x recent some, table.same x);
        rising = subst (Rising 0) (sym placed_is) rising;
        low = table.low;
      },
      ap (runs_at base (spans after)) new ∙ (ap (λ (ys : List Entry). runs_at base ys (id ∷ without id recent)) all_is
          ∙ (ap (λ (r : Entry). r ∷ runs_at base all (without id recent)) here
          ∙ ap (λ (ys : List Entry). run ∷ ys) (others_set base id (base + run.from) (base + run.to) (spans rows) (without id recent) (omega (arith, count-without id id recent some, once_same id id refl, once_in))))),
    )
