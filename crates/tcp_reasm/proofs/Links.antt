-- A ring of rows: what is left when a row is taken out of it, and what another makes of it.
use Rattle.std.proofs.Common.{◌≡◌, ◌≢◌, ℕ, zero, suc, ◌+◌, ◌-◌, ◌<◌, ◌≤◌, ◌⊎◌, inl, inr, List, [], ◌∷◌, ◌++◌, length, set, refl, sym, ◌∙◌, ap, subst, arith}
use Rattle.std.specs.Prelude.{true, false, if◌then◌else◌, ◌==◌}
use Rattle.std.proofs.lemmas.Bool.Decides.{nat_tests}
use Rattle.std.proofs.lemmas.List.{get_or-set_same, get_or-set_other, get_or_append_left, length-set, length-append}
use Rattle.tcp_reasm.specs.Rows.{at, once, count, without, chain, IsPath, IsLoop}

-- ---- how often a number is in a list

eq_true : (m n : ℕ) → m ≡ n → (m == n) ≡ true
eq_true m n e = grind (arith, nat_tests)

eq_false : (m n : ℕ) → m ≢ n → (m == n) ≡ false
eq_false m n ne = grind (arith, nat_tests)

eq_from : (m n : ℕ) → (m == n) ≡ true → m ≡ n
eq_from m n e = grind (arith, nat_tests)

ne_from : (m n : ℕ) → (m == n) ≡ false → m ≢ n
ne_from m n e same = grind (arith, nat_tests)

pub once_same : (m n : ℕ) → m ≡ n → once m n ≡ 1
once_same m n e = ap (λ b. if b then 1 else 0) (eq_true m n e)

pub once_other : (m n : ℕ) → m ≢ n → once m n ≡ 0
once_other m n ne = ap (λ b. if b then 1 else 0) (eq_false m n ne)

pub same_or_not : (m n : ℕ) → (m ≡ n) ⊎ (m ≢ n)
same_or_not m n =
    (elim (m == n) as (λ b. (m == n) ≡ b → (m ≡ n) ⊎ (m ≢ n)) [
      | true ↦ λ e. inl (eq_from m n e)
      | false ↦ λ e. inr (ne_from m n e)
    ]) refl

-- what isn't in a list is none of its numbers
pub none_same : (m n : ℕ) → once m n ≡ 0 → n ≢ m
none_same m n none e = absurd (omega (arith, none, once_same m n (sym e)))

pub some_same : (m n : ℕ) → 0 < once m n → m ≡ n
some_same m n some =
    elim (same_or_not m n) [
      | inl e ↦ e
      | inr ne ↦ absurd (omega (arith, some, once_other m n ne))
    ]

pub count-append : (x : ℕ) (xs ys : List ℕ) → count x (xs ++ ys) ≡ count x xs + count x ys
count-append x [] ys = omega arith
count-append x (y ∷ xs) ys = omega (arith, count-append x xs ys)

pub without_here : (x y : ℕ) (ys : List ℕ) → x ≡ y → without x (y ∷ ys) ≡ ys
without_here x y ys e = ap (λ b. if b then ys else y ∷ without x ys) (eq_true x y e)

pub without_later : (x y : ℕ) (ys : List ℕ) → x ≢ y → without x (y ∷ ys) ≡ y ∷ without x ys
without_later x y ys ne = ap (λ b. if b then ys else y ∷ without x ys) (eq_false x y ne)

pub count-without : (x z : ℕ) (ys : List ℕ) → 0 < count x ys → count z (without x ys) + once z x ≡ count z ys
count-without x z [] some = absurd (omega (arith, some))
count-without x z (y ∷ ys) some =
    elim (same_or_not x y) [
      | inl e ↦ omega (arith, ap (count z) (without_here x y ys e), ap (once z) e)
      | inr ne ↦ omega (arith, ap (count z) (without_later x y ys ne), once_other x y ne, count-without x z ys (omega (arith, some, once_other x y ne)))
    ]

pub length-without : (x : ℕ) (ys : List ℕ) → 0 < count x ys → suc (length (without x ys)) ≡ length ys
length-without x [] some = absurd (omega (arith, some))
length-without x (y ∷ ys) some =
    elim (same_or_not x y) [
      | inl e ↦ omega (arith, ap length (without_here x y ys e))
      | inr ne ↦ omega (arith, ap length (without_later x y ys ne), length-without x ys (omega (arith, some, once_other x y ne)))
    ]

-- ---- what a write leaves

pub keep_older : (older newer : List ℕ) (k v x : ℕ) (c : List ℕ) (y : ℕ) → count k (x ∷ c) ≡ 0 → IsPath older newer x c y → IsPath (set older k v) newer x c y
keep_older older newer k v x [] y out h = (get_or-set_other older k x v 0 (none_same k x (omega (arith, out))) ∙ h.0, h.1)
keep_older older newer k v x (z ∷ c) y out h =
    (get_or-set_other older k x v 0 (none_same k x (omega (arith, out))) ∙ h.0, h.1, keep_older older newer k v z c y (omega (arith, out)) h.2)

pub keep_newer : (older newer : List ℕ) (k v x : ℕ) (c : List ℕ) (y : ℕ) → count k c + once k y ≡ 0 → IsPath older newer x c y → IsPath older (set newer k v) x c y
keep_newer older newer k v x [] y out h = (h.0, get_or-set_other newer k y v 0 (none_same k y (omega (arith, out))) ∙ h.1)
keep_newer older newer k v x (z ∷ c) y out h =
    (h.0, get_or-set_other newer k z v 0 (none_same k z (omega (arith, out))) ∙ h.1, keep_newer older newer k v z c y (omega (arith, out)) h.2)

-- ---- what is beside a row is in the ring

pub older_in : (older newer : List ℕ) (s x : ℕ) (c : List ℕ) (y : ℕ) → IsPath older newer x c y → 0 < count s (x ∷ c) → 0 < count (at older s) c + once (at older s) y
older_in older newer s x [] y h some =
    let same : s ≡ x = some_same s x (omega (arith, some)) in
    omega (arith, once_same (at older s) y (ap (at older) same ∙ h.0))
older_in older newer s x (z ∷ c) y h some =
    elim (same_or_not s x) [
      | inl e ↦ omega (arith, once_same (at older s) z (ap (at older) e ∙ h.0))
      | inr ne ↦ omega (arith, older_in older newer s z c y h.2 (omega (arith, some, once_other s x ne)))
    ]

pub newer_in : (older newer : List ℕ) (s x : ℕ) (c : List ℕ) (y : ℕ) → IsPath older newer x c y → 0 < count s c + once s y → 0 < count (at newer s) (x ∷ c)
newer_in older newer s x [] y h some =
    let same : s ≡ y = some_same s y (omega (arith, some)) in
    omega (arith, once_same (at newer s) x (ap (at newer) same ∙ h.1))
newer_in older newer s x (z ∷ c) y h some =
    elim (same_or_not s z) [
      | inl e ↦ omega (arith, once_same (at newer s) x (ap (at newer) e ∙ h.1))
      | inr ne ↦ omega (arith, newer_in older newer s z c y h.2 (omega (arith, some, once_other s z ne)))
    ]

-- ---- the ring's rows are told by its links

pub chain_is : (older newer : List ℕ) (x : ℕ) (c : List ℕ) (y : ℕ) → IsPath older newer x c y → chain (length c) x older ≡ c
chain_is older newer x [] y h = refl
chain_is older newer x (z ∷ c) y h =
    ap (λ w. w ∷ chain (length c) w older) h.0 ∙ ap (λ (rest : List ℕ). z ∷ rest) (chain_is older newer z c y h.2)

pub length-chain : (n x : ℕ) (older : List ℕ) → length (chain n x older) ≡ n
length-chain zero x older = refl
length-chain (suc n) x older = ap suc (length-chain n (at older x) older)

-- a list that grows keeps its links
pub grown_path : (older newer more others : List ℕ) (x : ℕ) (c : List ℕ) (y : ℕ) → ((k : ℕ) → 0 < count k (x ∷ c) → k < length older) → ((k : ℕ) → 0 < count k c + once k y → k < length newer)
    → IsPath older newer x c y → IsPath (older ++ more) (newer ++ others) x c y
grown_path older newer more others x [] y inside within h =
    (get_or_append_left older more 0 x (inside x (omega (arith, once_same x x refl))) ∙ h.0, get_or_append_left newer others 0 y (within y (omega (arith, once_same y y refl))) ∙ h.1)
grown_path older newer more others x (z ∷ c) y inside within h = (
  get_or_append_left older more 0 x (inside x (omega (arith, once_same x x refl))) ∙ h.0,
  get_or_append_left newer others 0 z (within z (omega (arith, once_same z z refl))) ∙ h.1,
  grown_path older newer more others z c y (λ k some. inside k (omega (arith, some))) (λ k some. within k (omega (arith, some))) h.2,
)

-- ---- a row is taken out

set_at : (xs : List ℕ) (i j v : ℕ) → j ≡ i → i < length xs → at (set xs i v) j ≡ v
set_at xs i j v e within = ap (at (set xs i v)) e ∙ get_or-set_same xs i v 0 within

joined : (older newer : List ℕ) (p o x t : ℕ) (c : List ℕ) (y : ℕ) → x ≡ p → o ≡ at older t → ((k : ℕ) → count k (x ∷ t ∷ c) ≤ 1) → count y (t ∷ c) ≡ 0 → p < length older → o < length newer
    → IsPath older newer t c y → IsPath (set older p o) (set newer o p) x c y
joined older newer p o x t [] y first next apart far p_in o_in h = (set_at older p x o first p_in ∙ (next ∙ h.0), set_at newer o y p (sym (next ∙ h.0)) o_in ∙ sym first)
joined older newer p o x t (u ∷ c) y first next apart far p_in o_in h =
    let o_u : o ≡ u = next ∙ h.0 in (
      set_at older p x o first p_in ∙ o_u,
      set_at newer o u p (sym o_u) o_in ∙ sym first,
      keep_newer (set older p o) newer o p u c y
          (ap (λ k. count k c + once k y) o_u ∙ omega (arith, apart u, once_same u u refl, once_other u y (λ e. absurd (omega (arith, far, once_same y u (sym e))))))
          (keep_older older newer p o u c y (ap (λ k. count k (u ∷ c)) (sym first) ∙ omega (arith, apart x, once_same x x refl)) h.2),
    )

pub taken_out : (older newer : List ℕ) (s x : ℕ) (c : List ℕ) (y : ℕ) → IsPath older newer x c y → 0 < count s c → ((k : ℕ) → count k (x ∷ c) ≤ 1) → count y c ≡ 0
    → at newer s < length older → at older s < length newer
    → IsPath (set older (at newer s) (at older s)) (set newer (at older s) (at newer s)) x (without s c) y
taken_out older newer s x [] y h some apart far p_in o_in = absurd (omega (arith, some))
taken_out older newer s x (t ∷ c) y h some apart far p_in o_in =
    let p : ℕ = at newer s in
    let o : ℕ = at older s in
    elim (same_or_not s t) [
      | inl e ↦
          subst (λ l. IsPath (set older p o) (set newer o p) x l y) (sym (without_here s t c e))
          (joined older newer p o x t c y (sym (ap (at newer) e ∙ h.1)) (ap (at older) e) apart far p_in o_in h.2)
      | inr ne ↦
          let later : 0 < count s c = omega (arith, some, once_other s t ne) in
          let p_later : 0 < count p (t ∷ c) = newer_in older newer s t c y h.2 (omega (arith, later)) in
          let o_later : 0 < count o c + once o y = older_in older newer s t c y h.2 (omega (arith, later)) in
          let x_p : x ≢ p = λ e. absurd (omega (arith, p_later, ap (λ k. count k (t ∷ c)) e, apart x, once_same x x refl)) in
          let t_o : t ≢ o = λ e. absurd (omega (arith, o_later, ap (λ k. count k c) e, ap (λ k. once k y) e, apart t, once_same t t refl, far, once_other t y (λ same. absurd (omega (arith, far, once_same y t (sym same)))))) in
          subst (λ l. IsPath (set older p o) (set newer o p) x l y) (sym (without_later s t c ne)) (
            get_or-set_other older p x o 0 x_p ∙ h.0,
            get_or-set_other newer o t p 0 t_o ∙ h.1,
            taken_out older newer s t c y h.2 later (λ k. omega (arith, apart k)) (omega (arith, far)) p_in o_in,
          )
    ]

-- ---- another is put in front, or behind

pub put_front : (older newer : List ℕ) (s x : ℕ) (c : List ℕ) (y : ℕ) → IsPath older newer x c y → count s (x ∷ c) ≡ 0 → once s y ≡ 0 → ((k : ℕ) → count k (x ∷ c) ≤ 1) → count y c ≡ 0
    → s < length older → s < length newer → x < length older → at older x < length newer
    → IsPath (set (set older x s) s (at older x)) (set (set newer s x) (at older x) s) x (s ∷ c) y
put_front older newer s x [] y h fresh other apart far s_in s_inside x_in h_in =
    let s_x : x ≢ s = none_same s x (omega (arith, fresh)) in
    let s_h : s ≢ at older x = λ e. absurd (omega (arith, other, once_same s y (e ∙ h.0))) in (
      get_or-set_other (set older x s) s x (at older x) 0 s_x ∙ set_at older x x s refl x_in,
      get_or-set_other (set newer s x) (at older x) s s 0 s_h ∙ set_at newer s s x refl s_inside,
      (set_at (set older x s) s s (at older x) refl (omega (arith, length-set older x s, s_in)) ∙ h.0, set_at (set newer s x) (at older x) y s (sym h.0) (omega (arith, length-set newer s x, h_in))),
    )
put_front older newer s x (t ∷ c) y h fresh other apart far s_in s_inside x_in h_in =
    let s_x : x ≢ s = none_same s x (omega (arith, fresh)) in
    let s_h : s ≢ at older x = λ e. absurd (omega (arith, fresh, once_same s t (e ∙ h.0))) in (
      get_or-set_other (set older x s) s x (at older x) 0 s_x ∙ set_at older x x s refl x_in,
      get_or-set_other (set newer s x) (at older x) s s 0 s_h ∙ set_at newer s s x refl s_inside,
      (
        set_at (set older x s) s s (at older x) refl (omega (arith, length-set older x s, s_in)) ∙ h.0,
        set_at (set newer s x) (at older x) t s (sym h.0) (omega (arith, length-set newer s x, h_in)),
        keep_newer (set (set older x s) s (at older x)) (set newer s x) (at older x) s t c y
            (ap (λ k. count k c + once k y) h.0 ∙ omega (arith, apart t, once_same t t refl, once_other t y (λ e. absurd (omega (arith, far, once_same y t (sym e))))))
            (keep_newer (set (set older x s) s (at older x)) newer s x t c y (omega (arith, fresh, other))
            (keep_older (set older x s) newer s (at older x) t c y (omega (arith, fresh))
            (keep_older older newer x s t c y (omega (arith, apart x, once_same x x refl)) h.2))),
      ),
    )

pub put_back : (older newer : List ℕ) (s x : ℕ) (c : List ℕ) (y : ℕ) → IsPath older newer x c y → count s (x ∷ c) ≡ 0 → once s y ≡ 0 → ((k : ℕ) → count k (x ∷ c) ≤ 1) → count y c ≡ 0
    → s < length older → s < length newer → y < length newer → at newer y < length older
    → IsPath (set (set older (at newer y) s) s y) (set (set newer s (at newer y)) y s) x (c ++ s ∷ []) y
put_back older newer s x [] y h fresh other apart far s_in s_inside y_in p_in =
    let s_x : x ≢ s = none_same s x (omega (arith, fresh)) in
    let s_y : s ≢ y = λ e. absurd (omega (arith, other, once_same s y e)) in (
      get_or-set_other (set older (at newer y) s) s x y 0 s_x ∙ set_at older (at newer y) x s (sym h.1) p_in,
      get_or-set_other (set newer s (at newer y)) y s s 0 s_y ∙ (set_at newer s s (at newer y) refl s_inside ∙ h.1),
      (set_at (set older (at newer y) s) s s y refl (omega (arith, length-set older (at newer y) s, s_in)), set_at (set newer s (at newer y)) y y s refl (omega (arith, length-set newer s (at newer y), y_in))),
    )
put_back older newer s x (t ∷ c) y h fresh other apart far s_in s_inside y_in p_in =
    let s_x : x ≢ s = none_same s x (omega (arith, fresh)) in
    let s_t : t ≢ s = none_same s t (omega (arith, fresh)) in
    let last : 0 < count (at newer y) (t ∷ c) = newer_in older newer y t c y h.2 (omega (arith, once_same y y refl)) in
    let x_p : x ≢ at newer y = λ e. absurd (omega (arith, last, ap (λ k. count k (t ∷ c)) e, apart x, once_same x x refl)) in
    let t_y : t ≢ y = λ e. absurd (omega (arith, far, once_same y t (sym e))) in (
      get_or-set_other (set older (at newer y) s) s x y 0 s_x ∙ (get_or-set_other older (at newer y) x s 0 x_p ∙ h.0),
      get_or-set_other (set newer s (at newer y)) y t s 0 t_y ∙ (get_or-set_other newer s t (at newer y) 0 s_t ∙ h.1),
      put_back older newer s t c y h.2 (omega (arith, fresh)) other (λ k. omega (arith, apart k)) (omega (arith, far)) s_in s_inside y_in p_in,
    )

-- ---- the ring of rows

-- by a path over as many rows
ring_of : (size : ℕ) (older newer c : List ℕ) → 0 < size → length older ≡ size → length newer ≡ size → suc (length c) ≡ size → IsPath older newer 0 c 0 → ((x : ℕ) → count x (0 ∷ c) ≤ 1) → ((x : ℕ) → 0 < count x (0 ∷ c) → x < size)
    → IsLoop size older newer × (chain (size - 1) 0 older ≡ c)
ring_of size older newer c some olders newers full path apart inside =
    let is : chain (size - 1) 0 older ≡ c = ap (λ n. chain n 0 older) (omega (arith, full)) ∙ chain_is older newer 0 c 0 path in (
      record {
        some = some;
        olders = olders;
        newers = newers;
        path = subst (λ l. IsPath older newer 0 l 0) (sym is) path;
        apart = subst (λ (l : List ℕ). (x : ℕ) → count x (0 ∷ l) ≤ 1) (sym is) apart;
        inside = subst (λ (l : List ℕ). (x : ℕ) → 0 < count x (0 ∷ l) → x < size) (sym is) inside;
      },
      is,
    )

-- a row's neighbours are rows
pub beside : (size : ℕ) (older newer : List ℕ) (x : ℕ) → IsLoop size older newer → 0 < count x (0 ∷ chain (size - 1) 0 older) → (at older x < size) × (at newer x < size)
beside size older newer x ring some =
    let c : List ℕ = chain (size - 1) 0 older in (
      ring.inside (at older x) (omega (arith, older_in older newer x 0 c 0 ring.path some)),
      ring.inside (at newer x) (newer_in older newer x 0 c 0 ring.path (omega (arith, some))),
    )

-- a row that is taken out and put in front
pub moved_front : (size id : ℕ) (older newer : List ℕ) → IsLoop size older newer → 0 < count id (chain (size - 1) 0 older) →
    let o : List ℕ = set older (at newer id) (at older id) in
    let n : List ℕ = set newer (at older id) (at newer id) in
    let o2 : List ℕ = set (set o 0 id) id (at o 0) in
    let n2 : List ℕ = set (set n id 0) (at o 0) id in
    (at o 0 < size) × IsLoop size o2 n2 × (chain (size - 1) 0 o2 ≡ id ∷ without id (chain (size - 1) 0 older))
moved_front size id older newer ring some =
    let c : List ℕ = chain (size - 1) 0 older in
    let o : List ℕ = set older (at newer id) (at older id) in
    let n : List ℕ = set newer (at older id) (at newer id) in
    let o2 : List ℕ = set (set o 0 id) id (at o 0) in
    let n2 : List ℕ = set (set n id 0) (at o 0) id in
    let rest : List ℕ = without id c in
    let near = beside size older newer id ring (omega (arith, some)) in
    let id_in : id < size = ring.inside id (omega (arith, some)) in
    let far : count 0 c ≡ 0 = omega (arith, ring.apart 0, once_same 0 0 refl) in
    let path : IsPath o n 0 rest 0 = taken_out older newer id 0 c 0 ring.path some ring.apart far (omega (arith, near.1, ring.olders)) (omega (arith, near.0, ring.newers)) in
    let counted : (k : ℕ) → count k rest + once k id ≡ count k c = λ k. count-without id k c some in
    let apart : (k : ℕ) → count k (0 ∷ rest) ≤ 1 = λ k. omega (arith, counted k, ring.apart k) in
    let other : once id 0 ≡ 0 = once_other id 0 (λ e. absurd (omega (arith, some, ap (λ k. count k c) e, far))) in
    let fresh : count id (0 ∷ rest) ≡ 0 = omega (arith, counted id, ring.apart id, once_same id id refl, other) in
    let o_size : length o ≡ size = length-set older (at newer id) (at older id) ∙ ring.olders in
    let n_size : length n ≡ size = length-set newer (at older id) (at newer id) ∙ ring.newers in
    let h_in : at o 0 < size = ring.inside (at o 0) (omega (arith, older_in o n 0 0 rest 0 path (omega (arith, once_same 0 0 refl)), counted (at o 0))) in
    let made = ring_of size o2 n2 (id ∷ rest) ring.some (length-set (set o 0 id) id (at o 0) ∙ (length-set o 0 id ∙ o_size)) (length-set (set n id 0) (at o 0) id ∙ (length-set n id 0 ∙ n_size))
    (omega (arith, length-without id c some, length-chain (size - 1) 0 older, ring.some))
    (put_front o n id 0 rest 0 path fresh other apart (omega (arith, counted 0, far)) (omega (arith, o_size, id_in)) (omega (arith, n_size, id_in)) (omega (arith, o_size, ring.some)) (omega (arith, n_size, h_in)))
    (λ k. omega (arith, counted k, ring.apart k)) (λ k h. ring.inside k (omega (arith, counted k, h))) in
    (h_in, made.0, made.1)

-- and one that is put behind
pub moved_back : (size id : ℕ) (older newer : List ℕ) → IsLoop size older newer → 0 < count id (chain (size - 1) 0 older) →
    let o : List ℕ = set older (at newer id) (at older id) in
    let n : List ℕ = set newer (at older id) (at newer id) in
    let o2 : List ℕ = set (set o (at n 0) id) id 0 in
    let n2 : List ℕ = set (set n id (at n 0)) 0 id in
    (at n 0 < size) × IsLoop size o2 n2 × (chain (size - 1) 0 o2 ≡ without id (chain (size - 1) 0 older) ++ id ∷ [])
moved_back size id older newer ring some =
    let c : List ℕ = chain (size - 1) 0 older in
    let o : List ℕ = set older (at newer id) (at older id) in
    let n : List ℕ = set newer (at older id) (at newer id) in
    let o2 : List ℕ = set (set o (at n 0) id) id 0 in
    let n2 : List ℕ = set (set n id (at n 0)) 0 id in
    let rest : List ℕ = without id c in
    let near = beside size older newer id ring (omega (arith, some)) in
    let id_in : id < size = ring.inside id (omega (arith, some)) in
    let far : count 0 c ≡ 0 = omega (arith, ring.apart 0, once_same 0 0 refl) in
    let path : IsPath o n 0 rest 0 = taken_out older newer id 0 c 0 ring.path some ring.apart far (omega (arith, near.1, ring.olders)) (omega (arith, near.0, ring.newers)) in
    let counted : (k : ℕ) → count k rest + once k id ≡ count k c = λ k. count-without id k c some in
    let apart : (k : ℕ) → count k (0 ∷ rest) ≤ 1 = λ k. omega (arith, counted k, ring.apart k) in
    let other : once id 0 ≡ 0 = once_other id 0 (λ e. absurd (omega (arith, some, ap (λ k. count k c) e, far))) in
    let fresh : count id (0 ∷ rest) ≡ 0 = omega (arith, counted id, ring.apart id, once_same id id refl, other) in
    let o_size : length o ≡ size = length-set older (at newer id) (at older id) ∙ ring.olders in
    let n_size : length n ≡ size = length-set newer (at older id) (at newer id) ∙ ring.newers in
    let p_in : at n 0 < size = ring.inside (at n 0) (omega (arith, newer_in o n 0 0 rest 0 path (omega (arith, once_same 0 0 refl)), counted (at n 0))) in
    let back : (k : ℕ) → count k (rest ++ id ∷ []) ≡ count k rest + once k id = λ k. omega (arith, count-append k rest (id ∷ [])) in
    let made = ring_of size o2 n2 (rest ++ id ∷ []) ring.some (length-set (set o (at n 0) id) id 0 ∙ (length-set o (at n 0) id ∙ o_size)) (length-set (set n id (at n 0)) 0 id ∙ (length-set n id (at n 0) ∙ n_size))
    (omega (arith, length-append rest (id ∷ []), length-without id c some, length-chain (size - 1) 0 older, ring.some))
    (put_back o n id 0 rest 0 path fresh other apart (omega (arith, counted 0, far)) (omega (arith, o_size, id_in)) (omega (arith, n_size, id_in)) (omega (arith, n_size, ring.some)) (omega (arith, o_size, p_in)))
    (λ k. omega (arith, back k, counted k, ring.apart k)) (λ k h. ring.inside k (omega (arith, back k, counted k, h))) in
    (p_in, made.0, made.1)

-- another row is put behind
pub grown : (size v w : ℕ) (older newer : List ℕ) → IsLoop size older newer →
    let o : List ℕ = older ++ v ∷ [] in
    let n : List ℕ = newer ++ w ∷ [] in
    let o2 : List ℕ = set (set o (at newer 0) size) size 0 in
    let n2 : List ℕ = set (set n size (at newer 0)) 0 size in
    (at newer 0 < size) × IsLoop (suc size) o2 n2 × (chain (suc size - 1) 0 o2 ≡ chain (size - 1) 0 older ++ size ∷ [])
grown size v w older newer ring =
    let c : List ℕ = chain (size - 1) 0 older in
    let o : List ℕ = older ++ v ∷ [] in
    let n : List ℕ = newer ++ w ∷ [] in
    let same : at n 0 ≡ at newer 0 = get_or_append_left newer (w ∷ []) 0 0 (omega (arith, ring.newers, ring.some)) in
    let o2 : List ℕ = set (set o (at newer 0) size) size 0 in
    let n2 : List ℕ = set (set n size (at newer 0)) 0 size in
    let path : IsPath o n 0 c 0 = grown_path older newer (v ∷ []) (w ∷ []) 0 c 0 (λ k some. omega (arith, ring.olders, ring.inside k some)) (λ k some. omega (arith, ring.newers, ring.inside k (omega (arith, some)))) ring.path in
    let far : count 0 c ≡ 0 = omega (arith, ring.apart 0, once_same 0 0 refl) in
    let other : once size 0 ≡ 0 = once_other size 0 (λ e. absurd (omega (arith, e, ring.some))) in
    let outside : count size (0 ∷ c) ≡ 0 =
    elim (same_or_not (count size (0 ∷ c)) 0) [
      | inl none ↦ none
      | inr more ↦ absurd (omega (arith, ring.inside size (omega (arith, more))))
    ] in
    let o_size : length o ≡ suc size = omega (arith, length-append older (v ∷ []), ring.olders) in
    let n_size : length n ≡ suc size = omega (arith, length-append newer (w ∷ []), ring.newers) in
    let p_in : at newer 0 < size = (beside size older newer 0 ring (omega (arith, once_same 0 0 refl))).1 in
    let back : (k : ℕ) → count k (c ++ size ∷ []) ≡ count k c + once k size = λ k. omega (arith, count-append k c (size ∷ [])) in
    let put : IsPath o2 n2 0 (c ++ size ∷ []) 0 = subst (λ p. IsPath (set (set o p size) size 0) (set (set n size p) 0 size) 0 (c ++ size ∷ []) 0) same
    (put_back o n size 0 c 0 path outside other ring.apart far (omega (arith, o_size)) (omega (arith, n_size)) (omega (arith, n_size)) (omega (arith, o_size, same, p_in))) in
    let made = ring_of (suc size) o2 n2 (c ++ size ∷ []) (omega arith) (length-set (set o (at newer 0) size) size 0 ∙ (length-set o (at newer 0) size ∙ o_size)) (length-set (set n size (at newer 0)) 0 size ∙ (length-set n size (at newer 0) ∙ n_size))
    (omega (arith, length-append c (size ∷ []), length-chain (size - 1) 0 older, ring.some))
    put
    (λ k. elim (same_or_not k size) [
      | inl e ↦ omega (arith, back k, once_same k size e, ap (λ x. count x (0 ∷ c)) e, outside)
      | inr ne ↦ omega (arith, back k, once_other k size ne, ring.apart k)
    ])
    (λ k h. elim (same_or_not k size) [
      | inl e ↦ omega (arith, e)
      | inr ne ↦ omega (arith, ring.inside k (omega (arith, back k, once_other k size ne, h)))
    ]) in
    (p_in, made.0, made.1)
