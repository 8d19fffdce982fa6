-- One step of each recursion over a table, at a run of it.
use Rattle.std.proofs.Common.{◌≡◌, ℕ, ◌+◌, ◌-◌, ◌<◌, List, [], ◌∷◌, length, get_or, drop, sym, ◌∙◌, ap}
use Rattle.std.specs.Prelude.{true, false, Bool, not, map, if◌then◌else◌}
use Rattle.std.specs.List.Retain.{RetainsInTurn}
use Rattle.std.proofs.Common.{subst}
use Rattle.std.proofs.lemmas.List.{drop_more, drop-map}
use Rattle.tcp_reasm.specs.declared.table.Run.{Run as Entry}
use Rattle.tcp_reasm.specs.Reassembly.{Run, is_within}
use Rattle.tcp_reasm.specs.Store.{run_of, runs_in, touches, joined, union_of, rest_of, moved, held_to, gap_before, gap_to}

-- what is left from a run on is that run and what is left after it
pub runs_drop : (table : List Entry) (i : ℕ) (d : Entry) → i < length table → drop i (runs_in table) ≡ run_of (get_or table i d) ∷ drop (i + 1) (runs_in table)
runs_drop table i d h = drop-map run_of i table ∙ ap runs_in (drop_more table i d h) ∙ ap (λ rest. run_of (get_or table i d) ∷ rest) (sym (drop-map run_of (i + 1) table))

-- a union
pub union_touched : (table : List Entry) (i : ℕ) (d : Entry) (union piece : Run) → i < length table → touches piece (run_of (get_or table i d)) ≡ true →
    union_of union piece (drop i (runs_in table)) ≡ union_of (joined union (run_of (get_or table i d))) piece (drop (i + 1) (runs_in table))
union_touched table i d union piece h e =
    ap (union_of union piece) (runs_drop table i d h)
    ∙ ap (λ b. union_of (if b then joined union (run_of (get_or table i d)) else union) piece (drop (i + 1) (runs_in table))) e

pub union_untouched : (table : List Entry) (i : ℕ) (d : Entry) (union piece : Run) → i < length table → touches piece (run_of (get_or table i d)) ≡ false →
    union_of union piece (drop i (runs_in table)) ≡ union_of union piece (drop (i + 1) (runs_in table))
union_untouched table i d union piece h e =
    ap (union_of union piece) (runs_drop table i d h)
    ∙ ap (λ b. union_of (if b then joined union (run_of (get_or table i d)) else union) piece (drop (i + 1) (runs_in table))) e

-- the rest
pub rest_touched : (table : List Entry) (i : ℕ) (d : Entry) (piece : Run) → i < length table → touches piece (run_of (get_or table i d)) ≡ true →
    rest_of piece (drop i (runs_in table)) ≡ rest_of piece (drop (i + 1) (runs_in table))
rest_touched table i d piece h e =
    ap (rest_of piece) (runs_drop table i d h)
    ∙ ap (λ b. if b then rest_of piece (drop (i + 1) (runs_in table)) else run_of (get_or table i d) ∷ rest_of piece (drop (i + 1) (runs_in table))) e

pub rest_untouched : (table : List Entry) (i : ℕ) (d : Entry) (piece : Run) → i < length table → touches piece (run_of (get_or table i d)) ≡ false →
    rest_of piece (drop i (runs_in table)) ≡ run_of (get_or table i d) ∷ rest_of piece (drop (i + 1) (runs_in table))
rest_untouched table i d piece h e =
    ap (rest_of piece) (runs_drop table i d h)
    ∙ ap (λ b. if b then rest_of piece (drop (i + 1) (runs_in table)) else run_of (get_or table i d) ∷ rest_of piece (drop (i + 1) (runs_in table))) e

-- how far bytes are kept
pub held_here : (table : List Entry) (i place : ℕ) (d : Entry) → i < length table → is_within place (run_of (get_or table i d)) ≡ true → held_to (drop i (runs_in table)) place ≡ (get_or table i d).to
held_here table i place d h e =
    ap (λ rs. held_to rs place) (runs_drop table i d h)
    ∙ ap (λ b. if b then (get_or table i d).to else held_to (drop (i + 1) (runs_in table)) place) e

pub held_elsewhere : (table : List Entry) (i place : ℕ) (d : Entry) → i < length table → is_within place (run_of (get_or table i d)) ≡ false → held_to (drop i (runs_in table)) place ≡ held_to (drop (i + 1) (runs_in table)) place
held_elsewhere table i place d h e =
    ap (λ rs. held_to rs place) (runs_drop table i d h)
    ∙ ap (λ b. if b then (get_or table i d).to else held_to (drop (i + 1) (runs_in table)) place) e

-- how far none is
pub gap_step : (table : List Entry) (i place end : ℕ) (d : Entry) → i < length table → gap_to (drop i (runs_in table)) place end ≡ gap_to (drop (i + 1) (runs_in table)) place (gap_before (run_of (get_or table i d)) place end)
gap_step table i place end d h = ap (λ rs. gap_to rs place end) (runs_drop table i d h)

kept_or_not : (b : Bool) (count : ℕ) (x y : Entry) (zs : List Entry) (rest : List Run) → y.from ≡ x.from - count → y.to ≡ x.to - count → runs_in zs ≡ map (moved count) rest →
    runs_in (if not b then y ∷ zs else zs) ≡ map (moved count) (if b then rest else run_of x ∷ rest)
kept_or_not true count x y zs rest from to later = later
kept_or_not false count x y zs rest from to later =
    ap (λ n. record { from = n; to = y.to; stamp = 0 } ∷ runs_in zs) from
    ∙ ap (λ n. record { from = x.from - count; to = n; stamp = 0 } ∷ runs_in zs) to
    ∙ ap (λ (rs : List Run). moved count (run_of x) ∷ rs) later

-- what a `retain_mut` leaves that drops what is touched and moves the rest up
pub rest_of-from_retain : {F : Type 0} (R : F → Entry → Bool → F → Entry → Type 0) (f : F) (piece : Run) (count : ℕ)
    → ((x : Entry) (b : Bool) (t : F) (y : Entry) → R f x b t y → (b ≡ not (touches piece (run_of x))) × (t ≡ f) × (y.from ≡ x.from - count) × (y.to ≡ x.to - count))
    → (xs ys : List Entry) → RetainsInTurn R f xs ys → runs_in ys ≡ map (moved count) (rest_of piece (runs_in xs))
rest_of-from_retain R f piece count says [] ys h = ap runs_in h
rest_of-from_retain R f piece count says (x ∷ xs) ys (b, t, y, called, zs, rest, is) =
    let s = says x b t y called in
    let later : runs_in zs ≡ map (moved count) (rest_of piece (runs_in xs)) = rest_of-from_retain R f piece count says xs zs (subst (λ g. RetainsInTurn R g xs zs) s.1 rest) in
    ap runs_in (is ∙ ap (λ c. if c then y ∷ zs else zs) s.0) ∙ kept_or_not (touches piece (run_of x)) count x y zs (rest_of piece (runs_in xs)) s.2 s.3 later
