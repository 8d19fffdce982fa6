-- Joining finds no loss earlier.
use Rattle.std.proofs.Common.{◌≡◌, ℕ, ◌+◌, ◌<◌, ◌≤◌, inl, inr, Bool, true, false, arith, refl}
use Rattle.std.specs.Prelude.{◌==◌, ◌&&◌, ◌||◌, not, max, nat_lt, nat_le}
use Rattle.std.proofs.lemmas.Bool.Decides.{nat_tests}
use Rattle.tcp_recovery.specs.declared.stretch.Stretch.{Stretch}
use Rattle.tcp_recovery.specs.declared.delivered.Delivered.{Delivered}
use Rattle.tcp_recovery.specs.Stretches.{joined}
use Rattle.tcp_recovery.specs.Rack.{is_lost, is_overtaken}
use Rattle.tcp_recovery.specs.Laws.{JoiningIsNoLoss}
use Rattle.tcp_recovery.proofs.Overdue.{IsLost, IsOver, lost}

-- ---- what the test of a stretch says, the other way
first-true : (a x y : Bool) → a ≡ true → (a || x || y) ≡ true
first-true true x y e = refl
first-true false x y e = absurd (cc)

second-true : (a b c y : Bool) → b ≡ true → c ≡ true → (a || (b && c) || y) ≡ true
second-true true b c y e f = refl
second-true false true true y e f = refl
second-true false true false y e f = absurd (cc)
second-true false false c y e f = absurd (cc)

third-true : (a x r e g : Bool) → r ≡ false → e ≡ true → g ≡ true → (a || x || (not r && e && g)) ≡ true
third-true true x r e g f h i = refl
third-true false true r e g f h i = refl
third-true false false false true true f h i = refl
third-true false false false true false f h i = absurd (cc)
third-true false false false false g f h i = absurd (cc)
third-true false false true e g f h i = absurd (cc)

both-true : (a b : Bool) → a ≡ true → b ≡ true → (a && b) ≡ true
both-true true b e f = f
both-true false b e f = absurd (cc)

over-test : (d : Delivered) (s : Stretch) → IsOver d s → is_overtaken d s ≡ true
over-test d s (inl earlier) =
    first-true (nat_lt s.last d.xmit_ts) (d.xmit_ts == s.last && nat_lt s.end d.end_seq) (not s.is_again && nat_lt s.end d.fack && nat_lt 0 d.end_seq)
    (grind (arith, nat_tests, earlier))
over-test d s (inr (inl tied)) =
    let same : d.xmit_ts ≡ s.last = tied.0 in
    let less : s.end < d.end_seq = tied.1 in
    second-true (nat_lt s.last d.xmit_ts) (d.xmit_ts == s.last) (nat_lt s.end d.end_seq)
    (not s.is_again && nat_lt s.end d.fack && nat_lt 0 d.end_seq)
    (grind (arith, nat_tests, same)) (grind (arith, nat_tests, less))
over-test d s (inr (inr fresh)) =
    let less : s.end < d.fack = fresh.1 in
    let some : 0 < d.end_seq = fresh.2 in
    third-true (nat_lt s.last d.xmit_ts) (d.xmit_ts == s.last && nat_lt s.end d.end_seq) s.is_again (nat_lt s.end d.fack) (nat_lt 0 d.end_seq)
    (fresh.0) (grind (arith, nat_tests, less)) (grind (arith, nat_tests, some))

lost-test : (d : Delivered) (window now : ℕ) (s : Stretch) → IsOver d s → s.last + d.rtt + window ≤ now → is_lost d window now s ≡ true
lost-test d window now s o waited =
    both-true (is_overtaken d s) (nat_le (s.last + d.rtt + window) now) (over-test d s o) (grind (arith, nat_tests, waited))

-- ---- of two that were joined
neither : (a b : Bool) → (a || b) ≡ false → (a ≡ false) × (b ≡ false)
neither true b e = absurd (cc)
neither false b e = (refl, e)

tied-one : (d : Delivered) (s : Stretch) (most : ℕ) (b : Bool) → nat_lt s.last most ≡ b → s.last ≤ most → d.xmit_ts ≡ most → s.end < d.end_seq → IsOver d s
tied-one d s most true e h same less =
    let earlier : s.last < most = grind (arith, nat_tests, e) in
    inl (omega (arith, earlier, same))
tied-one d s most false e h same less =
    let late : most ≤ s.last = grind (arith, nat_tests, e) in
    inr (inl (omega (arith, late, h, same), less))

over-first : (d : Delivered) (s next : Stretch) → s.end ≤ next.end → IsOver d (joined s next) → IsOver d s
over-first d s next h (inl earlier) = inl (omega (arith, earlier))
over-first d s next h (inr (inl tied)) =
    let less : next.end < d.end_seq = tied.1 in
    tied-one d s (max s.last next.last) (nat_lt s.last (max s.last next.last)) refl (omega arith) (tied.0) (omega (arith, less, h))
over-first d s next h (inr (inr fresh)) =
    let less : next.end < d.fack = fresh.1 in
    inr (inr ((neither s.is_again next.is_again (fresh.0)).0, omega (arith, less, h), fresh.2))

over-second : (d : Delivered) (s next : Stretch) → IsOver d (joined s next) → IsOver d next
over-second d s next (inl earlier) = inl (omega (arith, earlier))
over-second d s next (inr (inl tied)) =
    tied-one d next (max s.last next.last) (nat_lt next.last (max s.last next.last)) refl (omega arith) (tied.0) (tied.1)
over-second d s next (inr (inr fresh)) = inr (inr ((neither s.is_again next.is_again (fresh.0)).1, fresh.1, fresh.2))

pub joining_lem : JoiningIsNoLoss
joining_lem d window now s next h e =
    let l : IsLost d window now (joined s next) = lost d window now (joined s next) e in
    let waited : max s.last next.last + d.rtt + window ≤ now = l.waited in (
      lost-test d window now s (over-first d s next h l.over) (omega (arith, waited)),
      lost-test d window now next (over-second d s next l.over) (omega (arith, waited)),
    )
