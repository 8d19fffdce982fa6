-- How many bytes are marked, after what changes marks (RFC 2018, 5).
use Rattle.std.proofs.Common.{◌≡◌, ℕ, zero, suc, ◌+◌, ◌-◌, ◌≤◌, Bool, true, false, List, [], ◌∷◌, ◌++◌, length, take, drop, replicate, arith, refl, length-append, length-drop, length-take}
use Rattle.std.specs.Prelude.{◌||◌, nat_lt, if◌then◌else◌, Some, None, IfSome}
use Rattle.std.proofs.lemmas.List.{length-replicate}
use Rattle.tcp_sendq.specs.SendQueue.{Queue, after_mark, can_mark, count_marked, end_of_marks, last_mark_end, marks_with}

append : (front rest : List Bool) → count_marked (front ++ rest) ≡ count_marked front + count_marked rest
append [] rest = omega arith
append (marked ∷ front) rest = omega (arith, append front rest)

all : (n : ℕ) → count_marked (replicate n true) ≡ n
all zero = refl
all (suc n) = omega (arith, all n)

pub none_marked : (n : ℕ) → count_marked (replicate n false) ≡ 0
none_marked zero = refl
none_marked (suc n) = omega (arith, none_marked n)

pub unmarked_behind : (marks : List Bool) (n : ℕ) → count_marked (marks ++ replicate n false) ≡ count_marked marks
unmarked_behind marks n = omega (arith, append marks (replicate n false), none_marked n)

-- each byte that is released takes one mark with it at most
one-at-most : (marked : Bool) (before after n : ℕ) → before ≤ after + n → (if marked then 1 else 0) + before ≤ after + suc n
one-at-most true before after n e = omega (arith, e)
one-at-most false before after n e = omega (arith, e)

pub released : (n : ℕ) (marks : List Bool) → count_marked marks ≤ count_marked (drop n marks) + n
released zero marks = omega arith
released (suc n) [] = omega arith
released (suc n) (marked ∷ marks) = one-at-most marked _ _ n (released n marks)

-- a block marks more, and unmarks none
between : (from to : ℕ) (marks : List Bool) → from ≤ to → count_marked (drop from marks) ≤ count_marked (drop to marks) + (to - from)
between zero to marks e = omega (arith, released to marks)
between (suc from) zero marks e = absurd (omega (arith, e))
between (suc from) (suc to) [] e = omega arith
between (suc from) (suc to) (marked ∷ marks) e = omega (arith, between from to marks (omega (arith, e)))

parts : (from : ℕ) (marks : List Bool) → count_marked marks ≡ count_marked (take from marks) + count_marked (drop from marks)
parts zero marks = omega arith
parts (suc from) [] = omega arith
parts (suc from) (marked ∷ marks) = omega (arith, parts from marks)

more-with : (from to : ℕ) (marks : List Bool) → from ≤ to → count_marked marks ≤ count_marked (marks_with from to marks)
more-with from to marks e =
    omega (
      arith,
      parts from marks,
      between from to marks e,
      all (to - from),
      append (take from marks) (replicate (to - from) true),
      append (take from marks ++ replicate (to - from) true) (drop to marks),
    )

if-more : (b : Bool) (new old : List Bool) → count_marked old ≤ count_marked new → count_marked old ≤ count_marked (if b then new else old)
if-more true new old e = e
if-more false new old e = omega arith

pub marked_more : (q : Queue) (from to : ℕ) → from ≤ to → count_marked q.marks ≤ count_marked (after_mark q from to).marks
unfolding after_mark
marked_more q from to e = if-more (can_mark q from to) (marks_with from to q.marks) q.marks (more-with from to q.marks e)

-- and none that isn't there
fits-with : (from to most : ℕ) (marks : List Bool) → from ≤ to → to ≤ most → length marks ≤ most → length (marks_with from to marks) ≤ most
fits-with from to most marks e f g =
    omega (
      arith,
      e,
      f,
      g,
      length-append (take from marks ++ replicate (to - from) true) (drop to marks),
      length-append (take from marks) (replicate (to - from) true),
      length-take from marks,
      length-drop to marks,
      length-replicate (to - from) true,
    )

if-fits : (b : Bool) (new old : List Bool) (most : ℕ) → length new ≤ most → length old ≤ most → length (if b then new else old) ≤ most
if-fits true new old most e f = e
if-fits false new old most e f = f

pub marks_fit : (q : Queue) (from to : ℕ) → from ≤ to → to ≤ length q.bytes → length q.marks ≤ length q.bytes
    → length (after_mark q from to).marks ≤ length q.bytes
unfolding after_mark
marks_fit q from to e f g =
    if-fits (can_mark q from to) (marks_with from to q.marks) q.marks (length q.bytes) (fits-with from to (length q.bytes) q.marks e f g) g

-- the last mark is of a byte that is there
end-by : (b : Bool) (n most : ℕ) → n ≤ most → (if b then suc n else 0) ≤ suc most
end-by true n most e = omega (arith, e)
end-by false n most e = omega arith

end-within : (marks : List Bool) → end_of_marks marks ≤ length marks
end-within [] = omega arith
end-within (marked ∷ marks) = end-by (nat_lt 0 (end_of_marks marks) || marked) (end_of_marks marks) (length marks) (end-within marks)

some-end : (b : Bool) (n most : ℕ) → n ≤ most → IfSome (if b then Some n else None) (λ end. end ≤ most)
some-end true n most e = e
some-end false n most e = tt

pub last_end_within : (q : Queue) → IfSome (last_mark_end q) (λ end. end ≤ length q.marks)
unfolding last_mark_end
last_end_within q = some-end (nat_lt 0 (end_of_marks q.marks)) (end_of_marks q.marks) (length q.marks) (end-within q.marks)
