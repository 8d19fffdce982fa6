-- THE RULES OF POSITIONS against the user's stream: what went is its beginning, and no segment that is the user's breaks one.
use Rattle.std.proofs.Common.{◌≡◌, ℕ, zero, suc, ◌+◌, ◌-◌, ◌^◌, ◌<◌, ◌≤◌, List, [], ◌∷◌, ◌++◌, length, take, drop, refl}
use Rattle.std.proofs.Common.{sym, ◌∙◌, ap, subst, arith, length-take, length-drop, ⊎_elim, inl, inr, eq-eqb}
use Rattle.std.specs.Prelude.{◌⊎◌, Bool, true, false, not, ◌&&◌, ◌||◌, ◌==◌, nat_lt, nat_le, if◌then◌else◌, Option, Some, None, IfSome, bytes_eq, is_some, min}
use Rattle.std.proofs.lemmas.Bool.{false≢true, ltb-true, eqb-true, eqb-false, and_parts, le-ltb, cond_both, leb-true}
use Rattle.std.proofs.lemmas.List.{drop-drop}
use Rattle.std.proofs.Math.Seq.{take-add, take-length}
use Rattle.tcp_numbers.specs.declared.seq.Seq.{Seq}
use Rattle.tcp_wire.specs.Flags.{fin, syn, rst, has}
use Rattle.tcp_wire.specs.Position.{number, position_of}
use Rattle.tcp_wire.specs.Wire.{Content}
use Rattle.tcp_wire.proofs.Lemmas.{position_of_number}
use Rattle.tcp_replay.specs.Truthful.{IsOfUser}
use Rattle.tcp_replay.proofs.Lists.{by_test, drop-take_sub}
use Rattle.tcp_judge.specs.Heard.{carries_ack}
use Rattle.tcp_judge.specs.Stream.{Stream, nothing_sent, count_sent, with_text, count_both, agrees, changes_bytes, count_covered, without_front}
use Rattle.tcp_judge.specs.Known.{Known, nothing_known, initial_after, place_by, place_of, fin_after, known_after, is_keep_alive, acked_by, count_acked, leads_back, known_with}
use Rattle.tcp_judge.specs.Heard.{is_syn}
use Rattle.tcp_judge.specs.Rules.{finding_if, initial_by, early_by, fin_by, fin_finding, text_finding, position_finding}
use Rattle.tcp_judge.specs.declared.finding.Finding.{Finding}

-- TESTS
pub unless : (a b : Bool) → (a ≡ true → b ≡ false) → a && b ≡ false
unless true b h = h refl
unless false b h = refl

pub not-none : (n : ℕ) → not (n == 0) ≡ true → 0 < n
not-none zero e = absurd (false≢true e)
not-none (suc n) e = omega arith

pub none-found : (b : Bool) (f : Finding) → b ≡ false → finding_if b f ≡ None
none-found true f e = absurd (false≢true (sym e))
none-found false f e = refl

-- BEGINNINGS: equal bytes are found equal
same-found : (xs : List ℕ) → bytes_eq xs xs ≡ true
same-found [] = refl
same-found (x ∷ xs) = rw (eq-eqb x x refl) (same-found xs)

front-front : (n m : ℕ) (xs : List ℕ) → n ≤ length (take m xs) → take n (take m xs) ≡ take n xs
front-front zero m xs h = refl
front-front (suc n) zero xs h = absurd (omega (arith, length-take 0 xs))
front-front (suc n) (suc m) [] h = refl
front-front (suc n) (suc m) (x ∷ xs) h = ap (λ ys. x ∷ ys) (front-front n m xs (omega arith))

-- two beginnings of one text agree
fronts-agree : (m n : ℕ) (xs : List ℕ) → agrees (take m xs) (take n xs) ≡ true
fronts-agree m n xs =
    let count = count_both (take m xs) (take n xs) in
    let same : take count (take m xs) ≡ take count (take n xs) = front-front count m xs (omega arith) ∙ sym (front-front count n xs (omega arith)) in
    subst (λ (ys : List ℕ). bytes_eq (take count (take m xs)) ys ≡ true) same (same-found (take count (take m xs)))

-- what a beginning has from a place on
own-length : (k : ℕ) (one xs : List ℕ) → one ≡ take k xs → one ≡ take (length one) xs
own-length k one xs e =
    let own : take (length (take k xs)) (take k xs) ≡ take (length (take k xs)) xs = front-front (length (take k xs)) k xs (omega arith) in
    e ∙ sym (take-length (take k xs)) ∙ own ∙ ap (λ (ys : List ℕ). take (length ys) xs) (sym e)

-- a beginning of what is behind r bytes goes on by what a text from a place within it has beyond its end
front-goes_on : (r s place m : ℕ) (sent text xs : List ℕ) → 1 ≤ place → place ≤ 1 + (r + s) → sent ≡ take s (drop r xs) → text ≡ take m (drop (place - 1) xs)
    → sent ++ drop (1 + (r + s) - place) text ≡ take (s + (m - (1 + (r + s) - place))) (drop r xs)
front-goes_on r s place m sent text xs least most e f =
    let d = 1 + (r + s) - place in
    let place_is : place - 1 + d ≡ r + s = omega arith in
    let more : drop d text ≡ take (m - d) (drop s (drop r xs)) =
    ap (drop d) f ∙ drop-take_sub d m (drop (place - 1) xs)
    ∙ ap (take (m - d)) (drop-drop d (place - 1) xs ∙ ap (λ n. drop n xs) place_is ∙ sym (drop-drop s r xs)) in
    ap (λ (ys : List ℕ). ys ++ drop d text) e ∙ ap (λ (ys : List ℕ). take s (drop r xs) ++ ys) more ∙ sym (take-add s (m - d) (drop r xs))

-- a beginning of what is behind r bytes and a text from a place on agree from the later of the two on
texts-agree : (r s place m : ℕ) (sent text xs : List ℕ) → 1 ≤ place → sent ≡ take s (drop r xs) → text ≡ take m (drop (place - 1) xs)
    → agrees (drop (place - (1 + r)) sent) (drop (1 + r - place) text) ≡ true
texts-agree r s place m sent text xs least e f =
    let a = place - (1 + r) in
    let b = 1 + r - place in
    let from : r + a ≡ place - 1 + b = omega arith in
    let one : drop a sent ≡ take (s - a) (drop (r + a) xs) = ap (drop a) e ∙ drop-take_sub a s (drop r xs) ∙ ap (take (s - a)) (drop-drop a r xs) in
    let other : drop b text ≡ take (m - b) (drop (r + a) xs) =
    ap (drop b) f ∙ drop-take_sub b m (drop (place - 1) xs) ∙ ap (take (m - b)) (drop-drop b (place - 1) xs ∙ ap (λ n. drop n xs) (sym from)) in
    ap (λ (ys : List ℕ). agrees ys (drop b text)) one ∙ ap (λ (ys : List ℕ). agrees (take (s - a) (drop (r + a) xs)) ys) other
    ∙ fronts-agree (s - a) (m - b) (drop (r + a) xs)

-- WHAT IS KEPT is of the user's stream
pub record IsPart (accepted : List ℕ) (d : Stream) : Type 0 where
  pub inside : d.released ≤ length accepted
  pub part : d.sent ≡ take (length d.sent) (drop d.released accepted)

pub part-most : (accepted : List ℕ) (d : Stream) → IsPart accepted d → count_sent d ≤ length accepted
part-most accepted d h = omega (arith, ap length h.part, length-take (length d.sent) (drop d.released accepted), length-drop d.released accepted, h.inside)

part-without : (accepted : List ℕ) (d : Stream) (n : ℕ) → n ≤ length d.sent → IsPart accepted d → IsPart accepted (without_front d n)
part-without accepted d n fits h = record {
  inside = omega (arith, part-most accepted d h, fits);
  part = own-length (length d.sent - n) (drop n d.sent) (drop (d.released + n) accepted)
      (ap (drop n) h.part ∙ drop-take_sub n (length d.sent) (drop d.released accepted)
      ∙ ap (take (length d.sent - n)) (drop-drop n d.released accepted));
}

-- WHERE A SEGMENT STANDS in the user's stream
pub record IsAt (accepted : List ℕ) (place : ℕ) (v : Content) : Type 0 where
  pub least : 1 ≤ place
  pub text : v.text ≡ take (length v.text) (drop (place - 1) accepted)
  pub ends : 0 < length v.text → place + length v.text ≤ 1 + length accepted
  pub has_fin : has fin v.flags ≡ true → place + length v.text ≡ 1 + length accepted

text-own : (text xs : List ℕ) → (0 < length text → text ≡ take (length text) xs) → text ≡ take (length text) xs
text-own [] xs h = refl
text-own (b ∷ text) xs h = h (omega arith)

at-user : (isn : ℕ) (accepted : List ℕ) (closed : Bool) (v : Content) (h : IsOfUser isn accepted closed v)
    → IsAt accepted (h.position + (if has syn v.flags then 1 else 0)) v
at-user isn accepted closed v h =
    let p = h.position in
    by_test (has syn v.flags) (λ b. IsAt accepted (p + (if b then 1 else 0)) v)
    (λ e.
    let first : p ≡ 0 = eqb-true p 0 (sym h.has_syn ∙ e) in
    let bare = h.bare first in
    record {
      least = omega arith;
      text = text-own v.text (drop (p + 1 - 1) accepted) (λ some. absurd (omega (arith, ap length bare.0)));
      ends = λ some. absurd (omega (arith, ap length bare.0));
      has_fin = λ acked_number. absurd (false≢true (sym bare.1 ∙ acked_number));
    })
    (λ e.
    let later : p ≡ 0 → ⊥ = eqb-false p 0 (sym h.has_syn ∙ e) in
    let least : 1 ≤ p = omega arith in
    let same : p + 0 - 1 ≡ p - 1 = omega arith in
    record {
      least = omega arith;
      text = text-own v.text (drop (p + 0 - 1) accepted) (λ some. h.text some ∙ ap (λ n. take (length v.text) (drop n accepted)) (sym same));
      ends = λ some. omega (arith, h.fits some);
      has_fin = λ acked_number. omega (arith, (h.has_fin acked_number).1);
    })

-- WHAT IS KNOWN is of the user's stream
pub record IsKnown (isn : ℕ) (accepted : List ℕ) (k : Known) : Type 0 where
  pub initial : IfSome k.initial (λ n. n.0 ≡ isn)
  pub stream : IsPart accepted k.stream
  pub fin : IfSome k.fin (λ place. place ≡ 1 + length accepted)

pub nothing-known : (isn : ℕ) (accepted : List ℕ) → IsKnown isn accepted nothing_known
nothing-known isn accepted = record { initial = tt; stream = record { inside = omega arith; part = refl }; fin = tt }

-- WHATEVER IS ACKNOWLEDGED, no more is forgotten than was kept
covered-most : (d : Stream) (has_fin : Bool) (position : ℕ) → count_covered d has_fin position ≤ length d.sent
covered-most d has_fin position =
    cond_both (nat_le position (1 + count_sent d + (if has_fin then 1 else 0))) (min (length d.sent) (position - (1 + d.released))) 0
    (λ (n : ℕ). n ≤ length d.sent) (λ _. omega arith) (λ _. omega arith)

pub acked-most : (known : Option Seq) (d : Stream) (has_fin : Bool) (v : Content) → acked_by known d has_fin v ≤ length d.sent
acked-most None d has_fin v = omega arith
acked-most (Some n) d has_fin v =
    cond_both (carries_ack v) (count_covered d has_fin (position_of n.0 (count_sent d) v.ack)) 0 (λ (n : ℕ). n ≤ length d.sent)
    (λ _. covered-most d has_fin (position_of n.0 (count_sent d) v.ack)) (λ _. omega arith)

module _ (isn : ℕ) (accepted : List ℕ) (closed : Bool) (small : isn < 2 ^ 32) (short : 2 + length accepted < 2 ^ 31) where
  -- a SYN has the initial number
  syn-number : (v : Content) → (has rst v.flags ≡ false → IsOfUser isn accepted closed v) → is_syn v ≡ true → v.seq ≡ isn
  syn-number v user e =
      let parts = and_parts (has syn v.flags) (not (has rst v.flags)) e in
      let plain : has rst v.flags ≡ false =
      by_test (has rst v.flags) (λ b. (not b ≡ true) → b ≡ false) (λ _ never. absurd (false≢true never)) (λ _ _. refl) parts.1 in
      let h = user plain in
      let first : h.position ≡ 0 = eqb-true h.position 0 (sym h.has_syn ∙ parts.0) in
      let whole : number isn 0 ≡ isn = omega arith in
      h.seq ∙ ap (number isn) first ∙ whole

  initial-kept : (known : Option Seq) (v : Content) → IfSome known (λ n. n.0 ≡ isn) → (has rst v.flags ≡ false → IsOfUser isn accepted closed v)
      → IfSome (initial_after known v) (λ n. n.0 ≡ isn)
  initial-kept None v h user =
      by_test (is_syn v) (λ b. IfSome (if b then Some (record { 0 = v.seq }) else None) (λ (n : Seq). n.0 ≡ isn)) (syn-number v user) (λ _. tt)
  initial-kept (Some n) v h user = h

  -- where the initial number is known a place is right,
  pub placed-plain : (n : Seq) (count : ℕ) (v : Content) → n.0 ≡ isn → count ≤ length accepted → IsOfUser isn accepted closed v
      → IsAt accepted (position_of n.0 count v.seq + (if has syn v.flags then 1 else 0)) v
  placed-plain n count v h inside own =
      let p = own.position in
      let near : position_of isn count (number isn p) ≡ p =
      position_of_number isn count p small
      (omega (arith, own.within, by_test closed (λ b. (if b then 1 else 0) ≤ 1) (λ _. omega arith) (λ _. omega arith))) (omega arith) in
      let place : position_of n.0 count v.seq ≡ p = ap (λ i. position_of i count v.seq) h ∙ ap (position_of isn count) own.seq ∙ near in
      subst (λ (i : ℕ). IsAt accepted (i + (if has syn v.flags then 1 else 0)) v) (sym place) (at-user isn accepted closed v own)

  -- so that it is unknown or right
  placed : (known : Option Seq) (count : ℕ) (v : Content) → IfSome known (λ n. n.0 ≡ isn) → count ≤ length accepted
      → (has rst v.flags ≡ false → IsOfUser isn accepted closed v)
      → (place_by known count v ≡ 0) ⊎ IsAt accepted (place_by known count v) v
  placed None count v h inside user = inl refl
  placed (Some n) count v h inside user =
      let more : ℕ = if has syn v.flags then 1 else 0 in
      by_test (has rst v.flags)
      (λ b. ((if b then 0 else position_of n.0 count v.seq + more) ≡ 0) ⊎ IsAt accepted (if b then 0 else position_of n.0 count v.seq + more) v)
      (λ _. inl refl)
      (λ plain. inr (placed-plain n count v h inside (user plain)))

  -- THE RULES
  keeps-initial : (known : Option Seq) (v : Content) → IfSome known (λ n. n.0 ≡ isn) → (has rst v.flags ≡ false → IsOfUser isn accepted closed v)
      → initial_by known v ≡ None
  keeps-initial None v h user = refl
  keeps-initial (Some first) v h user =
      none-found (is_syn v && not (v.seq == first.0)) _
      (unless (is_syn v) (not (v.seq == first.0)) (λ e. ap not (eq-eqb v.seq first.0 (syn-number v user e ∙ sym h))))

  keeps-early : (known : Option Seq) (count : ℕ) (v : Content) → IfSome known (λ n. n.0 ≡ isn) → count ≤ length accepted
      → (has rst v.flags ≡ false → IsOfUser isn accepted closed v) → early_by known (place_by (initial_after known v) count v) v ≡ None
  keeps-early None count v h inside user = refl
  keeps-early (Some n) count v h inside user =
      let more : ℕ = if has syn v.flags then 1 else 0 in
      let place = position_of n.0 count v.seq + more in
      let takes = not (length v.text == 0) || has fin v.flags in
      none-found _ _ (ap (λ (b : Bool). b && takes)
      (by_test (has rst v.flags) (λ b. ((if b then 0 else place) == 0 && not b) ≡ false) (λ _. refl)
      (λ plain. unless (place == 0) true (λ e. absurd (omega (arith, eqb-true place 0 e, (placed-plain n count v h inside (user plain)).least))))))

  keeps-bytes : (d : Stream) (place : ℕ) (v : Content) → IsPart accepted d → (place ≡ 0) ⊎ IsAt accepted place v → changes_bytes d place v.text ≡ false
  keeps-bytes d place v part (inl none) = rw none refl
  keeps-bytes d place v part (inr at) =
      let one = drop (place - (1 + d.released)) d.sent in
      let other = drop (1 + d.released - place) v.text in
      unless (nat_lt 0 place) (not (agrees one other))
      (λ _. ap not (texts-agree d.released (length d.sent) place (length v.text) d.sent v.text accepted at.least part.part at.text))

  keeps-fin_by : (known : Option ℕ) (behind place : ℕ) (v : Content) → IfSome known (λ f. f ≡ 1 + length accepted) → behind ≤ 1 + length accepted
      → IsAt accepted place v → fin_by known behind (place + length v.text) v ≡ None
  keeps-fin_by None behind place v h inside at =
      let end = place + length v.text in
      none-found (has fin v.flags && nat_lt end behind) _ (unless (has fin v.flags) (nat_lt end behind)
      (λ acked_number. le-ltb end behind (omega (arith, at.has_fin acked_number))))
  keeps-fin_by (Some f) behind place v h inside at =
      let end = place + length v.text in
      let text : not (length v.text == 0) && nat_lt f end ≡ false =
      unless (not (length v.text == 0)) (nat_lt f end) (λ some. le-ltb f end (omega (arith, at.ends (not-none (length v.text) some), h))) in
      let last : has fin v.flags && not (end == f) ≡ false =
      unless (has fin v.flags) (not (end == f)) (λ acked_number. ap not (eq-eqb end f (at.has_fin acked_number ∙ sym h))) in
      none-found _ _ (ap (λ (b : Bool). b || (has fin v.flags && not (end == f))) text ∙ last)

  keeps-fin : (k : Known) (place : ℕ) (v : Content) → IsKnown isn accepted k → (place ≡ 0) ⊎ IsAt accepted place v → fin_finding k place v ≡ None
  keeps-fin k place v h (inl none) = rw none refl
  keeps-fin k place v h (inr at) =
      let behind = 1 + count_sent k.stream in
      by_test (nat_lt 0 place) (λ b. (if b then fin_by k.fin behind (place + length v.text) v else None) ≡ None)
      (λ _. keeps-fin_by k.fin behind place v h.fin (omega (arith, part-most accepted k.stream h.stream)) at) (λ _. refl)

  keeps-text : (k : Known) (place : ℕ) (v : Content) → IsKnown isn accepted k → early_by k.initial place v ≡ None → (place ≡ 0) ⊎ IsAt accepted place v
      → text_finding k place v ≡ None
  keeps-text k place v h late at = rw (late, keeps-bytes k.stream place v h.stream at) (keeps-fin k place v h at)

  pub keeps-positions : (k : Known) (v : Content) → IsKnown isn accepted k → (has rst v.flags ≡ false → IsOfUser isn accepted closed v)
      → position_finding k (place_of k v) v ≡ None
  keeps-positions k v h user =
      let inside = part-most accepted k.stream h.stream in
      let at = placed (initial_after k.initial v) (count_sent k.stream) v (initial-kept k.initial v h.initial user) inside user in
      let place = place_of k v in
      rw (keeps-initial k.initial v h.initial user)
      (cond_both (is_keep_alive k place v) None (text_finding k place v) (λ (f : Option Finding). f ≡ None) (λ _. refl) (λ _. keeps-text k place v h (keeps-early k.initial (count_sent k.stream) v h.initial inside user) at))

  -- WHAT IS KNOWN AFTER IT
  text-kept : (d : Stream) (place : ℕ) (v : Content) → IsPart accepted d → (place ≡ 0) ⊎ IsAt accepted place v → IsPart accepted (with_text d place v.text)
  text-kept d place v h at =
      cond_both (nat_lt 0 place && nat_le place (1 + count_sent d)) (d.sent ++ drop (1 + count_sent d - place) v.text) d.sent
      (λ (ys : List ℕ). IsPart accepted (record d { sent = ys }))
      (λ e.
      let parts = and_parts (nat_lt 0 place) (nat_le place (1 + count_sent d)) e in
      let some : 0 < place = ltb-true 0 place parts.0 in
      let fits : place ≤ 1 + count_sent d = leb-true place (1 + count_sent d) parts.1 in
      ⊎_elim (λ (none : place ≡ 0). absurd (omega arith))
      (λ (there : IsAt accepted place v). record {
        inside = h.inside;
        part = own-length (length d.sent + (length v.text - (1 + count_sent d - place))) (d.sent ++ drop (1 + count_sent d - place) v.text)
            (drop d.released accepted)
            (front-goes_on d.released (length d.sent) place (length v.text) d.sent v.text accepted there.least fits h.part there.text);
      }) at)
      (λ _. h)

  fin-kept : (known : Option ℕ) (place : ℕ) (v : Content) → IfSome known (λ f. f ≡ 1 + length accepted) → (place ≡ 0) ⊎ IsAt accepted place v
      → IfSome (fin_after known place v) (λ f. f ≡ 1 + length accepted)
  fin-kept known place v h at =
      by_test (nat_lt 0 place && has fin v.flags) (λ b. IfSome (if b then Some (place + length v.text) else known) (λ f. f ≡ 1 + length accepted))
      (λ e.
      let parts = and_parts (nat_lt 0 place) (has fin v.flags) e in
      let some : 0 < place = ltb-true 0 place parts.0 in
      ⊎_elim (λ (none : place ≡ 0). absurd (omega arith)) (λ (there : IsAt accepted place v). there.has_fin parts.1) at)
      (λ _. h)

  pub known-kept : (k : Known) (v : Content) → IsKnown isn accepted k → (has rst v.flags ≡ false → IsOfUser isn accepted closed v)
      → IsKnown isn accepted (known_after k v)
  known-kept k v h user =
      let initial = initial-kept k.initial v h.initial user in
      let at = placed (initial_after k.initial v) (count_sent k.stream) v initial (part-most accepted k.stream h.stream) user in
      let d = k.stream in
      record {
        initial = initial;
        stream = cond_both (is_keep_alive k (place_of k v) v) d (with_text d (place_of k v) v.text) (IsPart accepted) (λ _. h.stream)
            (λ _. text-kept d (place_of k v) v h.stream at);
        fin = fin-kept k.fin (place_of k v) v h.fin at;
      }

  -- AND AFTER WHAT CAME
  pub came-kept : (k : Known) (v : Content) → IsKnown isn accepted k → IsKnown isn accepted (known_with k v)
  came-kept k v h = record {
    initial = cond_both (leads_back k v) None k.initial (λ (known : Option Seq). IfSome known (λ n. n.0 ≡ isn)) (λ _. tt) (λ _. h.initial);
    stream = cond_both (leads_back k v) nothing_sent (without_front k.stream (count_acked k v)) (IsPart accepted)
        (λ _. record { inside = omega arith; part = refl })
        (λ _. part-without accepted k.stream (count_acked k v) (acked-most k.initial k.stream (is_some k.fin) v) h.stream);
    fin = cond_both (leads_back k v) None k.fin (λ (known : Option ℕ). IfSome known (λ f. f ≡ 1 + length accepted)) (λ _. tt) (λ _. h.fin);
  }
