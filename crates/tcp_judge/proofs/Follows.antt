-- WHAT A JUDGE KNOWS OF WHAT WENT, against one end by itself: SND.NXT is behind what is known to have gone, and so nothing goes out
-- behind a gap (RFC 9293, 3.3.1 and 3.4).
use Rattle.tcp_replay.proofs.Words.{◌≡◌, ℕ, zero, suc, ◌+◌, ◌-◌, ◌<◌, ◌≤◌, ◌&&◌, ◌==◌, ◌⊎◌, max, Bool, true, false, not, List, ◌++◌, length, Option, Some, None, IfSome}
use Rattle.tcp_replay.proofs.Words.{is_some, subst, ap, refl, sym, ◌∙◌, arith, cond_both, ⊎_elim, inl, inr, length-append, length-drop, drop, if◌then◌else◌, nat_lt, nat_le}
use Rattle.tcp_replay.proofs.Words.{and_parts, eqb-true, Content, number, position_of, false≢true, not-true}
use Rattle.std.proofs.lemmas.Bool.{le-ltb, lt-ltb, le-leb, or_right}
use Rattle.tcp_numbers.specs.declared.seq.Seq.{Seq}
use Rattle.tcp_wire.specs.Flags.{fin, syn, rst, has}
use Rattle.tcp_replay.proofs.Lists.{by_test, one_if}
use Rattle.tcp_judge.specs.Stream.{Stream, nothing_sent, count_sent, count_taken, with_text, without_front}
use Rattle.tcp_judge.specs.Known.{Known, initial_after, place_by, place_of, fin_after, known_after, is_keep_alive, count_acked, leads_back, known_with}
use Rattle.tcp_judge.specs.Heard.{is_syn}
use Rattle.tcp_judge.specs.Rules.{takes_numbers, is_empty, next_by}
use Rattle.tcp_judge.specs.declared.finding.Finding.TheVariants.{Gap, BehindNext}
use Rattle.tcp_judge.proofs.Streams.{unless, none-found, IsPart, IsAt, part-most, acked-most}

-- so many positions went, and the FIN right behind all text
pub record IsUpTo (d : Stream) (fin : Option ℕ) (n : ℕ) : Type 0 where
  pub next : n ≡ count_taken d (is_some fin)
  pub last : IfSome fin (λ f. f ≡ 1 + count_sent d)

-- where the initial number isn't known nothing is
abbrev pub FollowsBy : Option Seq → Stream → Option ℕ → ℕ → Type 0
FollowsBy None d fin n = (d ≡ nothing_sent) × (fin ≡ None)
FollowsBy (Some first) d fin n = IsUpTo d fin n

abbrev pub Follows : Known → ℕ → Type 0
Follows k n = FollowsBy k.initial k.stream k.fin n

-- SND.NXT stays
moved-by : (initial : Option Seq) (d : Stream) (fin : Option ℕ) (n n' : ℕ) → (1 ≤ n → n' ≡ n) → FollowsBy initial d fin n → FollowsBy initial d fin n'
moved-by None d fin n n' same h = h
moved-by (Some first) d fin n n' same h = record { next = same (omega (arith, h.next)) ∙ h.next; last = h.last }

pub follows-moved : (k : Known) (n n' : ℕ) → (1 ≤ n → n' ≡ n) → Follows k n → Follows k n'
follows-moved k n n' same h = moved-by k.initial k.stream k.fin n n' same h

-- and is behind the SYN at least
pub follows-least : (k : Known) (first : Seq) (n : ℕ) → k.initial ≡ Some first → Follows k n → IsUpTo k.stream k.fin n
follows-least k first n e h = subst (λ (o : Option Seq). FollowsBy o k.stream k.fin n) e h

-- ---- WHAT COMES leaves what went, or all of it is forgotten
front-by : (initial : Option Seq) (d : Stream) (fin : Option ℕ) (n m : ℕ) → m ≤ length d.sent → FollowsBy initial d fin n → FollowsBy initial (without_front d m) fin n
front-by None d fin n m fits h =
    let none : m ≡ 0 = omega (arith, fits, ap (λ (x : Stream). length x.sent) h.0) in
    (subst (λ (x : Stream). without_front x m ≡ nothing_sent) (sym h.0) (subst (λ (i : ℕ). without_front nothing_sent i ≡ nothing_sent) (sym none) refl), h.1)
front-by (Some first) d fin n m fits h =
    let same : count_sent (without_front d m) ≡ count_sent d = omega (arith, fits, length-drop m d.sent) in
    record {
      next = omega (arith, same, h.next);
      last = subst (λ (i : ℕ). IfSome fin (λ f. f ≡ 1 + i)) (sym same) h.last;
    }

pub follows-came : (k : Known) (v : Content) (n : ℕ) → Follows k n → Follows (known_with k v) n
follows-came k v n h =
    let m = count_acked k v in
    by_test (leads_back k v)
    (λ b. FollowsBy (if b then None else k.initial) (if b then nothing_sent else without_front k.stream m) (if b then None else k.fin) n)
    (λ _. (refl, refl)) (λ _. front-by k.initial k.stream k.fin n m (acked-most k.initial k.stream (is_some k.fin) v) h)

-- ---- WHAT GOES OUT
pub fin-one : (known : Option ℕ) → (if is_some known then 1 else 0) ≤ 1
fin-one None = omega arith
fin-one (Some f) = omega arith

with-count : (d : Stream) (place : ℕ) (text : List ℕ) → 1 ≤ place → place ≤ 1 + count_sent d
    → count_sent (with_text d place text) ≡ count_sent d + (length text - (1 + count_sent d - place))
with-count d place text least most =
    let more = drop (1 + count_sent d - place) text in
    rw (lt-ltb 0 place (omega (arith, least)), le-leb place (1 + count_sent d) most)
    (omega (arith, length-append d.sent more, length-drop (1 + count_sent d - place) text))

pub with-nothing : (d : Stream) (place : ℕ) (text : List ℕ) → length text ≡ 0 → count_sent (with_text d place text) ≡ count_sent d
with-nothing d place text none =
    let more = drop (1 + count_sent d - place) text in
    cond_both (nat_lt 0 place && nat_le place (1 + count_sent d)) (d.sent ++ more) d.sent (λ (ys : List ℕ). d.released + length ys ≡ count_sent d)
    (λ _. omega (arith, length-append d.sent more, length-drop (1 + count_sent d - place) text, none)) (λ _. refl)

pub some-or_none : (n : ℕ) → (n ≡ 0) ⊎ (0 < n)
some-or_none zero = inl refl
some-or_none (suc n) = inr (omega arith)

-- a text or a FIN of the user's stream, at SND.NXT or before it
module _ (accepted : List ℕ) (d : Stream) (v : Content) (place n : ℕ) (part : IsPart accepted d) (at : IsAt accepted place v) where
  -- nothing behind the text went
  before-end : (known : Option ℕ) → IsUpTo d known n → IfSome known (λ f. f ≡ 1 + length accepted) → place ≤ count_taken d (is_some known)
      → place + length v.text ≤ 1 + length accepted → place ≤ 1 + count_sent d
  before-end None h last inside ends = omega (arith, inside)
  before-end (Some f) h last inside ends = omega (arith, h.last, last, ends)

  -- with the FIN
  with-fin : (known : Option ℕ) (m : ℕ) → IsUpTo d known n → IfSome known (λ f. f ≡ 1 + length accepted) → place ≤ count_taken d (is_some known)
      → place + length v.text ≡ 1 + length accepted → m ≡ max n (place + length v.text + 1)
      → IsUpTo (with_text d place v.text) (Some (place + length v.text)) m
  with-fin known m h last inside ends is =
      let before = before-end known h last inside (omega (arith, ends)) in
      let count = with-count d place v.text at.least before in
      let whole : count_sent (with_text d place v.text) ≡ length accepted = omega (arith, count, ends, part-most accepted d part, before) in
      record {
        next = omega (arith, whole, ends, is, h.next, fin-one known, part-most accepted d part);
        last = omega (arith, whole, ends);
      }

  -- without it
  plain-text : (known : Option ℕ) (m : ℕ) → 0 < length v.text → IsUpTo d known n → IfSome known (λ f. f ≡ 1 + length accepted)
      → place ≤ count_taken d (is_some known) → m ≡ max n (place + length v.text) → IsUpTo (with_text d place v.text) known m
  plain-text None m some h last inside is =
      let count = with-count d place v.text at.least (omega (arith, inside)) in
      record { next = omega (arith, count, is, h.next, inside); last = tt }
  plain-text (Some f) m some h last inside is =
      let before = before-end (Some f) h last inside (at.ends some) in
      let count = with-count d place v.text at.least before in
      let same : count_sent (with_text d place v.text) ≡ count_sent d = omega (arith, count, h.last, last, at.ends some) in
      record { next = omega (arith, same, is, h.next, at.ends some, h.last, last); last = omega (arith, same, h.last) }

  no-text : (known : Option ℕ) (m : ℕ) → length v.text ≡ 0 → IsUpTo d known n → place ≤ count_taken d (is_some known)
      → m ≡ max n (place + length v.text) → IsUpTo (with_text d place v.text) known m
  no-text known m none h inside is =
      let same = with-nothing d place v.text none in
      record { next = omega (arith, same, none, is, h.next, inside); last = subst (λ (i : ℕ). IfSome known (λ f. f ≡ 1 + i)) (sym same) h.last }

  -- a keep-alive adds nothing
  alive-text : (known : Option ℕ) (m : ℕ) → length v.text ≡ 1 → place + 1 ≡ count_taken d (is_some known) → IsUpTo d known n
      → m ≡ max n (place + length v.text) → IsUpTo d known m
  alive-text known m one ends h is = record { next = omega (arith, one, ends, is, h.next); last = h.last }

  up-to : (known : Option ℕ) (m : ℕ) (alive : Bool) → (alive ≡ true → (length v.text ≡ 1) × (place + 1 ≡ count_taken d (is_some known)) × (has fin v.flags ≡ false))
      → IsUpTo d known n → IfSome known (λ f. f ≡ 1 + length accepted) → place ≤ count_taken d (is_some known)
      → m ≡ max n (place + length v.text + one_if (has fin v.flags))
      → IsUpTo (if alive then d else with_text d place v.text) (fin_after known place v) m
  up-to known m alive keeps h last inside is =
      let d' = if alive then d else with_text d place v.text in
      cond_both (nat_lt 0 place && has fin v.flags) (Some (place + length v.text)) known (λ (fin' : Option ℕ). IsUpTo d' fin' m)
      (λ e.
      let told : has fin v.flags ≡ true = (and_parts (nat_lt 0 place) (has fin v.flags) e).1 in
      let one : one_if (has fin v.flags) ≡ 1 = ap one_if told in
      by_test alive (λ b. IsUpTo (if b then d else with_text d place v.text) (Some (place + length v.text)) m)
      (λ lives. absurd (false≢true (sym (keeps lives).2 ∙ told)))
      (λ _. with-fin known m h last inside (at.has_fin told) (omega (arith, one, is))))
      (λ e.
      let bare : has fin v.flags ≡ false =
      by_test (has fin v.flags) (λ b. (nat_lt 0 place && b ≡ false) → b ≡ false)
      (λ _ never. absurd (false≢true (sym never ∙ ap (λ b. b && true) (lt-ltb 0 place (omega (arith, at.least)))))) (λ _ _. refl) e in
      let none : one_if (has fin v.flags) ≡ 0 = ap one_if bare in
      let fits : m ≡ max n (place + length v.text) = omega (arith, none, is) in
      by_test alive (λ b. IsUpTo (if b then d else with_text d place v.text) known m)
      (λ lives. let alone = keeps lives in alive-text known m alone.0 alone.1 h fits)
      (λ _. ⊎_elim (λ (nothing : length v.text ≡ 0). no-text known m nothing h inside fits) (λ (some : 0 < length v.text). plain-text known m some h last inside fits)
      (some-or_none (length v.text))))

-- what a segment without a place leaves
unplaced-stream : (d : Stream) (alive : Bool) (text : List ℕ) → (if alive then d else with_text d 0 text) ≡ d
unplaced-stream d true text = refl
unplaced-stream d false text = refl

pub plain-initial : (known : Option Seq) (v : Content) → is_syn v ≡ false → initial_after known v ≡ known
plain-initial None v e = ap (λ (b : Bool). if b then Some (record { 0 = v.seq }) else None) e
plain-initial (Some first) v e = refl

-- an initial number is known, or isn't
pub known-or_not : (o : Option Seq) → (o ≡ None) ⊎ ((first : Seq) × (o ≡ Some first))
known-or_not None = inl refl
known-or_not (Some first) = inr (first, refl)

pub place-unknown : (known : Option Seq) (count : ℕ) (v : Content) → known ≡ None → is_syn v ≡ false → place_by (initial_after known v) count v ≡ 0
place-unknown None count v e bare = ap (λ (b : Bool). place_by (if b then Some (record { 0 = v.seq }) else None) count v) bare
place-unknown (Some first) count v e bare = absurd (cc)

-- THE RULES of what is behind SND.NXT
nothing-behind : (next place : ℕ) (v : Content) → nat_lt next place && takes_numbers v ≡ false → nat_lt next place && is_empty v ≡ false → next_by next place v ≡ None
nothing-behind next place v takes empty = rw (none-found _ (Gap (record { 0 = v.seq })) takes) (none-found _ (BehindNext (record { 0 = v.seq })) empty)

not-behind : (next place : ℕ) (v : Content) → place ≤ next → next_by next place v ≡ None
not-behind next place v before =
    nothing-behind next place v (ap (λ b. b && takes_numbers v) (le-ltb next place before)) (ap (λ b. b && is_empty v) (le-ltb next place before))

-- they are kept, and so is what is known
pub record Goes (k : Known) (v : Content) (n : ℕ) : Type 0 where
  pub right : next_by (count_taken k.stream (is_some k.fin)) (place_of k v) v ≡ None
  pub after : Follows (known_after k v) n

pub goes-unplaced : (k : Known) (v : Content) (n : ℕ) → is_syn v ≡ false → place_of k v ≡ 0 → Follows k n → Goes k v n
goes-unplaced k v n bare none h =
    let initial = plain-initial k.initial v bare in
    record {
      right = not-behind (count_taken k.stream (is_some k.fin)) (place_of k v) v (omega (arith, none));
      after = subst (λ (place : ℕ). FollowsBy (initial_after k.initial v) (if is_keep_alive k place v then k.stream else with_text k.stream place v.text) (fin_after k.fin place v) n)
          (sym none)
          (subst (λ (i : Option Seq). FollowsBy i (if is_keep_alive k 0 v then k.stream else with_text k.stream 0 v.text) k.fin n) (sym initial)
          (subst (λ (d : Stream). FollowsBy k.initial d k.fin n) (sym (unplaced-stream k.stream (is_keep_alive k 0 v) v.text)) h));
    }

-- a reset
pub place-reset : (known : Option Seq) (count : ℕ) (v : Content) → has rst v.flags ≡ true → place_by known count v ≡ 0
place-reset None count v e = refl
place-reset (Some first) count v e = ap (λ (b : Bool). if b then 0 else position_of first.0 count v.seq + (if has syn v.flags then 1 else 0)) e

pub goes-reset : (k : Known) (v : Content) (n : ℕ) → has rst v.flags ≡ true → Follows k n → Goes k v n
goes-reset k v n reset h =
    let bare : is_syn v ≡ false = unless (has syn v.flags) (not (has rst v.flags)) (λ _. ap not reset) in
    goes-unplaced k v n bare (place-reset (initial_after k.initial v) (count_sent k.stream) v reset) h

-- a SYN, before which nothing went but another
fin-of : (initial : Option Seq) (d : Stream) (fin : Option ℕ) (n : ℕ) → n ≡ 1 → FollowsBy initial d fin n → IsUpTo d fin n
fin-of None d f n first h =
    subst (λ (x : Stream). IsUpTo x f n) (sym h.0) (subst (λ (o : Option ℕ). IsUpTo nothing_sent o n) (sym h.1) (record { next = omega (arith, first); last = tt }))
fin-of (Some number) d f n first h = h

syn-initial : (known : Option Seq) (v : Content) → is_syn v ≡ true → (first : Seq) × (initial_after known v ≡ Some first)
syn-initial None v e = (record { 0 = v.seq }, ap (λ (b : Bool). if b then Some (record { 0 = v.seq }) else None) e)
syn-initial (Some first) v e = (first, refl)

pub goes-syn : (k : Known) (v : Content) (n : ℕ) → is_syn v ≡ true → length v.text ≡ 0 → has fin v.flags ≡ false → n ≡ 1 → Follows k n → Goes k v n
goes-syn k v n is empty bare first h =
    let place = place_of k v in
    let d' = if is_keep_alive k place v then k.stream else with_text k.stream place v.text in
    let same : count_sent d' ≡ count_sent k.stream = cond_both (is_keep_alive k place v) k.stream (with_text k.stream place v.text)
    (λ (x : Stream). count_sent x ≡ count_sent k.stream) (λ _. refl) (λ _. with-nothing k.stream place v.text empty) in
    let takes : takes_numbers v ≡ false = rw (empty, bare) refl in
    let fin_same : fin_after k.fin place v ≡ k.fin = cond_both (nat_lt 0 place && has fin v.flags) (Some (place + length v.text)) k.fin
    (λ (x : Option ℕ). x ≡ k.fin) (λ e. absurd (false≢true (sym bare ∙ (and_parts (nat_lt 0 place) (has fin v.flags) e).1))) (λ _. refl) in
    let known = syn-initial k.initial v is in
    let up = fin-of k.initial k.stream k.fin n first h in
    record {
      right = nothing-behind (count_taken k.stream (is_some k.fin)) place v
          (unless (nat_lt (count_taken k.stream (is_some k.fin)) place) (takes_numbers v) (λ _. takes))
          (unless (nat_lt (count_taken k.stream (is_some k.fin)) place) (is_empty v)
          (λ _. ap not (or_right (takes_numbers v) (has syn v.flags) (and_parts (has syn v.flags) (not (has rst v.flags)) is).0)));
      after = subst (λ (i : Option Seq). FollowsBy i d' (fin_after k.fin place v) n) (sym known.1)
          (subst (λ (f : Option ℕ). IsUpTo d' f n) (sym fin_same) (record {
            next = omega (arith, same, up.next);
            last = subst (λ (i : ℕ). IfSome k.fin (λ f. f ≡ 1 + i)) (sym same) up.last;
          }));
    }

-- text, FIN or an acknowledgement at SND.NXT or before it
keeps-alone : (k : Known) (place : ℕ) (v : Content) → is_keep_alive k place v ≡ true
    → (length v.text ≡ 1) × (place + 1 ≡ count_taken k.stream (is_some k.fin)) × (has fin v.flags ≡ false)
keeps-alone k place v e =
    let parts = and_parts (length v.text == 1 && place + 1 == count_taken k.stream (is_some k.fin)) (not (has syn v.flags) && not (has fin v.flags)) e in
    let one = and_parts (length v.text == 1) (place + 1 == count_taken k.stream (is_some k.fin)) parts.0 in
    let bare = (and_parts (not (has syn v.flags)) (not (has fin v.flags)) parts.1).1 in (
      eqb-true (length v.text) 1 one.0,
      eqb-true (place + 1) (count_taken k.stream (is_some k.fin)) one.1,
      not-true (has fin v.flags) bare,
    )

pub goes-placed : (accepted : List ℕ) (k : Known) (v : Content) (n m : ℕ) (first : Seq) → k.initial ≡ Some first → IsPart accepted k.stream
    → IfSome k.fin (λ f. f ≡ 1 + length accepted) → IsAt accepted (place_of k v) v → place_of k v ≤ count_taken k.stream (is_some k.fin)
    → m ≡ max n (place_of k v + length v.text + one_if (has fin v.flags)) → Follows k n → Goes k v m
goes-placed accepted k v n m first known part last at inside is h =
    let place = place_of k v in
    record {
      right = not-behind (count_taken k.stream (is_some k.fin)) place v inside;
      after = subst (λ (i : Option Seq). FollowsBy (initial_after i v) (if is_keep_alive k place v then k.stream else with_text k.stream place v.text) (fin_after k.fin place v) m)
          (sym known) (up-to accepted k.stream v place n part at k.fin m (is_keep_alive k place v) (keeps-alone k place v) (follows-least k first n known h) last inside is);
    }
