-- The half that receives, by itself: where each byte that it has came from, whoever sent it.
use Rattle.tcp_replay.proofs.Words.{◌%◌, ◌+◌, ◌++◌, ◌-◌, ◌<◌, [], ◌^◌, advance_of, advance_of-answer_for, after_delivering, after_place, after_read}
use Rattle.tcp_replay.proofs.Words.{after_text, answer_for, ap, append-nil, append_assoc, arith, Bool, bytes_in_order, Cell, distance, drop, false}
use Rattle.tcp_replay.proofs.Words.{false≢true, greatest_stamp, if◌then◌else◌, Inbox, is_refused, length, length-append, List, ltb-false, ltb-true, min}
use Rattle.tcp_replay.proofs.Words.{nat_lt, negsuc, receiving_with_runs, None, NotKept, number, offset, offset_ahead, offset_of_earlier, Option, overlay}
use Rattle.tcp_replay.proofs.Words.{overlay_of, piece, place_answer, Receiving, refl, replicate, Run, runs, slice_get, Some, subst, suc, sym, take}
use Rattle.tcp_replay.proofs.Words.{take-append-drop, take_min, true, window, with_fin, with_overlay, with_ranks, with_ranks_from, with_syn, without_bytes}
use Rattle.tcp_replay.proofs.Words.{zero, ℕ, ℤ, ◌∙◌, ◌∷◌, ◌≡◌, ◌≤◌}
use Rattle.tcp_replay.proofs.Lists.{by_test, number-further, one_if, one_if-false}

-- what holds of each byte of a text whose first is at this place, and of each byte that is held from this place on
abbrev pub AllText : (ℕ → ℕ → Type 0) → ℕ → List ℕ → Type 0
AllText P place [] = Unit {0}
AllText P place (byte ∷ text) = P place byte × AllText P (suc place) text

-- P holds of each byte that is held, by its place
abbrev pub AllHeld : (ℕ → ℕ → Type 0) → ℕ → List (Option Cell) → Type 0
AllHeld P place [] = Unit {0}
AllHeld P place (None ∷ places) = AllHeld P (suc place) places
AllHeld P place (Some cell ∷ places) = P place cell.byte × AllHeld P (suc place) places

-- of its number, where the first place has this one
abbrev pub ByNumber : (ℕ → ℕ → Type 0) → ℕ → ℕ → ℕ → Type 0
ByNumber P start place byte = P (number start place) byte

-- TEXTS, moved from one place to another
text-moved : (P P' : ℕ → ℕ → Type 0) (a b : ℕ) → ((i byte : ℕ) → P (i + a) byte → P' (i + b) byte) → (k from to : ℕ) (text : List ℕ) → from ≡ k + a
    → to ≡ k + b
    → AllText P from text → AllText P' to text
text-moved P P' a b h k from to [] e f t = tt
text-moved P P' a b h k from to (byte ∷ text) e f t = (
  subst (λ (n : ℕ). P' n byte) (sym f) (h k byte (subst (λ (n : ℕ). P n byte) e t.0)),
  text-moved P P' a b h (suc k) (suc from) (suc to) text (omega (arith, e)) (omega (arith, f)) t.1,
)

text-same : (P P' : ℕ → ℕ → Type 0) (place : ℕ) (text : List ℕ) → ((n byte : ℕ) → P n byte → P' n byte) → AllText P place text → AllText P' place text
text-same P P' place text h t = text-moved P P' 0 0 (λ i byte. h (i + 0) byte) place place place text (omega arith) (omega arith) t

text-append : (P : ℕ → ℕ → Type 0) (place from : ℕ) (text more : List ℕ) → from ≡ place + length text → AllText P place text → AllText P from more
    → AllText P place (text ++ more)
text-append P place from [] more e t m = subst (λ (n : ℕ). AllText P n more) (omega (arith, e)) m
text-append P place from (byte ∷ text) more e t m = (t.0, text-append P (suc place) from text more (omega (arith, e)) t.1 m)

-- of a front of a text, too
pub text-front : (P : ℕ → ℕ → Type 0) (place : ℕ) (text more : List ℕ) → AllText P place (text ++ more) → AllText P place text
text-front P place [] more t = tt
text-front P place (byte ∷ text) more t = (t.0, text-front P (suc place) text more t.1)

text-drop : (P : ℕ → ℕ → Type 0) (place to n : ℕ) (text : List ℕ) → to ≡ place + n → AllText P place text → AllText P to (drop n text)
text-drop P place to zero text e t = subst (λ (k : ℕ). AllText P k text) (omega (arith, e)) t
text-drop P place to (suc n) [] e t = tt
text-drop P place to (suc n) (byte ∷ text) e t = text-drop P (suc place) to n text (omega (arith, e)) t.1

-- of a text, where it holds of each of its bytes
pub text-of : (P : ℕ → ℕ → Type 0) (k place : ℕ) (text : List ℕ) → place ≡ k → ((i byte : ℕ) → slice_get text i ≡ Some byte → P (k + i) byte)
    → AllText P place text
text-of P k place [] e h = tt
text-of P k place (byte ∷ text) e h = (
  subst (λ (n : ℕ). P n byte) (omega (arith, e)) (h 0 byte refl),
  text-of P (suc k) (suc place) text (omega (arith, e)) (λ i b is. subst (λ (n : ℕ). P n b) (omega arith) (h (suc i) b is)),
)

-- and of each byte of such a text
pub text-at : (P : ℕ → ℕ → Type 0) (place : ℕ) (text : List ℕ) (i n byte : ℕ) → n ≡ place + i → slice_get text i ≡ Some byte → AllText P place text → P n byte
text-at P place [] i n byte e is t = absurd (cc)
text-at P place (first ∷ text) zero n byte e is t =
    let same : first ≡ byte = cc in
    subst (λ (b : ℕ). P n b) same (subst (λ (k : ℕ). P k first) (omega (arith, e)) t.0)
text-at P place (first ∷ text) (suc i) n byte e is t = text-at P (suc place) text i n byte (omega (arith, e)) is t.1

-- HELD BYTES
pub held-moved : (P P' : ℕ → ℕ → Type 0) (d : ℕ) → ((i byte : ℕ) → P (i + d) byte → P' i byte) → (from to : ℕ) (held : List (Option Cell)) → from ≡ to + d
    → AllHeld P from held → AllHeld P' to held
held-moved P P' d h from to [] e t = tt
held-moved P P' d h from to (None ∷ places) e t = held-moved P P' d h (suc from) (suc to) places (omega (arith, e)) t
held-moved P P' d h from to (Some cell ∷ places) e t =
    (h to cell.byte (subst (λ (n : ℕ). P n cell.byte) e t.0), held-moved P P' d h (suc from) (suc to) places (omega (arith, e)) t.1)

-- what follows of each byte
pub held-same : (P P' : ℕ → ℕ → Type 0) (place : ℕ) (held : List (Option Cell)) → ((n byte : ℕ) → P n byte → P' n byte) → AllHeld P place held
    → AllHeld P' place held
held-same P P' place held h t = held-moved P P' 0 (λ i byte had. h i byte (subst (λ (n : ℕ). P n byte) (omega arith) had)) place place held (omega arith) t

-- nothing is held
pub held-none : (P : ℕ → ℕ → Type 0) (place n : ℕ) → AllHeld P place (replicate n None)
held-none P place zero = tt
held-none P place (suc n) = held-none P (suc place) n

-- places behind, at which nothing is held
pub held-more : (P : ℕ → ℕ → Type 0) (place n : ℕ) (held : List (Option Cell)) → AllHeld P place held → AllHeld P place (held ++ replicate n None)
held-more P place n [] t = held-none P place n
held-more P place n (None ∷ places) t = held-more P (suc place) n places t
held-more P place n (Some cell ∷ places) t = (t.0, held-more P (suc place) n places t.1)

held-drop : (P : ℕ → ℕ → Type 0) (place to n : ℕ) (held : List (Option Cell)) → to ≡ place + n → AllHeld P place held → AllHeld P to (drop n held)
held-drop P place to zero held e t = subst (λ (k : ℕ). AllHeld P k held) (omega (arith, e)) t
held-drop P place to (suc n) [] e t = tt
held-drop P place to (suc n) (None ∷ places) e t = held-drop P (suc place) to n places (omega (arith, e)) t
held-drop P place to (suc n) (Some cell ∷ places) e t = held-drop P (suc place) to n places (omega (arith, e)) t.1

-- stamps are not spoken of
held-ranks_from : (P : ℕ → ℕ → Type 0) (all : List Run) (k place : ℕ) (held : List (Option Cell)) → AllHeld P place held
    → AllHeld P place (with_ranks_from all k held)
held-ranks_from P all k place [] t = tt
held-ranks_from P all k place (None ∷ places) t = held-ranks_from P all (suc k) (suc place) places t
held-ranks_from P all k place (Some cell ∷ places) t = (t.0, held-ranks_from P all (suc k) (suc place) places t.1)

held-ranks : (P : ℕ → ℕ → Type 0) (place : ℕ) (held : List (Option Cell)) → AllHeld P place held → AllHeld P place (with_ranks held)
unfolding with_ranks
held-ranks P place held t = held-ranks_from P (runs held) 0 place held t

-- a text laid over what is held
held-overlay : (P : ℕ → ℕ → Type 0) (place from start : ℕ) (text : List ℕ) (stamp : ℕ) (held : List (Option Cell)) → from ≡ place + start
    → AllHeld P place held → AllText P from text
    → AllHeld P place (overlay start text stamp held)
held-overlay P place from start text stamp [] e h t = tt
held-overlay P place from zero [] stamp (first ∷ places) e h t = h
held-overlay P place from zero (byte ∷ text) stamp (None ∷ places) e h t =
    (subst (λ (n : ℕ). P n byte) (omega (arith, e)) t.0, held-overlay P (suc place) (suc from) zero text stamp places (omega (arith, e)) h t.1)
held-overlay P place from zero (byte ∷ text) stamp (Some cell ∷ places) e h t =
    (h.0, held-overlay P (suc place) (suc from) zero text stamp places (omega (arith, e)) h.1 t.1)
held-overlay P place from (suc start) text stamp (None ∷ places) e h t = held-overlay P (suc place) from start text stamp places (omega (arith, e)) h t
held-overlay P place from (suc start) text stamp (Some cell ∷ places) e h t =
    (h.0, held-overlay P (suc place) from start text stamp places (omega (arith, e)) h.1 t)

text-in_order : (P : ℕ → ℕ → Type 0) (place : ℕ) (held : List (Option Cell)) → AllHeld P place held → AllText P place (bytes_in_order held)
text-in_order P place [] h = tt
text-in_order P place (None ∷ places) h = tt
text-in_order P place (Some cell ∷ places) h = (h.0, text-in_order P (suc place) places h.1)

-- PLACING brings bytes in order, and holds others
pub record Brings (P : ℕ → ℕ → Type 0) (q q' : Inbox) (n : ℕ) : Type 0 where
  pub bytes : List ℕ
  pub count : length bytes ≡ n
  pub unread : q'.unread ≡ q.unread ++ bytes
  pub text : AllText P 0 bytes
  pub held : AllHeld P n q'.held

brings-nothing : (P : ℕ → ℕ → Type 0) (q : Inbox) → AllHeld P 0 q.held → Brings P q q 0
brings-nothing P q h = record { bytes = []; count = refl; unread = sym (append-nil q.unread); text = tt; held = h }

brings-overlay : (P : ℕ → ℕ → Type 0) (q : Inbox) (over : List (Option Cell)) → AllHeld P 0 over
    → Brings P q (with_overlay q over) (length (bytes_in_order over))
brings-overlay P q over h = record {
  bytes = bytes_in_order over;
  count = refl;
  unread = refl;
  text = text-in_order P 0 over h;
  held =
      held-ranks P (length (bytes_in_order over)) (drop (length (bytes_in_order over)) over)
      (held-drop P 0 (length (bytes_in_order over)) (length (bytes_in_order over)) over (omega arith) h);
}

-- placing a piece brings bytes in order of which P holds, and holds others of which it does
pub brings-place : (P : ℕ → ℕ → Type 0) (q : Inbox) (z : ℤ) (text : List ℕ) → AllHeld P 0 q.held → AllText P (piece z text).start (piece z text).text
    → Brings P q (after_place q z text) (advance_of (place_answer q z text))
unfolding after_place place_answer
brings-place P q z text h t =
    let p = piece z text in
    let over = held-overlay P 0 p.start p.start p.text (suc (greatest_stamp q.held)) q.held (omega arith) h t in
    by_test (is_refused q p) (λ refused. Brings P q (if refused then q else with_overlay q (overlay_of q p))
    (advance_of (if refused then NotKept else answer_for (length (bytes_in_order (overlay_of q p))))))
    (λ _. brings-nothing P q h) (λ _. rw advance_of-answer_for (brings-overlay P q (overlay_of q p) over))

-- THE PIECE of a text lies at its numbers, counted from the next one
piece-numbers : (P : ℕ → ℕ → Type 0) (next seq : ℕ) (text : List ℕ) → next < 2 ^ 32 → seq < 2 ^ 32 → AllText (ByNumber P seq) 0 text
    → AllText (ByNumber P next) (piece (offset next seq) text).start (piece (offset next seq) text).text
piece-numbers P next seq text low small t =
    let d = distance next seq in
    let Q : ℤ → Type 0 = λ z. AllText (ByNumber P next) (piece z text).start (piece z text).text in
    by_test (nat_lt d (2 ^ 31)) (λ _. Q (offset next seq))
    (λ close.
    let ahead : d < 2 ^ 31 = ltb-true d (2 ^ 31) close in
    subst Q (sym (offset_ahead next seq low ahead))
    (text-moved (ByNumber P seq) (ByNumber P next) 0 d (λ i byte had. subst (λ (n : ℕ). P n byte) (omega arith) had) 0 0 d text (omega arith) (omega arith) t))
    (λ far.
    let behind : 2 ^ 31 ≤ d = ltb-false d (2 ^ 31) far in
    let k = 2 ^ 32 - d in
    let there : number seq k ≡ next = omega arith in
    let here : number seq 0 ≡ seq = omega arith in
    let before : offset next seq ≡ negsuc (k - 0 - 1) =
    ap (λ n. offset n seq) (sym there) ∙ ap (offset (number seq k)) (sym here) ∙ offset_of_earlier seq k 0 (omega arith) (omega arith) in
    let same : suc (k - 0 - 1) ≡ k = omega arith in
    subst Q (sym before)
    (text-moved (ByNumber P seq) (ByNumber P next) k 0 (λ i byte had. subst (λ (n : ℕ). P n byte) (omega (arith, there)) had) 0 k 0
    (drop (suc (k - 0 - 1)) text) (omega arith) (omega arith)
    (text-drop (ByNumber P seq) 0 k (suc (k - 0 - 1)) text (omega (arith, same)) t)))

-- WHAT THE HALF HAS, where k bytes came in order from the initial number irs on and P holds of each byte that came, by its
-- number
pub record IsFed (P : ℕ → ℕ → Type 0) (r : Receiving) (irs k : ℕ) (delivered : List ℕ) (gone : Bool) : Type 0 where
  -- RCV.NXT is the number of the next position
  pub next : r.opened ≡ true → r.rcv_nxt ≡ number irs (1 + k + one_if r.finished)
  pub unopened : r.opened ≡ false → (k ≡ 0) × (delivered ++ r.inbox.unread ≡ []) × (r.finished ≡ false)
  pub bare : r.opened ≡ false → AllHeld (λ _ _. ⊥) 0 r.inbox.held
  pub held : AllHeld (ByNumber P r.rcv_nxt) 0 r.inbox.held
  -- what was handed over and what is unread came from the first position on; it is all, unless some was given up
  pub text : AllText (ByNumber P irs) 1 (delivered ++ r.inbox.unread)
  pub whole : gone ≡ false → length (delivered ++ r.inbox.unread) ≡ k

-- nothing came at a new end
pub fed-new : (P : ℕ → ℕ → Type 0) (capacity runs irs : ℕ) → IsFed P (receiving_with_runs capacity runs) irs 0 [] false
fed-new P capacity runs irs = record {
  next = λ never. absurd (cc);
  unopened = λ _. (refl, refl, refl);
  bare = λ _. held-none (λ _ _. ⊥) 0 capacity;
  held = held-none (ByNumber P 0) 0 capacity;
  text = tt;
  whole = λ _. refl;
}

-- more came
pub fed-more : (P P' : ℕ → ℕ → Type 0) (r : Receiving) (irs k : ℕ) (delivered : List ℕ) (gone : Bool) → ((n byte : ℕ) → P n byte → P' n byte)
    → IsFed P r irs k delivered gone → IsFed P' r irs k delivered gone
fed-more P P' r irs k delivered gone more h =
    let held = held-same (ByNumber P r.rcv_nxt) (ByNumber P' r.rcv_nxt) 0 r.inbox.held (λ n byte. more (number r.rcv_nxt n) byte) h.held in
    let text = text-same (ByNumber P irs) (ByNumber P' irs) 1 (delivered ++ r.inbox.unread) (λ n byte. more (number irs n) byte) h.text in
    assumption

-- before the peer's SYN any number serves
pub fed-any : (P : ℕ → ℕ → Type 0) (r : Receiving) (irs irs' k : ℕ) (delivered : List ℕ) (gone : Bool) → r.opened ≡ false → IsFed P r irs k delivered gone
    → IsFed P r irs' k delivered gone
fed-any P r irs irs' k delivered gone shut h =
    let next : r.opened ≡ true → r.rcv_nxt ≡ number irs' (1 + k + one_if r.finished) = λ e. absurd (false≢true (sym shut ∙ e)) in
    let text : AllText (ByNumber P irs') 1 (delivered ++ r.inbox.unread) = subst (AllText (ByNumber P irs') 1) (sym (h.unopened shut).1) tt in
    assumption

-- the peer's SYN
pub fed-syn : (P : ℕ → ℕ → Type 0) (r : Receiving) (irs k : ℕ) (delivered : List ℕ) (gone : Bool) → r.opened ≡ false → IsFed P r irs k delivered gone
    → IsFed P (with_syn r irs) irs k delivered gone
fed-syn P r irs k delivered gone shut h =
    let none = h.unopened shut in
    let fin : one_if r.finished ≡ 0 = one_if-false r.finished none.2 in
    record {
      next = λ _. ap (number irs) (omega (arith, none.0, fin));
      unopened = λ never. absurd (cc);
      bare = λ never. absurd (cc);
      held = held-same (λ _ _. ⊥) (ByNumber P (number irs 1)) 0 r.inbox.held (λ n byte never. absurd never) (h.bare shut);
      text = h.text;
      whole = h.whole;
    }

-- the user reads
delivered-over : (delivered unread : List ℕ) (n : ℕ) → (delivered ++ take (min n (length unread)) unread) ++ drop n unread ≡ delivered ++ unread
delivered-over delivered unread n =
    append_assoc delivered (take (min n (length unread)) unread) (drop n unread)
    ∙ ap (λ xs. delivered ++ xs) (ap (λ xs. xs ++ drop n unread) (take_min n unread) ∙ take-append-drop n unread)

-- what the user reads came
pub fed-read : (P : ℕ → ℕ → Type 0) (r : Receiving) (irs k : ℕ) (delivered : List ℕ) (gone : Bool) (n : ℕ) → IsFed P r irs k delivered gone
    → IsFed P (after_delivering r n) irs k (delivered ++ take (min n (length r.inbox.unread)) r.inbox.unread) gone
unfolding after_read
fed-read P r irs k delivered gone n h =
    let same = delivered-over delivered r.inbox.unread n in
    record {
      next = h.next;
      unopened = λ e. let none = h.unopened e in (none.0, same ∙ none.1, none.2);
      bare = λ e. held-more (λ _ _. ⊥) 0 (min n (length r.inbox.unread)) r.inbox.held (h.bare e);
      held = held-more (ByNumber P r.rcv_nxt) 0 (min n (length r.inbox.unread)) r.inbox.held h.held;
      text = subst (AllText (ByNumber P irs) 1) (sym same) h.text;
      whole = λ e. ap length same ∙ h.whole e;
    }

-- what is unread and held is given up
none-left : (delivered unread : List ℕ) → delivered ++ unread ≡ [] → delivered ++ [] ≡ []
none-left [] unread e = refl
none-left (byte ∷ delivered) unread e = absurd (cc)

-- what is unread and held may be given up
pub fed-discarded : (P : ℕ → ℕ → Type 0) (r : Receiving) (irs k : ℕ) (delivered : List ℕ) (gone : Bool) → IsFed P r irs k delivered gone
    → IsFed P (without_bytes r) irs k delivered true
fed-discarded P r irs k delivered gone h = record {
  next = h.next;
  unopened = λ e. let none = h.unopened e in (none.0, none-left delivered r.inbox.unread none.1, none.2);
  bare = λ _. held-none (λ _ _. ⊥) 0 r.inbox.capacity;
  held = held-none (ByNumber P r.rcv_nxt) 0 r.inbox.capacity;
  text = subst (AllText (ByNumber P irs) 1) (sym (append-nil delivered)) (text-front (ByNumber P irs) 1 delivered r.inbox.unread h.text);
  whole = λ never. absurd (cc);
}

-- the peer's FIN
pub fed-fin : (P : ℕ → ℕ → Type 0) (r : Receiving) (irs k : ℕ) (delivered : List ℕ) (gone : Bool) → r.opened ≡ true → r.finished ≡ false
    → IsFed P r irs k delivered gone → IsFed P (with_fin r) irs k delivered gone
fed-fin P r irs k delivered gone opened unfinished h =
    let none : one_if r.finished ≡ 0 = one_if-false r.finished unfinished in
    record {
      next = λ e. number-further irs (1 + k + one_if r.finished) 1 r.rcv_nxt (h.next e) ∙ ap (number irs) (omega (arith, none));
      unopened = λ shut. absurd (false≢true (sym shut ∙ opened));
      bare = λ _. held-none (λ _ _. ⊥) 0 (window r.inbox);
      held = held-none (ByNumber P (number r.rcv_nxt 1)) 0 (window r.inbox);
      text = h.text;
      whole = h.whole;
    }

-- TEXT
pub fed-text : (P : ℕ → ℕ → Type 0) (r : Receiving) (irs k : ℕ) (delivered : List ℕ) (seq : ℕ) (text : List ℕ) → r.rcv_nxt < 2 ^ 32 → seq < 2 ^ 32
    → r.opened ≡ true → r.finished ≡ false
    → AllText (ByNumber P seq) 0 text → IsFed P r irs k delivered false
    → IsFed P (after_text r seq text) irs (k + (length (after_text r seq text).inbox.unread - length r.inbox.unread)) delivered false
unfolding after_text
fed-text P r irs k delivered seq text low small opened unfinished came h =
    let z = offset r.rcv_nxt seq in
    let n = advance_of (place_answer r.inbox z text) in
    let q = after_place r.inbox z text in
    let b = brings-place (ByNumber P r.rcv_nxt) r.inbox z text h.held (piece-numbers P r.rcv_nxt seq text low small came) in
    let none : one_if r.finished ≡ 0 = one_if-false r.finished unfinished in
    let longer : length q.unread ≡ length r.inbox.unread + n = ap length b.unread ∙ length-append r.inbox.unread b.bytes ∙ ap
    (λ m. length r.inbox.unread + m) b.count in
    let whole : delivered ++ q.unread ≡ (delivered ++ r.inbox.unread) ++ b.bytes = ap (λ xs. delivered ++ xs) b.unread ∙ sym
    (append_assoc delivered r.inbox.unread b.bytes) in
    let had : length (delivered ++ r.inbox.unread) ≡ k = h.whole refl in
    let next : r.rcv_nxt ≡ number irs (1 + k) = h.next opened ∙ ap (number irs) (omega (arith, none)) in
    record {
      next = λ _. number-further irs (1 + k) n r.rcv_nxt next ∙ ap (number irs) (omega (arith, none, longer));
      unopened = λ shut. absurd (false≢true (sym shut ∙ opened));
      bare = λ shut. absurd (false≢true (sym shut ∙ opened));
      held = held-moved (ByNumber P r.rcv_nxt) (ByNumber P ((r.rcv_nxt + n) % 2 ^ 32)) n (λ i byte here. subst (λ (m : ℕ). P m byte) (omega arith) here) n 0 q.held
          (omega arith) b.held;
      text = subst (AllText (ByNumber P irs) 1) (sym whole)
          (text-append (ByNumber P irs) 1 (1 + k) (delivered ++ r.inbox.unread) b.bytes (omega (arith, had)) h.text
          (text-moved (ByNumber P r.rcv_nxt) (ByNumber P irs) 0 (1 + k) (λ i byte here. subst (λ (m : ℕ). P m byte) (omega (arith, next)) here) 0 0
          (1 + k) b.bytes (omega arith) (omega arith) b.text));
      whole = λ _. ap length whole ∙ length-append (delivered ++ r.inbox.unread) b.bytes ∙ omega (arith, had, b.count, longer);
    }
