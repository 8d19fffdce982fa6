-- A slice that is written from one place up to its end.
use Rattle.std.proofs.Common.{◌≡◌, ℕ, ◌+◌, ◌-◌, ◌≤◌, List, ◌++◌, length, take, drop, ap, ap₂, ◌∙◌, arith, take-add, drop_at, drop-drop, take_at, length-append, length-drop, length-take-le, append-nil}
use Rattle.std.proofs.lemmas.List.{drop_all}
use borrow.Rule.Slice.PartMut.{put_mid}

-- nothing stands behind what is written up to the end
pub written_whole : (i : ℕ) (bytes new : List ℕ) → put_mid i (length bytes - i) bytes new ≡ take i bytes ++ new
written_whole i bytes new =
    ap (λ (more : List ℕ). take i bytes ++ (new ++ more)) (drop_all (length bytes - i) (drop i bytes) (omega (arith, length-drop i bytes)))
    ∙ ap (λ (more : List ℕ). take i bytes ++ more) (append-nil new)

pub written_len : (i : ℕ) (bytes new : List ℕ) → i ≤ length bytes → length new ≡ length bytes - i → length (put_mid i (length bytes - i) bytes new) ≡ length bytes
written_len i bytes new inside len =
    ap length (written_whole i bytes new) ∙ omega (arith, length-append (take i bytes) new, length-take-le i bytes inside, len)

-- and with n elements more seen from the front
pub written_front : (i n : ℕ) (bytes new : List ℕ) → i ≤ length bytes → take (i + n) (put_mid i (length bytes - i) bytes new) ≡ take i bytes ++ take n new
written_front i n bytes new inside =
    let taken : length (take i bytes) ≡ i = length-take-le i bytes inside in
    ap (take (i + n)) (written_whole i bytes new) ∙ take-add i n (take i bytes ++ new)
    ∙ ap₂ (λ (a b : List ℕ). a ++ take n b) (take_at (take i bytes) new i taken) (drop_at (take i bytes) new i taken)

-- a piece that is written before a place, and what follows it there
pub written_before : (start end : ℕ) (room new piece : List ℕ) → new ≡ piece → start + length piece ≡ end → end ≤ length room
    → drop start (put_mid start (end - start) room new) ≡ piece ++ drop end room
written_before start end room new piece is place inside =
    let taken : length (take start room) ≡ start = length-take-le start room (omega arith) in
    drop_at (take start room) (new ++ drop (end - start) (drop start room)) start taken
    ∙ ap₂ (λ (a b : List ℕ). a ++ b) is (drop-drop (end - start) start room ∙ ap (λ (k : ℕ). drop k room) (omega arith))
