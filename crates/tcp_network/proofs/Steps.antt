-- What leaves no more in the network than there was, and what is sent in order: of the half that sends.
use Rattle.std.proofs.Common.{◌≡◌, ℕ, zero, suc, ◌+◌, ◌-◌, ◌<◌, ◌≤◌, Bool, true, false, List, [], ◌∷◌, ◌++◌, length, take, drop, replicate, arith, refl, length-append, length-drop, length-take}
use Rattle.std.specs.Prelude.{◌&&◌, nat_lt, nat_le, if◌then◌else◌, min, max, Option, Some, None, IfSome}
use Rattle.std.specs.declared.ops.Range.{Range}
use Rattle.std.proofs.lemmas.List.{length-replicate}
use Rattle.std.proofs.lemmas.Bool.Decides.{nat_tests}
use Rattle.tcp_sendq.specs.SendQueue.{after_mark, count_marked, count_taken, without_marks}
use Rattle.tcp_halves.specs.Sender.{Sending, acks_more, after_ack, after_window_update, count_below, count_sendable, end_of_text, is_newer, place_of}
use Rattle.tcp_halves.specs.Sender.{with_acked, with_all_resent, with_gaps_resent, with_resent, with_text, with_window, without_resend, without_text}
use Rattle.tcp_halves.specs.Marks.{after_block, after_blocks, is_of_flight, marks_text, with_marks}
use Rattle.tcp_wire.specs.Position.{position_of}
use Rattle.tcp_network.proofs.Counting.{marked_more, marks_fit, released, unmarked_behind}
use Rattle.tcp_network.specs.NetworkOfEnds.{IsInOrder, IsOpen}

-- what is in flight but what is marked
abbrev pub left : Sending → ℕ
left d = d.snd_nxt - d.snd_una - count_marked d.queue.marks

pub record Leaves (d after : Sending) (handshake unclosed : Bool) : Type 0 where
  pub order : IsInOrder after handshake unclosed
  pub fewer : left after ≤ left d

pub no_more : (n : ℕ) → n ≤ n
no_more n = omega arith

pub if_leaves : (b : Bool) (d one two : Sending) (h o : Bool) → Leaves d one h o → Leaves d two h o → Leaves d (if b then one else two) h o
if_leaves true d one two h o a e = a
if_leaves false d one two h o a e = e

pub as_before : (d : Sending) (h o : Bool) → IsInOrder d h o → Leaves d d h o
as_before d h o p = record { order = p; fewer = no_more (left d) }

pub both : (x y : Bool) → (x && y) ≡ true → (x ≡ true) × (y ≡ true)
both true y e = (refl, e)
both false y e = absurd (cc)

-- more may lie before the end of text
pub range_more : (range : Option (Range ℕ)) (most more : ℕ) → most ≤ more → IfSome range (λ r. r.end ≤ most)
    → IfSome range (λ r. r.end ≤ more)
range_more None most more e r = tt
range_more (Some range) most more e r = omega (arith, e, r)

-- ---- AN ACKNOWLEDGEMENT releases no more than it takes off what is in flight
release-by : (una nxt ack behind queued before after : ℕ) → una < ack → (0 < queued → una ≤ 1 + behind)
    → before ≤ after + min (ack - (1 + behind)) queued → nxt - ack - after ≤ nxt - una - before
release-by una nxt ack behind zero before after more at e = omega (arith, more, e)
release-by una nxt ack behind (suc queued) before after more at e = let near : una ≤ 1 + behind = at (omega arith) in omega (arith, more, e, near)

acked-una : (ack behind queued left : ℕ) → left ≡ queued - min (ack - (1 + behind)) queued → 0 < left
    → ack ≤ 1 + (behind + min (ack - (1 + behind)) queued)
acked-una ack behind queued left e some = omega (arith, e, some)

acked-open : (d : Sending) (ack : ℕ) → ack ≤ d.snd_nxt
    → length (drop (count_below d ack) d.queue.bytes) ≡ length d.queue.bytes - count_below d ack
    → IsOpen d → IsOpen (with_acked d ack)
acked-open d ack most e o =
    let same : end_of_text d ≤ end_of_text (with_acked d ack) = omega (arith, e) in
    record { una = omega (arith, most, o.nxt); nxt = omega (arith, same, o.nxt); range = range_more d.resend _ _ same o.range }

acked : (d : Sending) (ack : ℕ) (h o : Bool) → acks_more d ack ≡ true → IsInOrder d h o → Leaves d (with_acked d ack) h o
acked d ack h o e p =
    let b = both (nat_lt d.snd_una ack) (nat_le ack d.snd_nxt) e in
    let more : d.snd_una < ack = grind (arith, nat_tests, b.0) in
    let most : ack ≤ d.snd_nxt = grind (arith, nat_tests, b.1) in
    let n = count_below d ack in
    let bytes : length (drop n d.queue.bytes) ≡ length d.queue.bytes - n = length-drop n d.queue.bytes in
    let marks : length (drop n d.queue.marks) ≡ length d.queue.marks - n = length-drop n d.queue.marks in
    record {
      order = record {
        flags = omega (arith, bytes, marks, p.flags);
        una = acked-una ack d.released (length d.queue.bytes) _ bytes;
        syn = λ s. omega (arith, p.syn s);
        text = λ t. acked-open d ack most bytes (p.text t);
      };
      fewer = release-by d.snd_una d.snd_nxt ack d.released (length d.queue.bytes) _ _ more p.una (released n d.queue.marks);
    }

ack-by : (d : Sending) (ack : ℕ) (b h o : Bool) → acks_more d ack ≡ b → IsInOrder d h o → Leaves d (if b then with_acked d ack else d) h o
ack-by d ack true h o e p = acked d ack h o e p
ack-by d ack false h o e p = as_before d h o p

pub text_acked : (d : Sending) (ack : ℕ) (h o : Bool) → IsInOrder d h o → Leaves d (after_ack d ack) h o
unfolding after_ack
text_acked d ack h o p = ack-by d ack (acks_more d ack) h o refl p

-- ---- A WINDOW, and blocks
windowed : (d : Sending) (seq ack window : ℕ) (h o : Bool) → IsInOrder d h o → Leaves d (with_window d seq ack window) h o
windowed d seq ack window h o p = record {
  order = record { flags = p.flags; una = p.una; syn = p.syn; text = λ t. let q = p.text t in record { una = q.una; nxt = q.nxt; range = q.range } };
  fewer = no_more (left d);
}

pub window_taken : (d : Sending) (seq ack window : ℕ) (h o : Bool) → IsInOrder d h o → Leaves d (after_window_update d seq ack window) h o
unfolding after_window_update
window_taken d seq ack window h o p =
    if_leaves (is_newer d seq ack) d (with_window d seq ack window) d h o (windowed d seq ack window h o p) (as_before d h o p)

block-by : (d : Sending) (left right : ℕ) (b h o : Bool) → marks_text d left right ≡ b → IsInOrder d h o
    → Leaves d (if b then with_marks d left right else d) h o
unfolding after_mark
block-by d left right true h o e p =
    let b = both (is_of_flight d left right) (nat_lt (place_of d left) (count_below d right)) e in
    let before : place_of d left < count_below d right = grind (arith, nat_tests, b.1) in
    let in-turn : place_of d left ≤ count_below d right = omega (arith, before) in
    let more = marked_more d.queue (place_of d left) (count_below d right) in-turn in
    record {
      order = record {
        flags = marks_fit d.queue (place_of d left) (count_below d right) in-turn (omega arith) p.flags;
        una = p.una;
        syn = p.syn;
        text = λ t. let q = p.text t in record { una = q.una; nxt = q.nxt; range = q.range };
      };
      fewer = omega (arith, more);
    }
block-by d left right false h o e p = as_before d h o p

pub block_taken : (d : Sending) (left right : ℕ) (h o : Bool) → IsInOrder d h o → Leaves d (after_block d left right) h o
unfolding after_block
block_taken d left right h o p = block-by d left right (marks_text d left right) h o refl p

pub blocks_taken : (iss : ℕ) (d : Sending) (blocks : List (ℕ × ℕ)) (h o : Bool) → IsInOrder d h o → Leaves d (after_blocks iss d blocks) h o
blocks_taken iss d [] h o p = as_before d h o p
blocks_taken iss d (block ∷ blocks) h o p =
    let next = after_block d (position_of iss d.snd_una block.0) (position_of iss d.snd_una block.1) in
    let one = block_taken d (position_of iss d.snd_una block.0) (position_of iss d.snd_una block.1) h o p in
    let rest = blocks_taken iss next blocks h o one.order in
    record { order = rest.order; fewer = omega (arith, one.fewer, rest.fewer) }

-- ---- WHAT IS SENT AGAIN
again : (d : Sending) (range : Option (Range ℕ)) (h o : Bool) → IsInOrder d h o → (o ≡ true → IfSome range (λ r. r.end ≤ end_of_text d))
    → Leaves d (record d { resend = range }) h o
again d range h o p fits = record {
  order = record { flags = p.flags; una = p.una; syn = p.syn; text = λ t. let q = p.text t in record { una = q.una; nxt = q.nxt; range = fits t } };
  fewer = no_more (left d);
}

pub stretch_again : (d : Sending) (from to : ℕ) (h o : Bool) → IsInOrder d h o → Leaves d (with_resent d from to) h o
stretch_again d from to h o p =
    again d (Some (record { start = max d.snd_una from; end = min d.snd_nxt to })) h o p (λ t. let q = p.text t in omega (arith, q.nxt))

pub gaps_again : (d : Sending) (end : ℕ) (h o : Bool) → end ≤ length d.queue.marks → IsInOrder d h o → Leaves d (with_gaps_resent d end) h o
gaps_again d end h o e p = again d _ h o p (λ t. omega (arith, e, p.flags))

-- a retransmission timeout forgets all marks
pub all_again : (d : Sending) (h o : Bool) → IsInOrder d h o → IsInOrder (with_all_resent d) h o
unfolding without_marks
all_again d h o p =
    let all : length (replicate (length d.queue.bytes) false) ≡ length d.queue.bytes = length-replicate (length d.queue.bytes) false in
    record { flags = omega (arith, all); una = p.una; syn = p.syn; text = λ t. let q = p.text t in record { una = q.una; nxt = q.nxt; range = q.nxt } }

-- ---- NEW TEXT of the user's, before a close
pub text_queued : (d : Sending) (limit : ℕ) (text : List ℕ) (h : Bool) → IsInOrder d h true → Leaves d (with_text d limit text) h true
text_queued d limit text h p =
    let q = p.text refl in
    let kept = take (count_sendable d limit text) text in
    let n = count_taken d.queue kept in
    let bytes : length (d.queue.bytes ++ take n kept) ≡ length d.queue.bytes + length (take n kept) = length-append d.queue.bytes (take n kept) in
    let more : length (take n kept) ≡ min n (length kept) = length-take n kept in
    let marks : length (d.queue.marks ++ replicate n false) ≡ length d.queue.marks + length (replicate n false) = length-append d.queue.marks (replicate n false) in
    let unmarked : length (replicate n false) ≡ n = length-replicate n false in
    let behind : end_of_text d ≤ end_of_text (with_text d limit text) = omega (arith, bytes) in
    let same : count_marked (d.queue.marks ++ replicate n false) ≡ count_marked d.queue.marks = unmarked_behind d.queue.marks n in
    record {
      order = record {
        flags = omega (arith, bytes, more, marks, unmarked, p.flags);
        una = λ some. q.una;
        syn = p.syn;
        text = λ t. record { una = q.una; nxt = omega (arith, behind, q.nxt); range = range_more d.resend _ _ behind q.range };
      };
      fewer = omega (arith, same);
    }

-- ---- AN END: nothing is sent again, and after a reset or an abort nothing is queued
pub over : (d : Sending) (h o : Bool) → IsInOrder d h o → IsInOrder (without_resend d) false false
over d h o p = record { flags = p.flags; una = p.una; syn = λ e. absurd (cc); text = λ e. absurd (cc) }

pub discarded : (d : Sending) (h o : Bool) → IsInOrder d h o → IsInOrder (without_text d) false false
discarded d h o p =
    let bytes : length (drop (length d.queue.bytes) d.queue.bytes) ≡ length d.queue.bytes - length d.queue.bytes = length-drop (length d.queue.bytes) d.queue.bytes in
    let marks : length (drop (length d.queue.bytes) d.queue.marks) ≡ length d.queue.marks - length d.queue.bytes = length-drop (length d.queue.bytes) d.queue.marks in
    record {
      flags = omega (arith, bytes, marks, p.flags);
      una = λ some. absurd (omega (arith, some, bytes));
      syn = λ e. absurd (cc);
      text = λ e. absurd (cc);
    }

-- less is said of it
pub said_less : (d : Sending) (h o hand unclosed : Bool) → (hand ≡ true → h ≡ true) → (unclosed ≡ true → o ≡ true) → IsInOrder d h o
    → IsInOrder d hand unclosed
said_less d h o hand unclosed e f p = record { flags = p.flags; una = p.una; syn = λ t. p.syn (e t); text = λ t. p.text (f t) }
