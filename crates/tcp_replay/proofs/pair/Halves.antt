-- The moves of one half of a direction: what each does to the bytes that were accepted, queued, held and
-- delivered.
use Rattle.tcp_replay.proofs.Words.{◌+◌, ◌++◌, ◌-◌, ◌<◌, [], Advances, after_delivering, after_read, after_read-agrees, ap, append-nil, append_assoc}
use Rattle.tcp_replay.proofs.Words.{AreBytes, arith, Bool, count_below, count_sendable, DeliversPrefix, drop, drop-append-le, drop-drop}
use Rattle.tcp_replay.proofs.Words.{empty_inbox-agrees, false, IfSome, if◌then◌else◌, Inbox, length, length-append, length-drop, length-replicate}
use Rattle.tcp_replay.proofs.Words.{length-take, List, max, max_capacity, max_ordered, min, None, number, Option, or_cases, Range, Receiving, refl}
use Rattle.tcp_replay.proofs.Words.{replicate, Sending, Sends, Some, stream_limit, sym, take, take-append-drop, take-append-le, take_all, take_min, Takes}
use Rattle.tcp_replay.proofs.Words.{true, with_acked, with_fin, with_inbox, with_syn, with_syn_sent, with_text, without_bytes, without_held-agrees}
use Rattle.tcp_replay.proofs.Words.{without_text, ◌||◌, ℕ, ◌∙◌, ◌≡◌, ◌≤◌, ⊎_elim}
use Rattle.tcp_replay.proofs.Lists.{take-none, Agrees-more, front-is, nothing-follows, number-further, one_if, one_if-false}
use Rattle.tcp_wire.proofs.Bytes.{bytes_append, bytes_take}
use Rattle.tcp_reasm.proofs.Rings.{take_further}
use Rattle.tcp_sendq.specs.SendQueue as queues

-- THE HALF THAT SENDS. A range ends no later where the bound is higher.
pub range-more : (m n : ℕ) (range : Option (Range ℕ)) → m ≤ n → IfSome range (λ r. r.end ≤ m) → IfSome range (λ r. r.end ≤ n)
range-more m n None more h = tt
range-more m n (Some range) more h = omega arith

-- the queue takes the whole front that the direction takes
with_text-queue : (s : Sending) (limit : ℕ) (text : List ℕ) → (with_text s limit text).queue.bytes ≡ s.queue.bytes ++ take (count_sendable s limit text) text
with_text-queue s limit text =
    ap (λ more. s.queue.bytes ++ more)
    (take_all (queues.count_taken s.queue (take (count_sendable s limit text) text)) (take (count_sendable s limit text) text)
    (omega (arith, length-take (count_sendable s limit text) text)))

with_text-flags : (s : Sending) (limit : ℕ) (text : List ℕ) → length s.queue.marks ≡ length s.queue.bytes
    → length (with_text s limit text).queue.marks ≡ length (with_text s limit text).queue.bytes
with_text-flags s limit text h =
    let taken = take (count_sendable s limit text) text in
    let n = queues.count_taken s.queue taken in
    omega (arith, h, length-append s.queue.marks (replicate n false), length-replicate n false, length-append s.queue.bytes (take n taken), length-take n taken)

-- more text is accepted, up to the limit
pub accepted-limit : (s : Sending) (limit : ℕ) (accepted text : List ℕ) (closed : Bool) → length accepted ≤ limit → Sends s accepted closed false
    → length (accepted ++ take (count_sendable s limit text) text) ≤ limit
accepted-limit s limit accepted text closed within h =
    let inside : s.released ≤ length accepted = omega (arith, h.released) in
    let count : length s.queue.bytes ≡ length accepted - s.released = ap length (h.queue refl) ∙ length-drop s.released accepted in
    omega (arith, within, inside, count, length-append accepted (take (count_sendable s limit text) text), length-take (count_sendable s limit text) text)

-- the queue takes the front of a text that it has room for
pub sends-more : (s : Sending) (limit : ℕ) (accepted text : List ℕ) → limit ≤ stream_limit → AreBytes text → Sends s accepted false false
    → Sends (with_text s limit text) (accepted ++ take (count_sendable s limit text) text) false false
sends-more s limit accepted text most bytes h =
    let more = take (count_sendable s limit text) text in
    let longer : length (accepted ++ more) ≡ length accepted + length more = length-append accepted more in
    let inside : s.released ≤ length accepted = omega (arith, h.released) in
    let count : length s.queue.bytes ≡ length accepted - s.released = ap length (h.queue refl) ∙ length-drop s.released accepted in
    record {
      order = h.order;
      most = omega (arith, h.most, longer);
      limit = omega (arith, h.limit, inside, longer, count, length-take (count_sendable s limit text) text, most);
      capacity = h.capacity;
      ahead = omega (arith, h.ahead, h.capacity, inside, longer, count, length-take (count_sendable s limit text) text);
      bytes = bytes_append accepted more h.bytes (bytes_take (count_sendable s limit text) text bytes);
      released = omega (arith, h.released, h.order, h.most, longer);
      queue = λ _. with_text-queue s limit text ∙ ap (λ kept. kept ++ more) (h.queue refl) ∙ sym (drop-append-le s.released accepted more inside);
      flags = with_text-flags s limit text h.flags;
      range = range-more (max s.snd_nxt (1 + length accepted)) (max s.snd_nxt (1 + length (accepted ++ more))) s.resend (omega (arith, longer)) h.range;
    }

-- the SYN is sent
pub sends-syn : (s : Sending) (accepted : List ℕ) (closed gone : Bool) → s.snd_nxt ≡ 0 → Sends s accepted closed gone → Sends (with_syn_sent s) accepted closed gone
sends-syn s accepted closed gone none h =
    let order : (with_syn_sent s).snd_una ≤ (with_syn_sent s).snd_nxt = omega (arith, h.order) in
    let most : (with_syn_sent s).snd_nxt ≤ 1 + length accepted + one_if closed = omega arith in
    let released : s.released ≡ min ((with_syn_sent s).snd_una - 1) (length accepted) = omega (arith, h.released, h.order) in
    let range = range-more (max s.snd_nxt (1 + length accepted)) (max 1 (1 + length accepted)) s.resend (omega arith) h.range in
    assumption

-- and it is acknowledged
pub sends-syn_acked : (s : Sending) (accepted : List ℕ) (closed gone : Bool) (snd_wnd snd_wl1 snd_wl2 : ℕ) → s.snd_nxt ≡ 1 → Sends s accepted closed gone
    → Sends (record s { snd_una = s.snd_nxt; snd_wnd = snd_wnd; snd_wl1 = snd_wl1; snd_wl2 = snd_wl2 }) accepted closed gone
sends-syn_acked s accepted closed gone snd_wnd snd_wl1 snd_wl2 one h =
    let order : s.snd_nxt ≤ s.snd_nxt = omega arith in
    let released : s.released ≡ min (s.snd_nxt - 1) (length accepted) = omega (arith, h.released, h.order) in
    assumption

-- a close: the FIN may follow
pub sends-closed : (s : Sending) (accepted : List ℕ) (closed gone : Bool) → Sends s accepted closed gone → Sends s accepted true gone
sends-closed s accepted true gone h = h
sends-closed s accepted false gone h = let most : s.snd_nxt ≤ 1 + length accepted + 1 = omega (arith, h.most) in assumption

-- a position that was sent is acknowledged, and the text below it released
pub sends-acked : (s : Sending) (accepted : List ℕ) (closed : Bool) (a : ℕ) → s.snd_una < a → a ≤ s.snd_nxt → Sends s accepted closed false
    → Sends (with_acked s a) accepted closed false
sends-acked s accepted closed a new sent h =
    let inside : s.released ≤ length accepted = omega (arith, h.released) in
    let count : length s.queue.bytes ≡ length accepted - s.released = ap length (h.queue refl) ∙ length-drop s.released accepted in
    let ahead : length accepted ≤ (with_acked s a).released + max_capacity = omega (arith, h.ahead) in
    let released : (with_acked s a).released ≡ min (a - 1) (length accepted) = omega (arith, h.released, count, inside, new) in
    let queue : false ≡ false → (with_acked s a).queue.bytes ≡ drop (with_acked s a).released accepted
    = λ _. ap (drop (count_below s a)) (h.queue refl) ∙ drop-drop (count_below s a) s.released accepted in
    let flags = length-drop (count_below s a) s.queue.marks ∙ ap (λ n. n - count_below s a) h.flags ∙ sym (length-drop (count_below s a) s.queue.bytes) in
    assumption

-- a reset or an abort gives the queue up
pub sends-discarded : (s : Sending) (accepted : List ℕ) (closed gone : Bool) → Sends s accepted closed gone → Sends (without_text s) accepted closed true
sends-discarded s accepted closed gone h =
    let n = length s.queue.bytes in
    let queue : true ≡ false → drop n s.queue.bytes ≡ drop s.released accepted = λ never. absurd (cc) in
    let flags : length (drop n s.queue.marks) ≡ length (drop n s.queue.bytes) = length-drop n s.queue.marks ∙ ap (λ k. k - n) h.flags ∙ sym
    (length-drop n s.queue.bytes) in
    let range : IfSome (without_text s).resend (λ r. r.end ≤ max s.snd_nxt (1 + length accepted)) = tt in
    assumption

-- SND.NXT moves on, and the range
pub sends-sent : (s : Sending) (accepted : List ℕ) (closed gone : Bool) (n : ℕ) (resend : Option (Range ℕ)) → s.snd_nxt ≤ n
    → n ≤ 1 + length accepted + (if closed then 1 else 0)
    → IfSome resend (λ r. r.end ≤ max n (1 + length accepted)) → Sends s accepted closed gone
    → Sends (record s { snd_nxt = n; resend = resend }) accepted closed gone
sends-sent s accepted closed gone n resend further within range h =
    let order : s.snd_una ≤ n = omega (arith, h.order) in
    assumption

-- THE HALF THAT RECEIVES. More is accepted at the other end, or it closes.
same-accepted : (accepted more : List ℕ) (closed closed' : Bool) → (closed ≡ true → (more ≡ []) × (closed' ≡ true)) → closed ≡ true
    → accepted ≡ accepted ++ more
same-accepted accepted more closed closed' fixed e = sym (ap (λ xs. accepted ++ xs) (fixed e).0 ∙ append-nil accepted)

-- what was taken of a stream was taken of a longer one
pub takes-more : (r : Receiving) (irs : ℕ) (accepted : List ℕ) (closed closed' : Bool) (more : List ℕ) → (closed ≡ true → (more ≡ []) × (closed' ≡ true))
    → Takes r irs accepted closed → Takes r irs (accepted ++ more) closed'
takes-more r irs accepted closed closed' more fixed h = record {
  next = h.next;
  unopened = h.unopened;
  order = omega (arith, h.order, length-append accepted more);
  fin = λ e. ((fixed (h.fin e).0).1, (h.fin e).1 ∙ ap length (same-accepted accepted more closed closed' fixed (h.fin e).0));
  held = rw (drop-append-le r.ordered accepted more h.order) (Agrees-more r.inbox.held (drop r.ordered accepted) more h.held);
}

-- and what was delivered
pub delivers-more : (r : Receiving) (accepted : List ℕ) (closed closed' : Bool) (delivered more : List ℕ) (ended gone : Bool)
    → (closed ≡ true → (more ≡ []) × (closed' ≡ true)) → r.ordered ≤ length accepted
    → DeliversPrefix r.inbox.unread r.ordered accepted closed delivered ended gone
    → DeliversPrefix r.inbox.unread r.ordered (accepted ++ more) closed' delivered ended gone
delivers-more r accepted closed closed' delivered more ended gone fixed order h = record {
  count = h.count;
  delivery = h.delivery ∙ sym (take-append-le h.count accepted more (omega (arith, h.least, order)));
  least = h.least;
  whole = h.whole;
  all_delivered = λ e. ((fixed (h.all_delivered e).0).1, (h.all_delivered e).1 ∙ same-accepted accepted more closed closed' fixed (h.all_delivered e).0);
}

-- the peer's SYN is taken
pub takes-syn : (r : Receiving) (irs seq : ℕ) (accepted : List ℕ) (closed : Bool) → r.opened ≡ false → seq ≡ number irs 0 → Takes r irs accepted closed
    → Takes (with_syn r seq) irs accepted closed
takes-syn r irs seq accepted closed e is h =
    let none = h.unopened e in
    let fin : one_if r.finished ≡ 0 = one_if-false r.finished none.2 in
    record { next = λ _. omega (arith, is, none.1, fin); unopened = λ never. absurd (cc); order = h.order; fin = h.fin; held = h.held }

-- the user reads
pub takes-read : (r : Receiving) (irs : ℕ) (accepted : List ℕ) (closed : Bool) (n : ℕ) → Takes r irs accepted closed
    → Takes (after_delivering r n) irs accepted closed
unfolding after_read
takes-read r irs accepted closed n h =
    record { next = h.next; unopened = h.unopened; order = h.order; fin = h.fin; held = after_read-agrees r.inbox n (drop r.ordered accepted) h.held }

-- what the user reads is delivered
pub delivers-read : (r : Receiving) (accepted : List ℕ) (closed : Bool) (delivered : List ℕ) (ended gone : Bool) (n : ℕ)
    → DeliversPrefix r.inbox.unread r.ordered accepted closed delivered ended gone
    → DeliversPrefix (after_delivering r n).inbox.unread (after_delivering r n).ordered accepted closed
    (delivered ++ take (min n (length r.inbox.unread)) r.inbox.unread) ended gone
unfolding after_read
delivers-read r accepted closed delivered ended gone n h =
    let unread = r.inbox.unread in
    record {
      count = h.count;
      delivery = append_assoc delivered (take (min n (length unread)) unread) (drop n unread)
          ∙ ap (λ xs. delivered ++ xs) (ap (λ xs. xs ++ drop n unread) (take_min n unread) ∙ take-append-drop n unread) ∙ h.delivery;
      least = h.least;
      whole = h.whole;
      all_delivered = λ e.
          let none : unread ≡ [] = nothing-follows delivered unread accepted h.count h.delivery (h.all_delivered e).1 in (
            (h.all_delivered e).0,
            ap (λ xs. delivered ++ xs) (ap (take (min n (length unread))) none ∙ take-none (min n (length unread))) ∙
                append-nil delivered ∙ (h.all_delivered e).1,
          );
    }

-- the end of the stream is handed over, after the FIN, where nothing is unread
pub delivers-ended : (r : Receiving) (irs : ℕ) (accepted : List ℕ) (closed : Bool) (delivered : List ℕ) (ended gone ends : Bool)
    → (ends ≡ true → (r.finished ≡ true) × (r.inbox.unread ≡ [])) → gone ≡ false
    → Takes r irs accepted closed → DeliversPrefix r.inbox.unread r.ordered accepted closed delivered ended gone
    → DeliversPrefix r.inbox.unread r.ordered accepted closed delivered (ended || ends) gone
delivers-ended r irs accepted closed delivered ended gone ends only stays takes h = record {
  count = h.count;
  delivery = h.delivery;
  least = h.least;
  whole = h.whole;
  all_delivered = λ e. ⊎_elim h.all_delivered (λ (last : ends ≡ true).
      let all = only last in (
        (takes.fin all.0).0,
        sym (append-nil delivered) ∙ ap (λ xs. delivered ++ xs) (sym all.1) ∙ h.delivery ∙ take_all h.count accepted
            (omega (arith, h.whole stays, (takes.fin all.0).1)),
      ))
      (or_cases ended ends e);
}

-- text of the stream is placed: so many bytes more are in order
further-ordered : (r : Receiving) (inbox : Inbox) (accepted : List ℕ) (n : ℕ) → length accepted ≤ stream_limit → r.ordered ≤ length accepted
    → Advances r.inbox inbox (drop r.ordered accepted) n
    → min max_ordered (r.ordered + n) ≡ r.ordered + n
further-ordered r inbox accepted n limit order steps = omega (arith, order, limit, steps.within, length-drop r.ordered accepted)

-- RCV.NXT moves on by what came in order
pub takes-advance : (r : Receiving) (irs : ℕ) (accepted : List ℕ) (closed : Bool) (inbox : Inbox) (n : ℕ) → length accepted ≤ stream_limit → r.opened ≡ true
    → r.finished ≡ false
    → Takes r irs accepted closed → Advances r.inbox inbox (drop r.ordered accepted) n → Takes (with_inbox r inbox n) irs accepted closed
takes-advance r irs accepted closed inbox n limit opened unfinished h steps =
    let further = further-ordered r inbox accepted n limit h.order steps in
    let fin : one_if r.finished ≡ 0 = one_if-false r.finished unfinished in
    record {
      next = λ _. number-further irs (1 + r.ordered + one_if r.finished) n r.rcv_nxt (h.next opened) ∙ ap (number irs) (omega (arith, further));
      unopened = λ never. absurd (cc);
      order = omega (arith, further, h.order, steps.within, length-drop r.ordered accepted);
      fin = λ never. absurd (cc);
      held = rw further (rw (← drop-drop n r.ordered accepted) steps.held);
    }

-- and what is unread grows by it
pub delivers-advance : (r : Receiving) (irs : ℕ) (accepted : List ℕ) (closed : Bool) (delivered : List ℕ) (ended gone : Bool) (inbox : Inbox) (n : ℕ)
    → length accepted ≤ stream_limit → gone ≡ false
    → Takes r irs accepted closed → DeliversPrefix r.inbox.unread r.ordered accepted closed delivered ended gone
    → Advances r.inbox inbox (drop r.ordered accepted) n
    → DeliversPrefix (with_inbox r inbox n).inbox.unread (with_inbox r inbox n).ordered accepted closed delivered ended gone
delivers-advance r irs accepted closed delivered ended gone inbox n limit stays takes h steps =
    let further = further-ordered r inbox accepted n limit takes.order steps in
    record {
      count = r.ordered + n;
      delivery = ap (λ xs. delivered ++ xs) steps.unread ∙ sym (append_assoc delivered r.inbox.unread (take n (drop r.ordered accepted)))
          ∙ ap (λ xs. xs ++ take n (drop r.ordered accepted)) (h.delivery ∙ ap (λ k. take k accepted) (h.whole stays)) ∙ take_further r.ordered n accepted;
      least = omega (arith, further);
      whole = λ _. sym further;
      all_delivered = h.all_delivered;
    }

-- the FIN is taken in its turn
pub takes-fin : (r : Receiving) (irs : ℕ) (accepted : List ℕ) (closed : Bool) → r.opened ≡ true → r.finished ≡ false → closed ≡ true
    → r.ordered ≡ length accepted
    → Takes r irs accepted closed → Takes (with_fin r) irs accepted closed
takes-fin r irs accepted closed opened unfinished is_closed all h =
    let fin : one_if r.finished ≡ 0 = one_if-false r.finished unfinished in
    record {
      next = λ _. number-further irs (1 + r.ordered + one_if r.finished) 1 r.rcv_nxt (h.next opened) ∙ ap (number irs) (omega (arith, fin));
      unopened = λ never. absurd (cc);
      order = h.order;
      fin = λ _. (is_closed, all);
      held = without_held-agrees r.inbox (drop r.ordered accepted);
    }

-- a reset or an abort gives up what is unread and held
pub takes-discarded : (r : Receiving) (irs : ℕ) (accepted : List ℕ) (closed : Bool) → Takes r irs accepted closed → Takes (without_bytes r) irs accepted closed
takes-discarded r irs accepted closed h =
    record { next = h.next; unopened = h.unopened; order = h.order; fin = h.fin; held = empty_inbox-agrees r.inbox.capacity (drop r.ordered accepted) }

-- what is unread may be given up, and is not delivered then
pub delivers-discarded : (r : Receiving) (accepted : List ℕ) (closed : Bool) (delivered : List ℕ) (ended gone : Bool)
    → DeliversPrefix r.inbox.unread r.ordered accepted closed delivered ended gone
    → DeliversPrefix (without_bytes r).inbox.unread (without_bytes r).ordered accepted closed delivered ended true
delivers-discarded r accepted closed delivered ended gone h =
    let front : delivered ≡ take (length delivered) accepted = front-is delivered r.inbox.unread accepted h.count h.delivery in
    let short : length delivered ≤ h.count = omega (arith, ap length h.delivery, length-append delivered r.inbox.unread, length-take h.count accepted) in
    record {
      count = length delivered;
      delivery = append-nil delivered ∙ front;
      least = omega (arith, short, h.least);
      whole = λ never. absurd
          (cc);
      all_delivered = h.all_delivered;
    }
