-- ONE EVENT MORE, against what a judge heard of one end by itself.
use Rattle.std.proofs.Common.{◌≡◌, ℕ, ◌+◌, ◌-◌, ◌^◌, ◌<◌, ◌≤◌, [], ◌++◌, length, refl, sym, ◌∙◌, ap, subst, ⊎_elim, arith, length-append}
use Rattle.std.specs.Prelude.{Bool, true, false, Option, None}
use Rattle.std.proofs.lemmas.Bool.{false≢true, cases_lt}
use Rattle.std.proofs.lemmas.List.{nil_from_length}
use Rattle.tcp_numbers.specs.declared.seq.Seq.{Seq}
use Rattle.tcp_wire.specs.Position.{number, distance}
use Rattle.tcp_reasm.specs.Reassembly.{max_capacity}
use Rattle.tcp_halves.specs.Receiver.{HoldsWithin}
use Rattle.tcp_conn.specs.Phase.{discards}
use Rattle.tcp_replay.specs.OneEnd.{count_come}
use Rattle.tcp_replay.specs.Solo.{SoloState, end_after, bytes_put_out, after_solo}
use Rattle.tcp_replay.specs.SoloEvents.{SoloContent, HasRanges, Arrive}
use Rattle.tcp_replay.proofs.Lists.{by_test, one_if, one_if-most}
use Rattle.tcp_replay.proofs.one_end.AloneCalls.{IsAloneIn}
use Rattle.tcp_replay.proofs.one_end.AloneFeeds.{Feeds}
use Rattle.tcp_replay.proofs.one_end.Feeds.{AllHeld, ByNumber, text-of, text-at, held-same, IsFed}
use Rattle.tcp_replay.proofs.one_end.SoloRuns.{party_in, next_irs, BringsSyn, alone-step, irs-same}
use Rattle.tcp_judge.specs.Heard.{Heard, has_come}
use Rattle.tcp_judge.proofs.Hearing.{heard_past, spans-more, syns-more, acked_number-same, within, byte-read, feeds-by, finishes-by, room-by, offers-more, links-by}
use Rattle.tcp_judge.proofs.Hearing.{syn-new}
use Rattle.tcp_judge.proofs.Hears.{IsSince, since-least, since-most, since-opened, since-kept, one_if-more, Comes, Hears, takes, stays-going}
use Rattle.tcp_judge.proofs.Hears.{FromOn}
use Rattle.tcp_judge.proofs.Hears.{irs-further, get-within, held-inside, back-one, has-opened}
use Rattle.tcp_judge.proofs.Links.{Offered}
use Rattle.tcp_judge.proofs.Numbers.{number-on, HasSyn}

-- WHAT CAME BEFORE the event: what is handed over and what is unread is all of it
record Before (x : SoloState) (h : Heard) (irs k since : ℕ) : Type 0 where
  comes : Comes h.spans x.endpoint.receiving irs k since
  whole : k ≡ length x.delivered + length x.endpoint.receiving.inbox.unread

module _ (x : SoloState) (e : SoloContent) (h : Heard) (irs k : ℕ) (fits : HasRanges e) (alone : IsAloneIn (party_in x)) (hears : Hears h x irs k) where
  before : discards (end_after x.endpoint e).ending ≡ false → Before x h irs k hears.since
  before going =
      let r = x.endpoint.receiving in
      let least = since-least h.acked_number r irs k hears.since hears.acked_number in
      by_test r.opened (λ _. Before x h irs k hears.since)
      (λ opened.
      let here = stays-going x e irs k fits alone hears.fed opened going in
      record { comes = hears.comes here; whole = sym (hears.fed.whole here) ∙ length-append x.delivered r.inbox.unread })
      (λ shut.
      let none = hears.fed.unopened shut in
      record {
        comes = record {
          text = λ p from below. absurd (omega (arith, least, none.0));
          held = held-same (λ _ _. ⊥) (ByNumber (λ n byte. has_come h.spans n ≡ true) r.rcv_nxt) 0 r.inbox.held (λ n byte never. absurd never)
              (hears.fed.bare shut);
        };
        whole = none.0 ∙ sym (ap length none.1) ∙ length-append x.delivered r.inbox.unread;
      })

  -- the buffer, counted from the first byte that isn't handed over
  rebased : Before x h irs k hears.since → IsFed
      (FromOn (heard_past h e).spans (number irs (1 + length x.delivered)) (hears.since - (1 + length x.delivered)))
      x.endpoint.receiving (number irs (length x.delivered)) (length x.endpoint.receiving.inbox.unread) [] (discards x.endpoint.ending)
  rebased was =
      let r = x.endpoint.receiving in
      let b = length x.delivered in
      let unread = r.inbox.unread in
      let u = length unread in
      let first = number irs (1 + b) in
      let m = hears.since - (1 + b) in
      let spans' = (heard_past h e).spans in
      let P : ℕ → ℕ → Type 0 = FromOn spans' first m in
      let fits_in : u ≤ max_capacity = omega (arith, hears.room.received, hears.small) in
      record {
        next = λ opened. hears.fed.next opened ∙ omega (arith, was.whole);
        unopened = λ shut.
            let none = hears.fed.unopened shut in
            let nothing : u ≡ 0 = omega (arith, none.0, was.whole) in
            (nothing, nil_from_length unread nothing, none.2);
        bare = hears.fed.bare;
        held = held-same (ByNumber (λ n byte. has_come h.spans n ≡ true) r.rcv_nxt) (ByNumber P r.rcv_nxt) 0 r.inbox.held
            (λ n byte came from. spans-more h e (number r.rcv_nxt n) came) was.comes.held;
        text = text-of (ByNumber P (number irs b)) 1 1 unread refl
            (λ i byte is from.
            let inside = within unread i byte is in
            let same : number irs (1 + (b + i)) ≡ number (number irs b) (1 + i) = omega arith in
            let far : distance first (number (number irs b) (1 + i)) ≡ i = omega (arith, inside, fits_in) in
            subst (λ (n : ℕ). has_come spans' n ≡ true) same
            (spans-more h e (number irs (1 + (b + i))) (was.comes.text (1 + (b + i)) (omega (arith, from, far)) (omega (arith, was.whole, inside)))));
        whole = λ _. refl;
      }

  -- what is added to it
  fed-from : Before x h irs k hears.since → Feeds
      (FromOn (heard_past h e).spans (number irs (1 + length x.delivered)) (hears.since - (1 + length x.delivered)))
      (BringsSyn e) x.endpoint (end_after x.endpoint e) (next_irs x.endpoint (number irs (length x.delivered)) e)
      (length x.endpoint.receiving.inbox.unread) (bytes_put_out x.endpoint e)
  fed-from was =
      let first = number irs (1 + length x.delivered) in
      let m = hears.since - (1 + length x.delivered) in
      feeds-by (λ e. FromOn (heard_past h e).spans first m)
      (λ src dst bytes v bytes_fit read plain. text-of (ByNumber (FromOn (heard_past h (Arrive src dst bytes)).spans first m) v.seq) 0 0 v.text refl
      (λ i byte is from. let same : i ≡ 0 + i = omega arith in
      subst (λ (j : ℕ). has_come (heard_past h (Arrive src dst bytes)).spans (number v.seq j) ≡ true) same
      (byte-read h v src dst bytes bytes_fit read plain i byte is)))
      (record x { delivered = [] }) e (number irs (length x.delivered)) (length x.endpoint.receiving.inbox.unread) fits alone (rebased was)

  -- a position from the last one that was told on is one by its number, too
  reaches : Before x h irs k hears.since → (i : ℕ) → hears.since ≤ 1 + length x.delivered + i → i < 2 ^ 32
      → hears.since - (1 + length x.delivered) ≤ distance (number irs (1 + length x.delivered))
      (number (next_irs x.endpoint irs e) (length x.delivered + (1 + i)))
  reaches was i from small =
      let b = length x.delivered in
      let first = number irs (1 + b) in
      ⊎_elim
      (λ (ahead : 1 + b < hears.since).
      let same : next_irs x.endpoint irs e ≡ irs =
      irs-same x.endpoint irs e (since-opened h.acked_number x.endpoint.receiving irs k hears.since hears.acked_number (omega (arith, ahead))) in
      subst (λ (n : ℕ). hears.since - (1 + b) ≤ distance first (number n (b + (1 + i)))) (sym same)
      (let far : distance first (number irs (b + (1 + i))) ≡ i = omega (arith, small) in omega (arith, far, from)))
      (λ (behind : hears.since ≤ 1 + b). omega (arith, behind))
      (cases_lt (1 + b) hears.since)

  -- before the peer's SYN nothing is handed over
  none-delivered : x.endpoint.receiving.opened ≡ false → length x.delivered ≡ 0
  none-delivered shut = omega (arith, ap length (hears.fed.unopened shut).1, length-append x.delivered x.endpoint.receiving.inbox.unread)

  -- the position of a byte that is counted so
  further-on : (j : ℕ) → number (next_irs x.endpoint (number irs (length x.delivered)) e) j ≡ number (next_irs x.endpoint irs e) (length x.delivered + j)
  further-on j = irs-further x.endpoint irs (length x.delivered) j e none-delivered

  room' : HoldsWithin hears.capacity (end_after x.endpoint e).receiving.inbox
  room' = room-by hears.capacity x e fits alone hears.room

  text-comes : (was : Before x h irs k hears.since) → discards (end_after x.endpoint e).ending ≡ false → (p : ℕ) → hears.since ≤ p
      → p < 1 + (k + count_come x.endpoint e) → has_come (heard_past h e).spans (number (next_irs x.endpoint irs e) p) ≡ true
  text-comes was going p from below =
      let r = x.endpoint.receiving in
      let b = length x.delivered in
      let spans' = (heard_past h e).spans in
      let irs' = next_irs x.endpoint irs e in
      let least = since-least h.acked_number r irs k hears.since hears.acked_number in
      let fed = (fed-from was).fed in
      let text' = bytes_put_out x.endpoint e ++ (end_after x.endpoint e).receiving.inbox.unread in
      let whole : length text' ≡ length r.inbox.unread + count_come x.endpoint e = fed.whole going in
      ⊎_elim
      (λ (old : p < 1 + b).
      let opened : r.opened ≡ true = by_test r.opened (λ o. o ≡ true) (λ _. refl) (λ shut. absurd (omega (arith, none-delivered shut, old, from, least))) in
      subst (λ (n : ℕ). has_come spans' (number n p) ≡ true) (sym (irs-same x.endpoint irs e opened))
      (spans-more h e (number irs p) (was.comes.text p from (omega (arith, was.whole, old)))))
      (λ (new : 1 + b ≤ p).
      let j = p - (1 + b) in
      let inside : j < length text' = omega (arith, whole, was.whole, below, new) in
      let small : j < 2 ^ 32 = omega (arith, whole, inside, hears.room.received, hears.small, room'.received) in
      let at = get-within text' j inside in
      let place : length x.delivered + (1 + j) ≡ p = omega (arith, new) in
      let same : number (next_irs x.endpoint (number irs b) e) (1 + j) ≡ number irs' (b + (1 + j)) = further-on (1 + j) in
      let came = text-at (ByNumber (FromOn spans' (number irs (1 + b)) (hears.since - (1 + b))) (next_irs x.endpoint (number irs b) e)) 1 text' j (1 + j) at.0
      refl at.1 fed.text in
      let there = subst (λ (n : ℕ). hears.since - (1 + b) ≤ distance (number irs (1 + b)) n → has_come spans' n ≡ true) same came
      (reaches was j (omega (arith, from, new)) small) in
      subst (λ (n : ℕ). has_come spans' (number irs' n) ≡ true) place there)
      (cases_lt p (1 + b))

  held-comes : (was : Before x h irs k hears.since) → discards (end_after x.endpoint e).ending ≡ false
      → one_if x.endpoint.receiving.finished ≤ one_if (end_after x.endpoint e).receiving.finished
      → AllHeld (ByNumber (λ n byte. has_come (heard_past h e).spans n ≡ true) (end_after x.endpoint e).receiving.rcv_nxt) 0
      (end_after x.endpoint e).receiving.inbox.held
  held-comes was going more =
      let r = x.endpoint.receiving in
      let r' = (end_after x.endpoint e).receiving in
      let b = length x.delivered in
      let first = number irs (1 + b) in
      let m = hears.since - (1 + b) in
      let spans' = (heard_past h e).spans in
      let P : ℕ → ℕ → Type 0 = λ n byte. has_come spans' n ≡ true in
      let fed = (fed-from was).fed in
      let most = since-most h.acked_number r irs k hears.since hears.acked_number in
      by_test r'.opened (λ _. AllHeld (ByNumber P r'.rcv_nxt) 0 r'.inbox.held)
      (λ opened.
      let n = length r.inbox.unread + (length r'.inbox.unread - length r.inbox.unread) + one_if r'.finished in
      held-inside (ByNumber (FromOn spans' first m) r'.rcv_nxt) (ByNumber P r'.rcv_nxt) 0 r'.inbox.held
      (λ i byte from below had.
      let small : n + i < 2 ^ 32 = omega (arith, below, hears.room.received, hears.small, room'.received, one_if-most r'.finished) in
      let start = next_irs x.endpoint (number irs b) e in
      let to = 1 + (length r.inbox.unread + (length r'.inbox.unread - length r.inbox.unread)) + one_if r'.finished in
      let whole : 1 + (n + i) ≡ to + i = omega arith in
      let there : number start (1 + (n + i)) ≡ number r'.rcv_nxt i =
      ap (number start) whole ∙ sym (number-on start to i) ∙ ap (λ k. number k i) (sym (fed.next opened)) in
      had (subst (λ (w : ℕ). m ≤ distance first w) (sym (further-on (1 + (n + i))) ∙ there)
      (reaches was (n + i) (omega (arith, most, was.whole, more)) small)))
      fed.held)
      (λ shut. held-same (λ _ _. ⊥) (ByNumber P r'.rcv_nxt) 0 r'.inbox.held (λ n byte never. absurd never) (fed.bare shut))

  -- the peer's FIN
  fin-comes : (end_after x.endpoint e).receiving.finished ≡ true → hears.since ≤ 1 + (k + count_come x.endpoint e)
      → has_come (heard_past h e).spans (number (next_irs x.endpoint irs e) (1 + (k + count_come x.endpoint e))) ≡ true
  fin-comes done from =
      let s = x.endpoint in
      let s' = end_after s e in
      let k' = k + count_come s e in
      let irs' = next_irs s irs e in
      let spans' = (heard_past h e).spans in
      let finishes = finishes-by x e h fits alone in
      let fed = (takes x e irs k fits alone hears.fed).fed in
      ⊎_elim
      (λ (had : s.receiving.finished ≡ true).
      let same : irs' ≡ irs = irs-same s irs e (has-opened s x.accepted x.closed alone had) in
      let still : 1 + k ≡ 1 + k' = omega (arith, (finishes.stays had).1) in
      subst (λ (n : ℕ). has_come spans' n ≡ true) (ap (number irs) still ∙ ap (λ i. number i (1 + k')) (sym same))
      (spans-more h e (number irs (1 + k)) (hears.fin had (omega (arith, still, from)))))
      (λ (new : (f : ℕ) × (has_come spans' f ≡ true) × (f < 2 ^ 32) × (s'.receiving.rcv_nxt ≡ number f 1)).
      let opened : s'.receiving.opened ≡ true = has-opened s' _ _ (alone-step x e fits alone) done in
      let next : s'.receiving.rcv_nxt ≡ number irs' (1 + k' + 1) = fed.next opened ∙ ap (λ (b : Bool). number irs' (1 + k' + one_if b)) done in
      subst (λ (n : ℕ). has_come spans' n ≡ true) (back-one new.0 irs' (1 + k') new.2 (sym new.3 ∙ next)) new.1)
      (finishes.comes done)

  pub hears-step : Hears (heard_past h e) (after_solo x e) (next_irs x.endpoint irs e) (k + count_come x.endpoint e)
  hears-step =
      let s = x.endpoint in
      let s' = end_after s e in
      let h' = heard_past h e in
      let irs' = next_irs s irs e in
      let took = takes x e irs k fits alone hears.fed in
      let finishes = finishes-by x e h fits alone in
      let more = one_if-more s.receiving.finished s'.receiving.finished (λ had. (finishes.stays had).0) in
      record {
        since = hears.since;
        acked_number = subst (λ (acked_number : Option Seq). IsSince acked_number s'.receiving irs' (k + count_come s e) hears.since) (sym (acked_number-same h e))
            (since-kept h.acked_number s.receiving s'.receiving irs irs' k (k + count_come s e) hears.since (λ opened. (took.stays opened, irs-same s irs e opened))
            (omega arith) more hears.acked_number);
        fed = took.fed;
        comes = λ going. let was = before going in record { text = text-comes was going; held = held-comes was going more };
        syn = λ silent opened.
            let quiet : h.acked_number ≡ None = sym (acked_number-same h e) ∙ silent in
            by_test s.receiving.opened (λ _. HasSyn h'.syns irs')
            (λ had. subst (HasSyn h'.syns) (sym (irs-same s irs e had)) (syns-more h e irs (hears.syn quiet had)))
            (λ shut. ⊎_elim (λ (had : s.receiving.opened ≡ true). absurd (false≢true (sym shut ∙ had))) (λ is. syn-new h s irs e quiet is shut opened)
            (took.opens opened));
        fin = fin-comes;
        capacity = hears.capacity;
        small = hears.small;
        room = room';
        offered = ⊎_elim
            (λ (same : s'.link ≡ s.link). subst (Offered h'.scaling h'.sack) (sym same) (offers-more h e s.link hears.offered))
            (λ (new : Offered h'.scaling h'.sack s'.link). new) (links-by x e h fits alone);
      }

-- ITS ADDRESS stays
pub address-step : (x : SoloState) (e : SoloContent) (h : Heard) (irs k : ℕ) → HasRanges e → IsAloneIn (party_in x) → Hears h x irs k
    → (end_after x.endpoint e).config ≡ x.endpoint.config
address-step x e h irs k fits alone hears = (takes x e irs k fits alone hears.fed).config
