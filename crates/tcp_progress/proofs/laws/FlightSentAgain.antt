-- A text or FIN that is due covers the positions from its start on and before its end.
use Rattle.tcp_replay.proofs.Words.{◌&&◌, ◌+◌, ◌-◌, ◌<◌, after_emission, after_retransmit, and_from, ap, arith, bytes_of, cases_Bool, cases_lt}
use Rattle.tcp_replay.proofs.Words.{count_leading, count_numbers, count_of, destination_of, drop, drop-replicate, Due, due_of, emitted_bytes, end_of}
use Rattle.tcp_replay.proofs.Words.{end_of_text, false, if◌then◌else◌, inl, inr, is_fin, is_handshake, length, length-drop, length-replicate, length-take}
use Rattle.tcp_replay.proofs.Words.{max, min, nat_le, nat_lt, nat_tests, next_unmarked, None, Pending, pending_after, Phase, place_of, plain_segment}
use Rattle.tcp_replay.proofs.Words.{position_at, Queue, range_after, refl, replicate, Resend, resend_after, resend_of, resent_run, ResentFin, segment_of}
use Rattle.tcp_replay.proofs.Words.{Sending, sends_text, Some, start_of, State, state_after, suc, sym, text_limit, true, with_all_resent, without_marks}
use Rattle.tcp_replay.proofs.Words.{zero, ℕ, ◌∙◌, ◌≡◌, ◌≤◌, ◌⊎◌}
use Rattle.tcp_progress.proofs.Words.{after_emissions, CoversNext, FlightGoesOutAgain, GoesOut, is_synchronized, IsInFlight, KeepsFlight, MaySend}
use Rattle.tcp_replay.proofs.Lemmas.{due-bits, one_if, text-of_due}
use Rattle.tcp_replay.proofs.Words.{Text, Sent}

-- the text that is due lies within the queue
pub record Stands (s : State) (due : Due) : Type 0 where
  pub is_due : due_of s ≡ Some due
  pub form : segment_of s due ≡ plain_segment s due
  pub to : destination_of s due ≡ s.peer
  pub inside : count_of due ≤ length s.sending.queue.bytes - place_of s.sending (start_of s.sending due)

-- then it covers the positions from its start on and before its end
pub covering : (s : State) (due : Due) (position : ℕ) → Stands s due → start_of s.sending due ≤ position
    → position < start_of s.sending due + count_of due + one_if (is_fin due) → CoversNext s position
unfolding emitted_bytes bytes_of
covering s due position stands begins ends =
    let d = s.sending in
    let bits = due-bits d due in
    let v = plain_segment s due in
    let long : length v.text ≡ count_of due =
    ap length (text-of_due d due) ∙ length-take (count_of due) _ ∙ omega (arith, length-drop (place_of d (start_of d due)) d.queue.bytes, stands.inside) in
    let numbers : count_numbers v ≡ count_of due + one_if (is_fin due) = rw (bits.0, bits.1) (omega (arith, long)) in
    record {
      due = due;
      is_due = stands.is_due;
      segment = v;
      form = sym stands.form;
      start = start_of d due;
      starts = refl;
      emitted = rw stands.is_due (rw (stands.form, stands.to) refl);
      seq = refl;
      begins = begins;
      ends = omega (arith, ends, numbers);
      text = rw long (text-of_due d due);
      no_rst = bits.2;
      no_syn = bits.0;
      has_ack = bits.3;
      acknowledged = refl;
    }

-- ---- What is in flight goes out again: an unmarked queue is sent from the range's start on, segment by segment.
-- no flag of the queue is set
abbrev pub IsUnmarked : Queue → Type 0
IsUnmarked q = q.marks ≡ replicate (length q.bytes) false

none-leading : (n : ℕ) → count_leading true (replicate n false) ≡ 0
none-leading zero = refl
none-leading (suc n) = refl

all-leading : (n : ℕ) → count_leading false (replicate n false) ≡ n
all-leading zero = refl
all-leading (suc n) = ap suc (all-leading n)

-- the first unmarked run from a place on is all that follows
unmarked-run : (q : Queue) (at : ℕ) → IsUnmarked q → at < length q.bytes → next_unmarked q at ≡ Some (at, length q.bytes)
unfolding next_unmarked
unmarked-run q at unmarked inside =
    let n = length q.bytes in
    let first : count_leading true (drop at q.marks) ≡ 0 = rw (unmarked, drop-replicate at n false) (none-leading (n - at)) in
    let rest : count_leading false (drop at q.marks) ≡ n - at = rw (unmarked, drop-replicate at n false) (all-leading (n - at)) in
    let long : length q.marks ≡ n = rw unmarked (length-replicate n false) in
    let here : at + 0 ≡ at = omega arith in
    let whole : at + (n - at) ≡ n = omega (arith, inside) in
    let test : nat_lt at n ≡ true = grind (arith, nat_tests, inside) in
    rw (first, here, long, test, rest, whole) refl

no-run : (q : Queue) (at : ℕ) → IsUnmarked q → length q.bytes ≤ at → next_unmarked q at ≡ None
unfolding next_unmarked
no-run q at unmarked past =
    let n = length q.bytes in
    let first : count_leading true (drop at q.marks) ≡ 0 = rw (unmarked, drop-replicate at n false) (none-leading (n - at)) in
    let long : length q.marks ≡ n = rw unmarked (length-replicate n false) in
    let here : at + 0 ≡ at = omega arith in
    let test : nat_lt at n ≡ false = grind (arith, nat_tests, past) in
    rw (first, here, long, test) refl

-- an end that sends again from a position on, all that is in flight
pub record Resends (s : State) (start : ℕ) : Type 0 where
  pub may : MaySend s
  pub range : s.sending.resend ≡ Some (record { start = start; end = s.sending.snd_nxt })
  pub unmarked : IsUnmarked s.sending.queue
  pub behind : s.sending.snd_una ≤ start

-- what it sends again next, by the run of text that is left
next-resent : (s : State) (start : ℕ) → Resends s start → resend_of s.sending (text_limit s) s.sending.resend
    ≡ resent_run s.sending (text_limit s) (record { start = start; end = s.sending.snd_nxt }) (next_unmarked s.sending.queue (place_of s.sending start))
unfolding resend_of
next-resent s start r = let from : max start s.sending.snd_una ≡ start = omega (arith, r.behind) in rw (r.range, from) refl

-- where the text begins, and how much of it goes out
unfoldable from_now : Sending → ℕ → ℕ
from_now s start = position_at s (place_of s start)

count_now : State → ℕ → ℕ
count_now s start = min (text_limit s) (min (length s.sending.queue.bytes - place_of s.sending start) (s.sending.snd_nxt - from_now s.sending start))

text-next : (s : State) (start : ℕ) → Resends s start → place_of s.sending start < length s.sending.queue.bytes
    → resend_of s.sending (text_limit s) s.sending.resend
    ≡ (if nat_lt (from_now s.sending start) s.sending.snd_nxt then Some (Resend (from_now s.sending start) (count_now s start)) else None)
unfolding from_now count_now
text-next s start r inside = next-resent s start r ∙ ap (resent_run s.sending _ _) (unmarked-run s.sending.queue (place_of s.sending start) r.unmarked inside)

fin-next : (s : State) (start : ℕ) → Resends s start → length s.sending.queue.bytes ≤ place_of s.sending start
    → resend_of s.sending (text_limit s) s.sending.resend
    ≡ (if nat_lt (end_of_text s.sending) s.sending.snd_nxt && nat_le start (end_of_text s.sending) then Some (ResentFin (end_of_text s.sending)) else None)
fin-next s start r past =
    let from : max start s.sending.snd_una ≡ start = omega (arith, r.behind) in
    next-resent s start r ∙ ap (resent_run s.sending _ _) (no-run s.sending.queue (place_of s.sending start) r.unmarked past) ∙ rw from refl

-- flights that are kept
pub kept : (d : Sending) → KeepsFlight d d
kept d = assumption

pub flight-kept : (d e : Sending) (position : ℕ) → KeepsFlight d e → IsInFlight d position → IsInFlight e position
flight-kept d e position keeps flight = omega (arith, ap length keeps.queued, keeps, flight)

-- one emission
pub emission : (s : State) (due : Due) → due_of s ≡ Some due → after_emission s ≡ state_after s due
unfolding after_emission
emission s due e = rw e refl

-- ONE EMISSION of what is sent again covers what is in flight from its start on, up to where the next begins
pub record Resent (s : State) (start : ℕ) : Type 0 where
  pub due : Due
  pub is_due : due_of s ≡ Some due
  pub next : ℕ
  pub more : start < next
  pub most : next ≤ s.sending.snd_nxt
  -- two bytes of text in flight go out together
  pub wide : s.sending.released < start → start + 2 ≤ end_of_text s.sending → start + 2 ≤ s.sending.snd_nxt → 2 ≤ text_limit s → start + 2 ≤ next
  pub covers : (position : ℕ) → IsInFlight s.sending position → start ≤ position → position < next → CoversNext s position
  pub keeps : KeepsFlight s.sending (after_emission s).sending
  pub resends : Resends (after_emission s) next

-- or there is none, and nothing is in flight from its start on
pub record IsPast (s : State) (start : ℕ) : Type 0 where
  pub none : resend_of s.sending (text_limit s) s.sending.resend ≡ None
  pub past : (position : ℕ) → IsInFlight s.sending position → start ≤ position → ⊥

due-resent : (s : State) (sent : Sent) → MaySend s → resend_of s.sending (text_limit s) s.sending.resend ≡ Some sent → due_of s ≡ Some (Text sent)
unfolding due_of
due-resent s sent may e = rw (may.reset, may.syn, may.phase, e) refl

emission-resends : (s : State) (start next : ℕ) (due : Due) → Resends s start → due_of s ≡ Some due
    → resend_after s.sending due ≡ range_after next s.sending.resend → pending_after s.receiving.opened s.pending due ≡ record s.pending { ack = false }
    → end_of s.sending due ≤ s.sending.snd_nxt → start ≤ next → KeepsFlight s.sending (after_emission s).sending × Resends (after_emission s) next
emission-resends s start next due r e rest pending most ahead =
    let same : max s.sending.snd_nxt (end_of s.sending due) ≡ s.sending.snd_nxt = omega (arith, most) in
    rw (emission s due e) (
      assumption,
      record {
        may = assumption (r.may, ap (λ (o : Pending). o.reset) pending ∙ r.may.reset, ap (λ (o : Pending). o.syn) pending ∙ r.may.syn);
        range = rest ∙ rw (r.range, same) refl;
        unmarked = r.unmarked;
        behind = omega (arith, ahead, r.behind);
      },
    )

text-resent : (s : State) (start : ℕ) → Resends s start → place_of s.sending start < length s.sending.queue.bytes
    → from_now s.sending start < s.sending.snd_nxt → Resent s start
unfolding segment_of from_now count_now
text-resent s start r inside sent =
    let d = s.sending in
    let from = from_now d start in
    let count = count_now s start in
    let test : nat_lt from d.snd_nxt ≡ true = grind (arith, nat_tests, sent) in
    let due = due-resent s (Resend from count) r.may (text-next s start r inside ∙ rw test refl) in
    let most : from + count ≤ d.snd_nxt = omega (arith, sent) in
    let after = emission-resends s start (from + count) (Text (Resend from count)) r due refl refl most (omega arith) in
    record {
      due = Text (Resend from count);
      is_due = due;
      next = from + count;
      more = omega (arith, r.may.limit, inside, sent);
      wide = λ queued text flight limit. omega (arith, queued, text, flight, limit);
      most = most;
      covers = λ position flight begins ends. covering s (Text (Resend from count)) position
          (record { is_due = due; form = refl; to = refl; inside = omega arith }) (omega (arith, begins, flight.queued)) (omega (arith, ends));
      keeps = after.0;
      resends = after.1;
    }

fin-resent : (s : State) (start : ℕ) → Resends s start → length s.sending.queue.bytes ≤ place_of s.sending start
    → end_of_text s.sending < s.sending.snd_nxt → start ≤ end_of_text s.sending → Resent s start
unfolding segment_of
fin-resent s start r past sent below =
    let last = end_of_text s.sending in
    let turn : (nat_lt last s.sending.snd_nxt && nat_le start last) ≡ true =
    and_from (nat_lt last s.sending.snd_nxt) (nat_le start last) (grind (arith, nat_tests, sent)) (grind (arith, nat_tests, below)) in
    let due = due-resent s (ResentFin last) r.may (fin-next s start r past ∙ rw turn refl) in
    let after = emission-resends s start (last + 1) (Text (ResentFin last)) r due refl refl (omega (arith, sent)) (omega (arith, below)) in
    record {
      due = Text (ResentFin last);
      is_due = due;
      next = last + 1;
      more = omega (arith, below);
      wide = λ queued text flight limit. absurd (omega (arith, past, queued, text));
      most = omega (arith, sent);
      covers = λ position flight begins ends. covering s (Text (ResentFin last)) position
          (record { is_due = due; form = refl; to = refl; inside = omega arith }) (omega (arith, past, begins, flight)) (omega (arith, ends));
      keeps = after.0;
      resends = after.1;
    }

-- one of the two is the case
pub resent : (s : State) (start : ℕ) → Resends s start → IsPast s start ⊎ Resent s start
unfolding from_now
resent s start r =
    let d = s.sending in
    elim (cases_lt (place_of d start) (length d.queue.bytes)) [
      | inl inside ↦ elim (cases_lt (from_now d start) d.snd_nxt) [
        | inl sent ↦ inr (text-resent s start r inside sent)
        | inr done ↦
            let test : nat_lt (from_now d start) d.snd_nxt ≡ false = grind (arith, nat_tests, done) in
            inl (record { none = text-next s start r inside ∙ rw test refl; past = λ position flight begins. absurd (omega (arith, done, begins, flight)) })
      ]
      | inr past ↦ elim (cases_Bool (nat_lt (end_of_text d) d.snd_nxt && nat_le start (end_of_text d))) [
        | inl turn ↦ inr (fin-resent s start r past (grind (arith, nat_tests, turn)) (grind (arith, nat_tests, turn)))
        | inr test ↦
            let none = fin-next s start r past ∙ rw test refl in
            inl (record { none = none; past = λ position flight begins. absurd (grind (arith, nat_tests, test, begins, flight)) })
      ]
    ]

-- what so many emissions keep
keeps-none : (s : State) (n : ℕ) → n ≤ 0 → KeepsFlight s.sending (after_emissions n s).sending
keeps-none s zero h = kept s.sending
keeps-none s (suc n) h = absurd (omega (arith, h))

keeps-later : (s : State) (most : ℕ) → KeepsFlight s.sending (after_emission s).sending
    → ((n : ℕ) → n ≤ most → KeepsFlight (after_emission s).sending (after_emissions n (after_emission s)).sending)
    → (n : ℕ) → n ≤ suc most → KeepsFlight s.sending (after_emissions n s).sending
keeps-later s most keeps rest zero h = kept s.sending
keeps-later s most keeps rest (suc n) h =
    let two = rest n (omega (arith, h)) in
    record { snd_una = two.snd_una ∙ keeps.snd_una; snd_nxt = two.snd_nxt ∙ keeps.snd_nxt; released = two.released ∙ keeps.released; queued = two.queued ∙ keeps.queued }

-- a position in flight is covered, or a later emission does
sent-again : (fuel : ℕ) (s : State) (start position : ℕ) → Resends s start → IsInFlight s.sending position → start ≤ position → position < start + fuel
    → GoesOut s position
sent-again zero s start position r flight begins near = absurd (omega (arith, begins, near))
sent-again (suc fuel) s start position r flight begins near =
    elim (resent s start r) [
      | inl done ↦ absurd (done.past position flight begins)
      | inr out ↦ elim (cases_lt position out.next) [
        | inl ends ↦ record {
          count = 0;
          covers = out.covers position flight begins ends;
          keeps = keeps-later s 0 out.keeps (keeps-none (after_emission s));
        }
        | inr beyond ↦
            let rest = sent-again fuel (after_emission s) out.next position out.resends (flight-kept _ _ position out.keeps flight) beyond
            (omega (arith, near, out.more)) in
            record { count = suc rest.count; covers = rest.covers; keeps = λ n h. keeps-later s (rest.count + 1) out.keeps rest.keeps n (omega (arith, h)) }
      ]
    ]

-- THE TIMEOUT
pub sends-synchronized : (phase : Phase) → sends_text phase ≡ true → is_synchronized phase ≡ true
sends-synchronized phase e = grind (arith, e)

-- from ESTABLISHED on no SYN is pending
pub no-handshake : (phase : Phase) → is_synchronized phase ≡ true → is_handshake phase ≡ false
no-handshake phase e = grind (arith, e)

pub no-syn : (s : State) → is_synchronized s.phase ≡ true → s.pending.syn ≡ false → (after_retransmit s).pending.syn ≡ false
unfolding after_retransmit
no-syn s phase none = rw (none, no-handshake s.phase phase) refl

pub may-after_retransmit : (s : State) → MaySend s → MaySend (after_retransmit s)
unfolding after_retransmit
may-after_retransmit s may = assumption (no-syn s (sends-synchronized s.phase may.phase) may.syn)

resends-all : (s : State) → MaySend s → s.sending.snd_una < s.sending.snd_nxt → (after_retransmit s).sending ≡ with_all_resent s.sending
unfolding after_retransmit
resends-all s may sent =
    let flight : (sends_text s.phase && nat_lt s.sending.snd_una s.sending.snd_nxt) ≡ true =
    and_from (sends_text s.phase) (nat_lt s.sending.snd_una s.sending.snd_nxt) may.phase (grind (arith, nat_tests, sent)) in
    rw flight refl

pub timeout-keeps : (s : State) → MaySend s → s.sending.snd_una < s.sending.snd_nxt → KeepsFlight s.sending (after_retransmit s).sending
unfolding without_marks
timeout-keeps s may sent = rw (resends-all s may sent) assumption

pub timeout-resends : (s : State) → MaySend s → s.sending.snd_una < s.sending.snd_nxt → Resends (after_retransmit s) s.sending.snd_una
unfolding without_marks
timeout-resends s may sent =
    let all = resends-all s may sent in
    record { may = may-after_retransmit s may; range = rw all refl; unmarked = rw all refl; behind = rw all (omega arith) }

pub again_lem : FlightGoesOutAgain
again_lem s position may flight =
    let sent : s.sending.snd_una < s.sending.snd_nxt = omega (arith, flight.unacknowledged, flight.sent) in
    let keeps = timeout-keeps s may sent in (
      keeps,
      sent-again (suc position) (after_retransmit s) s.sending.snd_una position (timeout-resends s may sent)
          (flight-kept s.sending (after_retransmit s).sending position keeps flight) flight.unacknowledged (omega arith),
    )

-- ---- What is left to be sent again comes to an end: each emission brings the range's start on, up to SND.NXT or past the FIN.
-- an end that has nothing to send again
pub record IsRested (s : State) : Type 0 where
  pub phase : is_synchronized s.phase ≡ true
  pub reset : s.pending.reset ≡ None
  pub syn : s.pending.syn ≡ false
  pub none : sends_text s.phase ≡ true → resend_of s.sending (text_limit s) s.sending.resend ≡ None

-- and one that comes there by emissions
pub record Exhausts (s : State) : Type 0 where
  pub count : ℕ
  pub keeps : (n : ℕ) → n ≤ count → KeepsFlight s.sending (after_emissions n s).sending
  pub rested : IsRested (after_emissions count s)

pub at-rest : (s : State) → IsRested s → Exhausts s
at-rest s rested = record { count = 0; keeps = keeps-none s; rested = rested }

rests : (s : State) (start : ℕ) → Resends s start → IsPast s start → Exhausts s
rests s start r done =
    at-rest s (record { phase = sends-synchronized s.phase r.may.phase; reset = r.may.reset; syn = r.may.syn; none = λ _. done.none })

pub exhausts : (fuel : ℕ) (s : State) (start : ℕ) → Resends s start → s.sending.snd_nxt < start + fuel → Exhausts s
exhausts zero s start r near =
    elim (resent s start r) [ inl done ↦ rests s start r done | inr out ↦ absurd (omega (arith, near, out.more, out.most)) ]
exhausts (suc fuel) s start r near =
    elim (resent s start r) [
      | inl done ↦ rests s start r done
      | inr out ↦
          let rest = exhausts fuel (after_emission s) out.next out.resends (omega (arith, near, out.keeps.snd_nxt, out.more)) in
          record { count = suc rest.count; keeps = keeps-later s rest.count out.keeps rest.keeps; rested = rest.rested }
    ]
