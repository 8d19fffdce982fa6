-- What the driver's rules say of an end in a steady world: behind an expiry what is due goes out, and a pending acknowledgement at SND.NXT.
use Rattle.tcp_replay.proofs.Words.{◌-◌, ◌<◌, ◌&&◌, ◌||◌, ack_alone, ack_due, Acknowledgement, after_retransmit, and_parts, ap, arith, Bool, cases_Bool, cond_both, Due, due_of, false}
use Rattle.tcp_replay.proofs.Words.{false≢true, if◌then◌else◌, IfSome, inl, inr, is_some, nat_lt, nat_tests, None, Option, option_map, option_or, PartyState, Range, refl, reset_due, sends_text, Some}
use Rattle.tcp_replay.proofs.Words.{start_of, State, subst, sym, syn_due, Text, text_due, text_limit, true, ℕ, ◌∙◌, ◌≡◌, ◌≤◌}
use Rattle.tcp_driver.specs.declared.machine.Sent.{Sent}
use Rattle.tcp_driver.specs.Driver.{holds_by, is_past, waits}
use Rattle.tcp_conn.specs.Transmission.{transmit_ack_alone, transmit_due, transmit_of}
use Rattle.tcp_conn.specs.Timers.{sends_again}
use Rattle.tcp_end.specs.Wired as wired
use Rattle.tcp_replay.proofs.Lemmas.{again-kept, due-kept, end-synchronized, IsAgain, none-some, or-none, some-due}
use Rattle.tcp_replay.proofs.one_end.Phases.{sends_text-synchronized}
use Rattle.tcp_progress.proofs.Words.{IsLive, IsSteadyPair, KeepsFlight, MaySend}
use Rattle.tcp_progress.proofs.Lemmas.{has-room, in-flight, no-handshake, no-syn-pending, sends-synchronized}
use Rattle.tcp_progress.proofs.laws.FlightSentAgain.{flight-kept, resent, timeout-keeps, timeout-resends}
use Rattle.tcp_ends.specs.Pair.{end_of, party_in}
use Rattle.tcp_ends.specs.Quiet.{ExpiredGoesOut, PendingGoesAtNext}

-- what the driver asks of the end
abbrev due_in : State → Option Sent
due_in s = option_map wired.sent_by (transmit_due s)

abbrev alone_in : State → Option Sent
alone_in s = option_map wired.sent_by (transmit_ack_alone s)

abbrev pub holds_in : State → ℕ → Bool
holds_in s window = holds_by (due_in s) s.sending.snd_una (s.sending.snd_nxt - s.sending.snd_una) (is_some (alone_in s)) window

-- ---- THE TIMEOUT leaves what goes out first at SND.UNA at most. Where nothing is in flight, all that may be due is there
idle-first : (s : State) → s.pending.ack ≡ false → (sends_text s.phase ≡ true → s.sending.snd_nxt ≤ s.sending.snd_una)
    → IfSome s.sending.resend (λ range. range.end ≤ s.sending.snd_nxt) → IfSome (due_of s) (λ due. start_of s.sending due ≤ s.sending.snd_una)
idle-first s ack idle range =
    let d = s.sending in
    let P : Due → Type 0 = λ due. start_of d due ≤ d.snd_una in
    let ends : (r : Range ℕ) (start : ℕ) → IsAgain d r start → r.end ≤ d.snd_nxt =
    λ r start again. subst (λ (o : Option (Range ℕ)). IfSome o (λ r. r.end ≤ d.snd_nxt)) again.is range in
    due-kept s P (record {
      resets = λ _ _. omega arith;
      syn = λ _. omega arith;
      acks = λ has_ack. absurd (false≢true (sym ack ∙ has_ack));
      again = λ e. again-kept d (text_limit s) (λ sent. P (Text sent)) (record {
        text = λ r start count again _ _ _. absurd (omega (arith, ends r start again, again.ahead, again.inside, idle e));
        fin = λ r again. absurd (omega (arith, ends r _ again, again.ahead, again.inside, idle e));
      });
      new_text = λ e _. idle e;
      fin = λ e _ _. idle e;
    })

rested : (s : State) → sends_again s ≡ false → (after_retransmit s).sending ≡ s.sending
unfolding after_retransmit
rested s none = rw none refl

ack-after : (s : State) → (after_retransmit s).pending.ack ≡ s.pending.ack
unfolding after_retransmit
ack-after s = refl

phase-after : (s : State) → (after_retransmit s).phase ≡ s.phase
unfolding after_retransmit
phase-after s = refl

-- what is in flight goes out from there on
flight-first : (x y : PartyState) → IsSteadyPair x y → x.endpoint.pending.reset ≡ None → sends_text x.endpoint.phase ≡ true
    → x.endpoint.sending.snd_una < x.endpoint.sending.snd_nxt
    → IfSome (due_of (after_retransmit x.endpoint)) (λ due. start_of (after_retransmit x.endpoint).sending due ≤ (after_retransmit x.endpoint).sending.snd_una)
flight-first x y h reset sends flight =
    let s = x.endpoint in
    let d = s.sending in
    let t = after_retransmit s in
    let at = end-synchronized s (sends_text-synchronized s.phase sends) h.pair.there.alone.progress in
    let live : IsLive x = record { opened = at.1.is_opened; goes_on = at.0 } in
    let past = no-handshake s.phase (sends-synchronized s.phase sends) in
    let may : MaySend s = record { phase = sends; reset = reset; syn = no-syn-pending x y h past; limit = has-room x y h } in
    let keeps : KeepsFlight d t.sending = timeout-keeps s may flight in
    let flying = flight-kept d t.sending d.snd_una keeps (in-flight x y d.snd_una h live sends (omega arith) flight) in
    elim (resent t d.snd_una (timeout-resends s may flight)) [
      | inl none ↦ absurd (none.past d.snd_una flying (omega arith))
      | inr out ↦
          let covers = out.covers d.snd_una flying (omega arith) out.more in
          let least : start_of t.sending covers.due ≤ t.sending.snd_una = omega (arith, covers.starts, covers.begins, keeps.snd_una) in
          subst (λ (o : Option Due). IfSome o (λ due. start_of t.sending due ≤ t.sending.snd_una)) (sym covers.is_due) least
    ]

first : (x y : PartyState) → IsSteadyPair x y → x.endpoint.pending.reset ≡ None → x.endpoint.pending.ack ≡ false
    → IfSome (due_of (after_retransmit x.endpoint)) (λ due. start_of (after_retransmit x.endpoint).sending due ≤ (after_retransmit x.endpoint).sending.snd_una)
first x y h reset ack =
    let s = x.endpoint in
    let t = after_retransmit s in
    elim (cases_Bool (sends_again s)) [
      | inl again ↦
          let parts = and_parts (sends_text s.phase) (nat_lt s.sending.snd_una s.sending.snd_nxt) again in
          flight-first x y h reset parts.0 (grind (arith, nat_tests, parts.1))
      | inr none ↦
          let same = rested s none in
          let idle : sends_text s.phase ≡ true → s.sending.snd_nxt ≤ s.sending.snd_una = λ e. grind (arith, nat_tests, none, e) in
          idle-first t (ack-after s ∙ ack) (rw (same, phase-after s) idle) (rw same h.there.range)
    ]

-- so the window doesn't hold it, and no acknowledgement goes before it
starts-by : (s : State) (o : Option Due) (most : ℕ) → IfSome o (λ due. start_of s.sending due ≤ most)
    → IfSome (option_map wired.sent_by (option_map (transmit_of s) o)) (λ sent. sent.start ≤ most)
starts-by s None most h = tt
starts-by s (Some due) most h = h

not-waiting : (o : Option Sent) (una window : ℕ) → IfSome o (λ sent. sent.start ≤ una) → waits o una window ≡ false
not-waiting None una window h = refl
not-waiting (Some sent) una window h = let test : nat_lt una sent.start ≡ false = grind (arith, nat_tests, h) in rw test refl

none-alone : (s : State) → s.pending.ack ≡ false → ack_alone s ≡ None
unfolding ack_alone
none-alone s e =
    cond_both (is_some s.pending.reset || s.pending.syn) None (ack_due s.pending) (λ (o : Option Due). o ≡ None) (λ _. refl)
    (λ _. ap (λ (b : Bool). if b then Some Acknowledgement else None) e)

neither : (waiting answers back : Bool) → waiting ≡ false → answers ≡ false → (waiting || (answers && back)) ≡ false
neither waiting answers back e f = rw (e, f) refl

pub free-of : (s : State) (window : ℕ) → ack_alone s ≡ None → IfSome (due_of s) (λ due. start_of s.sending due ≤ s.sending.snd_una)
    → holds_in s window ≡ false
unfolding transmit_due transmit_ack_alone
free-of s window none least =
    let alone : is_some (alone_in s) ≡ false = ap (λ (o : Option Due). is_some (option_map wired.sent_by (option_map (transmit_of s) o))) none in
    let free : waits (due_in s) s.sending.snd_una window ≡ false =
    not-waiting (due_in s) s.sending.snd_una window (starts-by s (due_of s) s.sending.snd_una least) in
    neither _ _ _ free alone

goes : (x y : PartyState) (window : ℕ) → IsSteadyPair x y → x.endpoint.pending.reset ≡ None → x.endpoint.pending.ack ≡ false
    → holds_in (after_retransmit x.endpoint) window ≡ false
goes x y window h reset ack =
    let t = after_retransmit x.endpoint in
    free-of t window (none-alone t (ack-after x.endpoint ∙ ack)) (first x y h reset ack)

pub goes_lem : (H : Type 0) → ExpiredGoesOut H
goes_lem H m n window h reset ack = goes (party_in m) (party_in n) window h reset ack

-- ---- A PENDING ACKNOWLEDGEMENT. What is due begins between SND.UNA and SND.NXT
ahead : (s : State) → s.pending.reset ≡ None → s.pending.syn ≡ false → s.sending.snd_una ≤ s.sending.snd_nxt
    → IfSome s.sending.resend (λ range. range.end ≤ s.sending.snd_nxt)
    → IfSome (due_of s) (λ due. (s.sending.snd_una ≤ start_of s.sending due) × (start_of s.sending due ≤ s.sending.snd_nxt))
ahead s reset syn order range =
    let d = s.sending in
    let P : Due → Type 0 = λ due. (d.snd_una ≤ start_of d due) × (start_of d due ≤ d.snd_nxt) in
    let ends : (r : Range ℕ) (start : ℕ) → IsAgain d r start → r.end ≤ d.snd_nxt =
    λ r start again. subst (λ (o : Option (Range ℕ)). IfSome o (λ r. r.end ≤ d.snd_nxt)) again.is range in
    due-kept s P (record {
      resets = λ waiting e. absurd (none-some waiting (sym reset ∙ e));
      syn = λ e. absurd (false≢true (sym syn ∙ e));
      acks = λ _. (order, omega arith);
      again = λ e. again-kept d (text_limit s) (λ sent. P (Text sent)) (record {
        text = λ r start count again _ _ _. (omega (arith, again.ahead), omega (arith, ends r start again, again.inside));
        fin = λ r again. (omega (arith, again.ahead), omega (arith, ends r _ again, again.inside));
      });
      new_text = λ e _. (order, omega arith);
      fin = λ e _ _. (order, omega arith);
    })

-- something is due
never-idle : (s : State) → s.pending.ack ≡ true → due_of s ≡ None → ⊥
unfolding due_of
never-idle s has_ack e =
    let unreset = (or-none (reset_due s.pending.reset) (option_or (syn_due s.pending) (option_or (text_due s) (ack_due s.pending))) e).1 in
    let unopened = (or-none (syn_due s.pending) (option_or (text_due s) (ack_due s.pending)) unreset).1 in
    let last = (or-none (text_due s) (ack_due s.pending) unopened).1 in
    none-some Acknowledgement (sym last ∙ ap (λ (b : Bool). if b then Some Acknowledgement else None) has_ack)

alone-there : (s : State) → s.pending.reset ≡ None → s.pending.syn ≡ false → s.pending.ack ≡ true → ack_alone s ≡ Some Acknowledgement
unfolding ack_alone
alone-there s reset syn has_ack = rw (reset, syn, has_ack) refl

record StartsAt (o : Option Sent) (position : ℕ) : Type 0 where
  sent : Sent
  is : o ≡ Some sent
  at : sent.start ≡ position

or-second : (a b : Bool) → (a || b) ≡ false → b ≡ false
or-second true b e = absurd (cc)
or-second false b e = e

-- what goes back gives way to the acknowledgement
picked : (una next window : ℕ) (due alone : Sent) → alone.start ≡ next → una ≤ due.start → due.start ≤ next
    → StartsAt (if holds_by (Some due) una (next - una) true window then Some alone else Some due) next
picked una next window due alone at least most =
    elim (cases_Bool (holds_by (Some due) una (next - una) true window)) [
      | inl held ↦ record { sent = alone; is = rw held refl; at = at }
      | inr free ↦
          let back : nat_lt (due.start - una) (next - una) ≡ false = or-second (is_past una window due) _ free in
          let beyond : next - una ≤ due.start - una = grind (arith, nat_tests, back) in
          record { sent = due; is = rw free refl; at = omega (arith, beyond, least, most) }
    ]

next-sent : (s : State) (window : ℕ) (due : Due) → ack_alone s ≡ Some Acknowledgement → due_of s ≡ Some due
    → s.sending.snd_una ≤ start_of s.sending due → start_of s.sending due ≤ s.sending.snd_nxt
    → StartsAt (if holds_in s window then alone_in s else due_in s) s.sending.snd_nxt
unfolding transmit_due transmit_ack_alone
next-sent s window due e f least most =
    let una = s.sending.snd_una in
    let next = s.sending.snd_nxt in
    let as_sent : Option Due → Option Sent = λ o. option_map wired.sent_by (option_map (transmit_of s) o) in
    let Says : Option Due → Option Due → Type 0 =
    λ d a. StartsAt (if holds_by (as_sent d) una (next - una) (is_some (as_sent a)) window then as_sent a else as_sent d) next in
    let both : Says (Some due) (Some Acknowledgement) =
    picked una next window (wired.sent_by (transmit_of s due)) (wired.sent_by (transmit_of s Acknowledgement)) refl least most in
    subst (λ (d : Option Due). Says d (ack_alone s)) (sym f) (subst (λ (a : Option Due). Says (Some due) a) (sym e) both)

pub next_lem : (H : Type 0) → PendingGoesAtNext H
next_lem H m n window h reset syn has_ack =
    let s = end_of m in
    let order = h.pair.there.alone.sends.order in
    elim (some-due (λ (due : Due). (s.sending.snd_una ≤ start_of s.sending due) × (start_of s.sending due ≤ s.sending.snd_nxt)) (due_of s)
    (ahead s reset syn order h.there.range)) [
      | inl none ↦ absurd (never-idle s has_ack none)
      | inr some ↦
          let out = next-sent s window some.0 (alone-there s reset syn has_ack) some.1 some.2.0 some.2.1 in
          record { sent = out.sent; goes = out.is; at_next = out.at }
    ]
