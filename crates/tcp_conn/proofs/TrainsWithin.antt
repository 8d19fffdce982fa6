-- What goes out as one within a window are so many emissions within it: none of its segments waits.
use Rattle.std.proofs.Common.{◌≡◌, ℕ, zero, suc, ◌+◌, ◌-◌, ◌*◌, ◌/◌, ◌<◌, ◌≤◌, inl, inr, min, max, mul-le-mul_right, refl, sym, ◌∙◌, ap, subst, arith}
use Rattle.std.proofs.Common.{◌∷◌, map}
use Rattle.std.proofs.lemmas.Bool.{cases_lt}
use Rattle.std.proofs.lemmas.Bool.Decides.{nat_tests}
use Rattle.std.specs.Prelude.{Bool, true, false, ◌&&◌, ◌||◌, if◌then◌else◌, nat_le, nat_lt, Option, Some, None, is_some, option_map}
use Rattle.tcp_wire.specs.Wire.{encoded_bytes}
use Rattle.tcp_halves.specs.declared.sent.Sent.TheVariants.{NewText, Resend, Fin, ResentFin}
use Rattle.tcp_conn.specs.declared.emit.due.Due.{Due}
use Rattle.tcp_conn.specs.declared.emit.due.Due.TheVariants.{Reset, Syn, Text, Acknowledgement}
use Rattle.tcp_conn.specs.State.{State}
use Rattle.tcp_conn.specs.Phase.{is_handshake, sends_text}
use Rattle.tcp_conn.specs.Due.{ack_alone, count_of, due_of, end_of, start_of, text_limit}
use Rattle.tcp_conn.specs.Emission.{state_after}
use Rattle.tcp_conn.specs.Forms.{segment_of}
use Rattle.tcp_conn.specs.Timers.{needs_probe, timers_wanted}
use Rattle.tcp_conn.specs.Train.{as_one, count_for, count_together, count_with_room, cut, emissions, segments_of_due, text_allowed}
use Rattle.tcp_conn.specs.Train.{after_emissions}
use Rattle.tcp_conn.specs.TrainWithin.{AreInTurn, IsAsBefore, after_emissions_within, count_of_some, count_within, emissions_within, most_within, train_segments_within, window_left}
use Rattle.tcp_conn.specs.Transmission.{transmit_of}
use Rattle.tcp_conn.specs.Within.{after_within, due_or_ack, due_within, transmit_within, waits}
use Rattle.tcp_conn.specs.Writing.{bytes_of, destination_of}
use Rattle.tcp_conn.proofs.Trains.{IsNewText, IsRun, after-first, after-is, alone, begins, emission-is, first-due, goes-on, is_new_text, more-due, new-after, new-cut, new-of, run-length, text-short}
use Rattle.tcp_conn.proofs.Together.{all-but-one, all-full, fit, whole-first}

-- NEW TEXT goes out only where it is what is due
not-alone : (s : State) (start each : ℕ) → ack_alone s ≡ Some (Text (NewText start each)) → ⊥
unfolding ack_alone
not-alone s start each e = by (is_some s.pending.reset || s.pending.syn) s.pending.ack e where
  by : (b pending : Bool) → (if b then None else (if pending then Some Acknowledgement else None)) ≡ Some (Text (NewText start each)) → ⊥
  by true pending e = cc
  by false true e = cc
  by false false e = cc

unless-held : (s : State) (b : Bool) (due : Due) (start each : ℕ) → (if b then ack_alone s else Some due) ≡ Some (Text (NewText start each))
    → Some due ≡ Some (Text (NewText start each))
unless-held s true due start each e = absurd (not-alone s start each e)
unless-held s false due start each e = e

if-due : (s : State) (window start each : ℕ) (o : Option Due) → due_or_ack s window o ≡ Some (Text (NewText start each)) → o ≡ Some (Text (NewText start each))
if-due s window start each None e = absurd (cc)
if-due s window start each (Some due) e = unless-held s (waits s window due) due start each e

pub new_text_is_due : (s : State) (window start each : ℕ) → due_within s window ≡ Some (Text (NewText start each)) → due_of s ≡ Some (Text (NewText start each))
unfolding due_within
new_text_is_due s window start each e = if-due s window start each (due_of s) e

-- ONE EMISSION within the window
within-due : (s : State) (window : ℕ) (due : Due) → due_of s ≡ Some due → waits s window due ≡ false → due_within s window ≡ Some due
unfolding due_within
within-due s window due e free = ap (due_or_ack s window) e ∙ ap (λ (b : Bool). if b then ack_alone s else Some due) free

emission-within-is : (s : State) (window more : ℕ) (due : Due) → due_within s window ≡ Some due
    → emissions_within (suc more) window s ≡ bytes_of s due ∷ emissions_within more window (state_after s due)
unfolding emissions_within after_within
emission-within-is s window more due e = rw e refl

after-within-is : (s : State) (window more : ℕ) (due : Due) → due_within s window ≡ Some due
    → after_emissions_within (suc more) window s ≡ after_emissions_within more window (state_after s due)
unfolding after_emissions_within after_within
after-within-is s window more due e = rw e refl

after-within-one : (s : State) (window : ℕ) (due : Due) → due_within s window ≡ Some due → after_within s window ≡ state_after s due
unfolding after_within
after-within-one s window due e = rw e refl

-- A RUN FITS that ends within the window, and none of its segments waits
abbrev Fits : State → ℕ → ℕ → Type 0
Fits s window n = s.sending.snd_nxt - s.sending.snd_una + n ≤ window

not-past : (una nxt window n k : ℕ) → nxt - una + n ≤ window → k ≤ n → nat_lt (window - (nxt - una)) (nxt + k - nxt) ≡ false
not-past una nxt window n k fits short = grind (arith, nat_tests, fits, short)

not-back : (n : ℕ) → nat_lt n n ≡ false
not-back n = grind (arith, nat_tests)

neither : (a b c d : Bool) → b ≡ false → d ≡ false → ((a && b) || (c && d)) ≡ false
neither true true c d e f = absurd (cc)
neither true false true true e f = absurd (cc)
neither true false true false e f = refl
neither true false false d e f = refl
neither false b true true e f = absurd (cc)
neither false b true false e f = refl
neither false b false d e f = refl

goes : (s : State) (window n k : ℕ) → Fits s window n → k ≤ n → waits s window (new-of s k) ≡ false
goes s window n k fits short =
    let una = s.sending.snd_una in
    let nxt = s.sending.snd_nxt in
    neither (nat_lt una nxt) (nat_lt (window - (nxt - una)) (nxt + k - nxt)) (is_some (ack_alone s)) (nat_lt (nxt - una) (nxt - una))
    (not-past una nxt window n k fits short) (not-back (nxt - una))

first-within : (s : State) (window n : ℕ) → IsRun s 0 n → Fits s window n → due_within s window ≡ Some (new-of s n)
first-within s window n h fits = within-due s window (new-of s n) (first-due s n h) (goes s window n n fits (omega arith))

more-within : (s : State) (window more n : ℕ) → IsRun s (suc more) n → Fits s window n → due_within s window ≡ Some (new-of s (text_limit s))
more-within s window more n h fits =
    within-due s window (new-of s (text_limit s)) (more-due s more n h) (goes s window n (text_limit s) fits (omega (arith, h.least)))

fits-on : (s : State) (window more n : ℕ) → IsRun s (suc more) n → Fits s window n → Fits (after-first s) window (n - text_limit s)
fits-on s window more n h fits = omega (arith, h.least, fits)

run-within : (more : ℕ) (s : State) (window n : ℕ) → IsRun s more n → Fits s window n → emissions_within (suc more) window s ≡ emissions (suc more) s
unfolding emissions emissions_within
run-within zero s window n h fits = emission-within-is s window 0 (new-of s n) (first-within s window n h fits) ∙ sym (emission-is s 0 (new-of s n) (first-due s n h))
run-within (suc more) s window n h fits =
    let limit = text_limit s in
    emission-within-is s window (suc more) (new-of s limit) (more-within s window more n h fits)
    ∙ ap (λ others. bytes_of s (new-of s limit) ∷ others) (run-within more (after-first s) window (n - limit) (goes-on s more n h) (fits-on s window more n h fits))
    ∙ sym (emission-is s (suc more) (new-of s limit) (more-due s more n h))

run-after-within : (more : ℕ) (s : State) (window n : ℕ) → IsRun s more n → Fits s window n → after_emissions_within (suc more) window s ≡ after_emissions (suc more) s
unfolding after_emissions after_emissions_within
run-after-within zero s window n h fits = after-within-is s window 0 (new-of s n) (first-within s window n h fits) ∙ sym (after-is s 0 (new-of s n) (first-due s n h))
run-after-within (suc more) s window n h fits =
    let limit = text_limit s in
    after-within-is s window (suc more) (new-of s limit) (more-within s window more n h fits)
    ∙ run-after-within more (after-first s) window (n - limit) (goes-on s more n h) (fits-on s window more n h fits)
    ∙ sym (after-is s (suc more) (new-of s limit) (more-due s more n h))

-- SO MANY AS END WITHIN IT fit
fits-by : (s : State) (window most room each : ℕ) (b : Bool) (count : ℕ) → nat_le (text_allowed s.sending) (window_left s.sending window) ≡ b → 0 < each
    → count ≡ max 1 (min (if b then most else min most (window_left s.sending window / each)) (min (count_with_room s room each) (count_for (text_allowed s.sending) each)))
    → 1 < count → Fits s window (run-length s each count)
fits-by s window most room each true count test some is several =
    let allowed = text_allowed s.sending in
    let all : allowed ≤ window_left s.sending window = grind (arith, nat_tests, test) in
    let less = all-full count allowed each some (omega (arith, is, several)) (omega (arith, several)) in
    let second : each ≤ (count - 1) * each = all-but-one count each several in
    omega (arith, all, less, second)
fits-by s window most room each false count test some is several =
    let left = window_left s.sending window in
    let whole : count * each ≤ left = fit count left each (omega (arith, is, several)) in
    let first : each ≤ count * each = whole-first count each several in
    omega (arith, whole, first, some)

-- WHAT THE DEVICE MAKES of it is what so many emissions within the window write, and the state is the one after them
abbrev IsCut : State → ℕ → ℕ → Due → Type 0
IsCut s window count due =
    (segments_of_due s count (Some due) ≡ emissions_within count window s) × (state_after s (as_one s count due) ≡ after_emissions_within count window s)

-- one alone
lone-cut : (s : State) (window : ℕ) (due : Due) → due_within s window ≡ Some due
    → map (encoded_bytes s.config.addr.0 (destination_of s due).addr.0) (cut (count_of due) (segment_of s due)) ≡ emissions_within 1 window s
unfolding emissions_within bytes_of
lone-cut s window due e =
    ap (map (encoded_bytes s.config.addr.0 (destination_of s due).addr.0)) (alone (count_of due) (segment_of s due) (text-short s due))
    ∙ sym (emission-within-is s window 0 due e)

lone-after : (s : State) (window : ℕ) (due : Due) → due_within s window ≡ Some due → state_after s due ≡ after_emissions_within 1 window s
unfolding after_emissions_within
lone-after s window due e = sym (after-within-is s window 0 due e)

one-as-one : (s : State) (start each : ℕ) → as_one s 1 (Text (NewText start each)) ≡ Text (NewText start each)
one-as-one s start each = let same : max each (min (1 * each) (text_allowed s.sending)) ≡ each = omega arith in ap (λ n. Text (NewText start n)) same

lone-text : (s : State) (window start each : ℕ) → due_within s window ≡ Some (Text (NewText start each)) → IsCut s window 1 (Text (NewText start each))
lone-text s window start each e =
    let due = Text (NewText start each) in (
      ap (λ d. map (encoded_bytes s.config.addr.0 s.peer.addr.0) (cut each (segment_of s d))) (one-as-one s start each) ∙ lone-cut s window due e,
      ap (state_after s) (one-as-one s start each) ∙ lone-after s window due e,
    )

-- several
some-text : (s : State) (window start each more : ℕ) → IsNewText s start each → suc more ≤ count_for (text_allowed s.sending) each
    → Fits s window (run-length s each (suc more)) → IsCut s window (suc more) (Text (NewText start each))
some-text s window start each more new few-enough fits =
    let run = (begins s start each more new (inr few-enough)).run in
    let n = run-length s each (suc more) in (
      new-cut s start each more new (inr few-enough) ∙ sym (run-within more s window n run fits),
      new-after s start each more new (inr few-enough) ∙ sym (run-after-within more s window n run fits),
    )

-- the number of them
abbrev number : State → ℕ → ℕ → ℕ → Due → ℕ
number s window most room due = count_together s (most_within s.sending window most due) room due

fits-number : (s : State) (window most room start each : ℕ) → 0 < each → 1 < number s window most room (Text (NewText start each))
    → Fits s window (run-length s each (number s window most room (Text (NewText start each))))
fits-number s window most room start each some several =
    fits-by s window most room each (nat_le (text_allowed s.sending) (window_left s.sending window)) (number s window most room (Text (NewText start each)))
    refl some refl several

text-is-cut : (s : State) (window most room start each : ℕ) → due_within s window ≡ Some (Text (NewText start each))
    → IsCut s window (number s window most room (Text (NewText start each))) (Text (NewText start each))
text-is-cut s window most room start each e =
    let due = Text (NewText start each) in
    let count = number s window most room due in
    let new = is_new_text s start each (new_text_is_due s window start each e) in
    elim (cases_lt count 2) [
      | inl one ↦ let is : 1 ≡ count = omega (arith, one) in subst (λ k. IsCut s window k due) is (lone-text s window start each e)
      | inr several ↦
          let whole : suc (count - 1) ≡ count = omega arith in
          let fits = fits-number s window most room start each new.some (omega (arith, several)) in
          subst (λ k. IsCut s window k due) whole
          (some-text s window start each (count - 1) new (omega (arith, several)) (subst (λ k. Fits s window (run-length s each k)) (sym whole) fits))
    ]

is-cut : (s : State) (window most room : ℕ) (due : Due) → due_within s window ≡ Some due → IsCut s window (number s window most room due) due
is-cut s window most room (Text (NewText start each)) e = text-is-cut s window most room start each e
is-cut s window most room Reset e = (lone-cut s window Reset e, lone-after s window Reset e)
is-cut s window most room Syn e = (lone-cut s window Syn e, lone-after s window Syn e)
is-cut s window most room (Text (Resend start count)) e = (lone-cut s window (Text (Resend start count)) e, lone-after s window (Text (Resend start count)) e)
is-cut s window most room (Text (Fin start)) e = (lone-cut s window (Text (Fin start)) e, lone-after s window (Text (Fin start)) e)
is-cut s window most room (Text (ResentFin start)) e = (lone-cut s window (Text (ResentFin start)) e, lone-after s window (Text (ResentFin start)) e)
is-cut s window most room Acknowledgement e = (lone-cut s window Acknowledgement e, lone-after s window Acknowledgement e)

pub train_is_cut_within : (s : State) (window most room : ℕ)
    → train_segments_within s window most room ≡ emissions_within (count_within s window most room) window s
unfolding train_segments_within count_within emissions_within
train_is_cut_within s window most room = of-due (due_within s window) refl where
  of-due : (o : Option Due) → due_within s window ≡ o → segments_of_due s (count_of_some s window most room o) o ≡ emissions_within (count_of_some s window most room o) window s
  of-due None e = refl
  of-due (Some due) e = (is-cut s window most room due e).0

pub after_train_within : (s : State) (window most room : ℕ) (due : Due) → due_within s window ≡ Some due
    → state_after s (as_one s (number s window most room due) due) ≡ after_emissions_within (number s window most room due) window s
after_train_within s window most room due e = (is-cut s window most room due e).1

-- where nothing may go out, nothing is emitted
pub none_emitted_within : (s : State) (window most room : ℕ) → due_within s window ≡ None → s ≡ after_emissions_within (count_within s window most room) window s
unfolding count_within after_emissions_within
none_emitted_within s window most room none = sym (ap (λ (due : Option Due). after_emissions_within (count_of_some s window most room due) window s) none)

-- IN TURN. Where one begins and ends
spans : (s : State) (window : ℕ) (due : Due) → due_within s window ≡ Some due
    → (option_map (λ t. t.position) (transmit_within s window) ≡ Some (start_of s.sending due))
    × (option_map (λ t. t.end) (transmit_within s window) ≡ Some (end_of s.sending due))
unfolding transmit_within
spans s window due e = (
  ap (λ (o : Option Due). option_map (λ t. t.position) (option_map (transmit_of s) o)) e,
  ap (λ (o : Option Due). option_map (λ t. t.end) (option_map (transmit_of s) o)) e,
)

turn-one : (s : State) (window each : ℕ) (due : Due) → due_within s window ≡ Some due → AreInTurn 0 s window each (start_of s.sending due) (end_of s.sending due)
unfolding AreInTurn
turn-one s window each due e = spans s window due e

-- behind the first something is in flight, so that the timer of retransmission has to run
or-true : (b : Bool) → (b || true) ≡ true
or-true true = refl
or-true false = refl

runs : (handshake sends flying needs : Bool) → sends ≡ true → flying ≡ true → (handshake || ((sends && flying) || needs)) ≡ true
runs handshake true true needs e f = or-true handshake
runs handshake true false needs e f = absurd (cc)
runs handshake false flying needs e f = absurd (cc)

flying : (una nxt k : ℕ) → una ≤ nxt → 0 < k → nat_lt una (max nxt (nxt + k)) ≡ true
flying una nxt k order some = grind (arith, nat_tests, order, some)

retransmits : (s : State) → sends_text s.phase ≡ true → nat_lt s.sending.snd_una s.sending.snd_nxt ≡ true → (timers_wanted s).retransmit ≡ true
retransmits s sends flies = runs (is_handshake s.phase) (sends_text s.phase) (nat_lt s.sending.snd_una s.sending.snd_nxt) (needs_probe s) sends flies

as-before : (s : State) (k c : ℕ) → sends_text s.phase ≡ true → s.sending.snd_una ≤ s.sending.snd_nxt → 0 < k
    → IsAsBefore (state_after s (new-of s k)) (state_after (state_after s (new-of s k)) (new-of (state_after s (new-of s k)) c))
as-before s k c sends order some =
    let one = state_after s (new-of s k) in
    let two = state_after one (new-of one c) in
    let una = s.sending.snd_una in
    let nxt = s.sending.snd_nxt in
    let first = retransmits one sends (flying una nxt k order some) in
    let flies : nat_lt una two.sending.snd_nxt ≡ true = grind (arith, nat_tests, order, some) in
    let second = retransmits two sends flies in
    record {
      timers = ap (λ (b : Bool). record (timers_wanted one) { retransmit = b }) (second ∙ sym first);
      una = refl;
      phase = refl;
      receiving = refl;
    }

-- what is due of the rest of a run
next-within : (more : ℕ) (s : State) (window n : ℕ) → IsRun s more n → Fits s window n → (k : ℕ) × (due_within s window ≡ Some (new-of s k))
next-within zero s window n h fits = (n, first-within s window n h fits)
next-within (suc more) s window n h fits = (text_limit s, more-within s window more n h fits)

before-next : (more : ℕ) (s : State) (window n : ℕ) → IsRun s (suc more) n → Fits s window n → s.sending.snd_una ≤ s.sending.snd_nxt
    → IsAsBefore (after_within s window) (after_within (after_within s window) window)
before-next more s window n h fits order =
    let one = after-first s in
    let next = next-within more one window (n - text_limit s) (goes-on s more n h) (fits-on s window more n h fits) in
    let first = after-within-one s window (new-of s (text_limit s)) (more-within s window more n h fits) in
    let second = after-within-one one window (new-of one next.0) next.1 in
    let both = as-before s (text_limit s) next.0 h.may.phase order (omega (arith, h.text, h.least)) in
    subst (λ x. IsAsBefore x (after_within x window)) (sym first) (subst (λ y. IsAsBefore one y) (sym second) both)

run-turns : (more : ℕ) (s : State) (window n : ℕ) → IsRun s more n → Fits s window n → s.sending.snd_una ≤ s.sending.snd_nxt
    → AreInTurn more s window (text_limit s) s.sending.snd_nxt (s.sending.snd_nxt + n)
unfolding AreInTurn
run-turns zero s window n h fits order = turn-one s window (text_limit s) (new-of s n) (first-within s window n h fits)
run-turns (suc more) s window n h fits order =
    let limit = text_limit s in
    let nxt = s.sending.snd_nxt in
    let one = after-first s in
    let rest = run-turns more one window (n - limit) (goes-on s more n h) (fits-on s window more n h fits) (omega (arith, order)) in
    let is = after-within-one s window (new-of s limit) (more-within s window more n h fits) in
    let from : one.sending.snd_nxt ≡ nxt + limit = omega arith in
    let to : one.sending.snd_nxt + (n - limit) ≡ nxt + n = omega (arith, h.least) in (
      spans s window (new-of s limit) (more-within s window more n h fits),
      before-next more s window n h fits order,
      subst (λ x. AreInTurn more x window limit (nxt + limit) (nxt + n)) (sym is)
          (subst (λ k. AreInTurn more one window limit (nxt + limit) k) to (subst (λ k. AreInTurn more one window limit k (one.sending.snd_nxt + (n - limit))) from rest)),
    )

abbrev Turns : State → ℕ → ℕ → Due → Type 0
Turns s window count due = AreInTurn (count - 1) s window (count_of due) (start_of s.sending (as_one s count due)) (end_of s.sending (as_one s count due))

lone-turns : (s : State) (window start each : ℕ) → due_within s window ≡ Some (Text (NewText start each)) → Turns s window 1 (Text (NewText start each))
lone-turns s window start each e =
    let due = Text (NewText start each) in
    subst (λ d. AreInTurn 0 s window each (start_of s.sending d) (end_of s.sending d)) (sym (one-as-one s start each)) (turn-one s window each due e)

some-turns : (s : State) (window start each more : ℕ) → IsNewText s start each → 0 < more → suc more ≤ count_for (text_allowed s.sending) each
    → Fits s window (run-length s each (suc more)) → s.sending.snd_una ≤ s.sending.snd_nxt → Turns s window (suc more) (Text (NewText start each))
some-turns s window start each more new several few-enough fits order =
    let b = begins s start each more new (inr few-enough) in
    let n = run-length s each (suc more) in
    let turns = run-turns more s window n b.run fits order in
    let last : more ≡ suc more - 1 = omega arith in
    subst (λ j. AreInTurn j s window each start (start + n)) last
    (subst (λ k. AreInTurn more s window each k (k + n)) (sym new.at)
    (subst (λ k. AreInTurn more s window k s.sending.snd_nxt (s.sending.snd_nxt + n)) (sym (b.same several)) turns))

text-turns : (s : State) (window most room start each : ℕ) → due_within s window ≡ Some (Text (NewText start each)) → s.sending.snd_una ≤ s.sending.snd_nxt
    → Turns s window (number s window most room (Text (NewText start each))) (Text (NewText start each))
text-turns s window most room start each e order =
    let due = Text (NewText start each) in
    let count = number s window most room due in
    let new = is_new_text s start each (new_text_is_due s window start each e) in
    elim (cases_lt count 2) [
      | inl one ↦ let is : 1 ≡ count = omega (arith, one) in subst (λ k. Turns s window k due) is (lone-turns s window start each e)
      | inr several ↦
          let whole : suc (count - 1) ≡ count = omega arith in
          let fits = fits-number s window most room start each new.some (omega (arith, several)) in
          subst (λ k. Turns s window k due) whole
          (some-turns s window start each (count - 1) new (omega (arith, several)) (omega (arith, several)) (subst (λ k. Fits s window (run-length s each k)) (sym whole) fits) order)
    ]

pub train_is_in_turn : (s : State) (window most room : ℕ) (due : Due) → due_within s window ≡ Some due → s.sending.snd_una ≤ s.sending.snd_nxt
    → Turns s window (number s window most room due) due
train_is_in_turn s window most room (Text (NewText start each)) e order = text-turns s window most room start each e order
train_is_in_turn s window most room Reset e order = turn-one s window 0 Reset e
train_is_in_turn s window most room Syn e order = turn-one s window 0 Syn e
train_is_in_turn s window most room (Text (Resend start count)) e order = turn-one s window count (Text (Resend start count)) e
train_is_in_turn s window most room (Text (Fin start)) e order = turn-one s window 0 (Text (Fin start)) e
train_is_in_turn s window most room (Text (ResentFin start)) e order = turn-one s window 0 (Text (ResentFin start)) e
train_is_in_turn s window most room Acknowledgement e order = turn-one s window 0 Acknowledgement e

-- and all but the last are as long as the first
abbrev Whole : State → ℕ → Due → Type 0
Whole s count due = start_of s.sending (as_one s count due) + (count - 1) * count_of due ≤ end_of s.sending (as_one s count due)

one-whole : (start each : ℕ) → start + (1 - 1) * each ≤ start
one-whole start each = omega arith

text-whole : (s : State) (window most room start each : ℕ) → due_within s window ≡ Some (Text (NewText start each))
    → Whole s (number s window most room (Text (NewText start each))) (Text (NewText start each))
text-whole s window most room start each e =
    let due = Text (NewText start each) in
    let count = number s window most room due in
    let new = is_new_text s start each (new_text_is_due s window start each e) in
    elim (cases_lt count 2) [
      | inl one ↦ let is : 1 ≡ count = omega (arith, one) in subst (λ k. Whole s k due) is (omega arith)
      | inr several ↦
          let less = all-full count (text_allowed s.sending) each new.some (omega (arith, several)) (omega (arith, several)) in
          let first : (count - 1) * each ≤ count * each = mul-le-mul_right each (omega arith) in
          omega (arith, less, first)
    ]

pub train_is_whole : (s : State) (window most room : ℕ) (due : Due) → due_within s window ≡ Some due → Whole s (number s window most room due) due
train_is_whole s window most room (Text (NewText start each)) e = text-whole s window most room start each e
train_is_whole s window most room Reset e = omega arith
train_is_whole s window most room Syn e = omega arith
train_is_whole s window most room (Text (Resend start count)) e = omega arith
train_is_whole s window most room (Text (Fin start)) e = omega arith
train_is_whole s window most room (Text (ResentFin start)) e = omega arith
train_is_whole s window most room Acknowledgement e = omega arith
