use Rattle.std.proofs.Common.{ltb-true, ◌≡◌, ℕ, Bool, true, false, if◌then◌else◌, Option, Some, None, option_map, refl, ap, ap₂, sym, ◌∙◌, ◌<◌, arith}
use Rattle.std.specs.Prelude.{◌||◌, ◌&&◌, ◌-◌, is_some}
use Rattle.std.specs.Option.{option_or}
use Rattle.tcp_driver.specs.Driver.{goes_back, waits}
use Rattle.tcp_driver.specs.declared.machine.Sent.{Sent}
use Rattle.tcp_halves.specs.declared.link.WaitingReset.{WaitingReset}
use Rattle.tcp_reasm.specs.Reassembly.{default_runs}
use Rattle.tcp_conn.specs.declared.emit.due.Due.{Due}
use Rattle.tcp_conn.specs.declared.emit.due.Due.TheVariants as dues
use Rattle.tcp_conn.specs.Due.{ack_alone, due_of, reset_due, text_due}
use Rattle.tcp_conn.specs.Phase.{is_handshake}
use Rattle.tcp_conn.specs.State.{State}
use Rattle.tcp_conn.specs.Timers.{after_retransmit, needs_probe, sends_again}
use Rattle.tcp_conn.specs.declared.emit.transmit.Transmit.{Transmit}
use Rattle.std.proofs.lemmas.Bool.{and_parts, cond_both}
use Rattle.tcp_conn.specs.Transmission.{transmit_ack_alone, transmit_due, transmit_of}
use Rattle.tcp_end.specs.Wired as wired
use Rattle.tcp_halves.specs.Sender.{with_all_resent}
use Rattle.tcp_ends.specs.Rests.{EachOpens, EachOpensWithRuns, NothingFoundIsQuiet, RestsUnmoved}
use Rattle.tcp_ends.specs.Pair.{Connects, Listens}

or-none : (b : Bool) → (b || false) ≡ b
or-none true = refl
or-none false = refl

unmoved : (s : State) (handshake again probe : Bool) → (handshake || (again || probe)) ≡ false
    → (record s {
      sending = if again then with_all_resent s.sending else s.sending;
      pending = record s.pending { syn = s.pending.syn || handshake; probe = s.pending.probe || probe };
    }) ≡ s
unmoved s true again probe e = absurd (cc)
unmoved s false true probe e = absurd (cc)
unmoved s false false true e = absurd (cc)
unmoved s false false false e =
    ap (λ b. record s { pending = record s.pending { syn = b; probe = s.pending.probe || false } }) (or-none s.pending.syn)
    ∙ ap (λ b. record s { pending = record s.pending { probe = b } }) (or-none s.pending.probe)

pub rests_lem : RestsUnmoved
unfolding after_retransmit
rests_lem s e = unmoved s (is_handshake s.phase) (sends_again s) (needs_probe s) e

pub opens_with_runs_lem : (H : Type 0) → EachOpensWithRuns H
opens_with_runs_lem H c runs peer (Connects rules limits now) = (_, refl)
opens_with_runs_lem H c runs peer (Listens rules limits now) = (_, refl)

pub opens_lem : (H : Type 0) → EachOpens H
opens_lem H c peer opening = opens_with_runs_lem H c default_runs peer opening

-- what goes out of what is due and of the acknowledgement alone
abbrev picked : ℕ → ℕ → ℕ → Option Sent → Option Sent → Option Sent
picked una flight window due alone = if waits due una window || (is_some alone && goes_back due una flight) then alone else due

-- what begins at 0 is never held back, where no acknowledgement goes alone
never : (una flight window : ℕ) (x : Sent) → x.start ≡ 0 → picked una flight window (Some x) None ≡ None → ⊥
never una flight window x z e =
    cond_both (waits (Some x) una window || false) None (Some x) (λ v. v ≡ None → ⊥)
    (λ held h. let less : una < x.start = ltb-true una x.start ((and_parts _ _ (sym (or-none _) ∙ held)).0) in absurd (omega (arith, less, z))) (λ held h. absurd (cc)) e

-- one of two goes out
either : (b : Bool) (x y : Sent) → (if b then Some x else Some y) ≡ None → ⊥
either true x y e = absurd (cc)
either false x y e = absurd (cc)

abbrev due_by : Option WaitingReset → Bool → Option Due → Bool → Option Due
due_by reset syn text ack = option_or (reset_due reset) (option_or (if syn then Some dues.Syn else None) (option_or text (if ack then Some dues.Acknowledgement else None)))

abbrev alone_by : Option WaitingReset → Bool → Bool → Option Due
alone_by reset syn ack = if is_some reset || syn then None else (if ack then Some dues.Acknowledgement else None)

quiet-by : (una flight window : ℕ) (f : Due → Sent) (reset : Option WaitingReset) (syn ack : Bool) (text : Option Due) → (f dues.Reset).start ≡ 0
    → (f dues.Syn).start ≡ 0
    → picked una flight window (option_map f (due_by reset syn text ack)) (option_map f (alone_by reset syn ack)) ≡ None
    → (reset ≡ None) × (syn ≡ false) × (ack ≡ false)
quiet-by una flight window f (Some r) syn ack text zero_reset zero_syn e = absurd (never una flight window (f dues.Reset) zero_reset e)
quiet-by una flight window f None true ack text zero_reset zero_syn e = absurd (never una flight window (f dues.Syn) zero_syn e)
quiet-by una flight window f None false true None zero_reset zero_syn e = absurd (either _ _ _ e)
quiet-by una flight window f None false true (Some due) zero_reset zero_syn e = absurd (either _ _ _ e)
quiet-by una flight window f None false false text zero_reset zero_syn e = (refl, refl, refl)

twice-mapped : (f : Due → Transmit) (g : Transmit → Sent) (o : Option Due) → option_map g (option_map f o) ≡ option_map (λ due. g (f due)) o
twice-mapped f g None = refl
twice-mapped f g (Some due) = refl

pub quiet_lem : (H : Type 0) → NothingFoundIsQuiet H
unfolding due_of ack_alone transmit_due transmit_ack_alone
quiet_lem H w window e =
    let s = w.end in
    let una = s.sending.snd_una in
    let flight = s.sending.snd_nxt - una in
    let f = λ (due : Due). wired.sent_by (transmit_of s due) in
    let d = twice-mapped (transmit_of s) wired.sent_by (due_of s) in
    let a = twice-mapped (transmit_of s) wired.sent_by (ack_alone s) in
    let mapped : picked una flight window (option_map f (due_of s)) (option_map f (ack_alone s)) ≡ None = sym (ap₂ (picked una flight window) d a) ∙ e in
    let is = quiet-by una flight window f s.pending.reset s.pending.syn s.pending.ack (text_due s) refl refl mapped in
    record { no_reset = is.0; no_syn = is.1; no_ack = is.2 }
