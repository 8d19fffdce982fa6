-- What an end emits within a window is what a driver lets out: the end holds back what the driver's definition does.
use Rattle.std.proofs.Common.{◌≡◌, ℕ, ◌-◌, Bool, true, false, List, Option, Some, None, option_map, is_some, refl, ap, ◌∙◌}
use Rattle.std.specs.Prelude.{◌&&◌, ◌||◌, if◌then◌else◌}
use Rattle.tcp_driver.specs.Driver.{core_after, holds_by, sent_of, written_of}
use Rattle.tcp_driver.specs.declared.machine.Sent.{Sent}
use Rattle.tcp_conn.specs.State.{State}
use Rattle.tcp_conn.specs.declared.emit.due.Due.{Due}
use Rattle.tcp_conn.specs.Due.{ack_alone, due_of}
use Rattle.tcp_conn.specs.Emission.{after_ack_alone, after_due, after_emission, buffer_after, buffer_after_ack_alone, buffer_with}
use Rattle.tcp_conn.specs.Transmission.{transmit_ack_alone, transmit_due, transmit_of}
use Rattle.tcp_conn.specs.Within.{after_within, buffer_within, due_or_ack, due_within, goes_back, is_past, transmit_within, waits}
use Rattle.tcp_end.specs.declared.wired.Wired.{Wired}
use Rattle.tcp_end.specs.Wired.{machine, sent_by}

-- what the driver is told of what is due
abbrev told : State → Option Due → Option Sent
told s due = option_map sent_by (option_map (transmit_of s) due)

some-told : (s : State) (due : Option Due) → is_some due ≡ is_some (told s due)
some-told s None = refl
some-told s (Some due) = refl

-- whether it holds that back
abbrev holds-due : State → ℕ → Option Due → Bool
holds-due s window due = holds_by (told s due) s.sending.snd_una (s.sending.snd_nxt - s.sending.snd_una) (is_some (told s (ack_alone s))) window

waits-same : (s : State) (window : ℕ) (due : Due) → waits s window due ≡ holds-due s window (Some due)
waits-same s window due = ap (λ b. is_past s.sending window due || (b && goes_back s.sending due)) (some-told s (ack_alone s))

pushed : {T : Type 0} (f : Option Due → T) (b : Bool) (x y : Option Due) → f (if b then x else y) ≡ (if b then f x else f y)
pushed f true x y = refl
pushed f false x y = refl

neither : {T : Type 0} (b : Bool) (x y : T) → y ≡ (if b && false then x else y)
neither true x y = refl
neither false x y = refl

-- so whatever is made of what goes out is the same
same : {T : Type 0} (f : Option Due → T) (s : State) (window : ℕ) (due : Option Due)
    → f (due_or_ack s window due) ≡ (if holds-due s window due then f (ack_alone s) else f due)
same f s window None = neither (is_some (told s (ack_alone s))) (f (ack_alone s)) (f None)
same f s window (Some due) =
    pushed f (waits s window due) (ack_alone s) (Some due) ∙ ap (λ b. if b then f (ack_alone s) else f (Some due)) (waits-same s window due)

pub sent_within : {H : Type 0} (w : Wired H) (window : ℕ) → option_map sent_by (transmit_within w.end window) ≡ sent_of machine w window
unfolding transmit_within due_within transmit_ack_alone transmit_due
sent_within w window = same (told w.end) w.end window (due_of w.end)

pub written_within : {H : Type 0} (w : Wired H) (window : ℕ) (out : List ℕ) → buffer_within w.end window out ≡ written_of machine w window out
unfolding buffer_within due_within buffer_after buffer_after_ack_alone transmit_ack_alone transmit_due
written_within w window out = same (λ due. buffer_with w.end due out) w.end window (due_of w.end)

-- the end under a driver
abbrev pub under : {H : Type 0} → State → Wired H
under s = record { end = s }

pub after_within_same : {H : Type 0} (w : Wired H) (window : ℕ) → under (after_within w.end window) ≡ core_after machine w window
unfolding after_within due_within after_emission after_ack_alone transmit_ack_alone transmit_due
after_within_same {H = H} w window = same (λ due. under {H = H} (after_due w.end due)) w.end window (due_of w.end)

-- where nothing goes out nothing changes
idle-by : (s : State) (due : Option Due) → option_map (transmit_of s) due ≡ None → after_due s due ≡ s
idle-by s None e = refl
idle-by s (Some due) e = absurd (cc)

pub idle : {H : Type 0} (w : Wired H) (window : ℕ) → transmit_within w.end window ≡ None → under (after_within w.end window) ≡ w
unfolding transmit_within after_within
idle {H = H} w window e = ap (under {H = H}) (idle-by w.end (due_within w.end window) e)
