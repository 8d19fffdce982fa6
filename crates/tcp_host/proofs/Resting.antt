-- Where an end finds nothing to emit no burst is on any more.
use Rattle.std.proofs.Common.{◌≡◌, ℕ, Bool, true, false, Option, None, refl, sym, ap, subst}
use Rattle.std.proofs.lemmas.Bool.{false≢true}
use Rattle.std.specs.Prelude.{not, ◌&&◌, if◌then◌else◌}
use Rattle.tcp_congestion.specs.Control.{Control}
use Rattle.tcp_driver.specs.declared.machine.Sent.{Sent}
use Rattle.tcp_driver.specs.Driver.{Driving, after_emission, at, sent_of}
use Rattle.tcp_driver.specs.Machine.{Machine}
use Rattle.tcp_driver.specs.Times.{after_segment}
use Rattle.tcp_flow.specs.Flow.{Flowing, allowed, is_idle, rested}
use Rattle.tcp_connection.specs.Connection.{Connecting}
use Rattle.tcp_connection.specs.Going.{after_emit, after_going, asked, discards, flow_after, flow_going, flow_sent, holds_back, sent_by_emit, sent_going}
use Rattle.tcp_connection.specs.Insight.{Insight}
use Rattle.tcp_connection.specs.Policy.{holds_any}

pub driver_rests : {S : Type 0} (m : Machine S) (d : Driving S) (now window : ℕ) → sent_of m d.core window ≡ None
    → (after_emission m d now window).times.bursting ≡ false
driver_rests m d now window e = ap (λ (o : Option Sent). (after_segment o d.times now).bursting) e

module _ {S W : Type 0} (m : Machine S) (c : Control W) where
  -- an idle time is told to the window alone
  rested-driving : (f : Flowing S W) (now : ℕ) → (rested m c f now).driving ≡ f.driving
  rested-driving f now = by (c.limits f.window && is_idle m f now)
    where
      by : (b : Bool) → (if b then record f { window = c.idle f.window } else f).driving ≡ f.driving
      by true = refl
      by false = refl

  flow-rests : (f : Flowing S W) (now window : ℕ) → flow_sent m c f now window ≡ None
      → (flow_after m c f now window).driving.times.bursting ≡ false
  unfolding flow_sent flow_after
  flow-rests f now window e =
      let r = rested m c f now in
      driver_rests m r.driving (at r.driving now) (allowed m c r window)
      (subst (λ (d : Driving S). sent_of m d.core (allowed m c r window) ≡ None) (sym (rested-driving f now)) e)

  -- what is discarded is emitted twice
  going-rests : (k : Connecting S W) (now window : ℕ) → sent_going m c k now window ≡ None
      → (flow_going m c k now window).driving.times.bursting ≡ false
  going-rests k now window = by (discards m c k now window)
    where
      by : (twice : Bool)
          → (if twice then flow_sent m c (flow_after m c k.flowing now window) now window else flow_sent m c k.flowing now window) ≡ None
          → (if twice then flow_after m c (flow_after m c k.flowing now window) now window else flow_after m c k.flowing now window).driving.times.bursting ≡ false
      by true e = flow-rests (flow_after m c k.flowing now window) now window e
      by false e = flow-rests k.flowing now window e

-- nothing is held back in a burst
no-burst : (bursting held : Bool) → (not bursting && held) ≡ true → bursting ≡ false
no-burst false held e = refl
no-burst true held e = absurd (false≢true e)

pub connection_rests : {S W : Type 0} (m : Machine S) (i : Insight S) (c : Control W) (k : Connecting S W) (now window : ℕ)
    → sent_by_emit m i c k now window ≡ None → (after_emit m i c k now window).flowing.driving.times.bursting ≡ false
connection_rests m i c k now window = by (holds_any k.policy) (holds_back m i c k window now) refl
  where
    by : (any held : Bool) → holds_back m i c k window now ≡ held
        → (if any then (if held then None else sent_going m c k now window) else flow_sent m c k.flowing now window) ≡ None
        → (if any
        then (if held then asked m i c k window now else after_going m i c (asked m i c k window now) now window)
        else record k { flowing = flow_after m c k.flowing now window }).flowing.driving.times.bursting ≡ false
    by true true is e = no-burst k.flowing.driving.times.bursting _ is
    by true false is e = going-rests m c (asked m i c k window now) now window e
    by false held is e = flow-rests m c k.flowing now window e
