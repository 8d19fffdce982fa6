-- LOSS RECOVERY BY TIME (RFC 8985): what it keeps, and what it does with that.
use Rattle.std.specs.Prelude.{ℕ, ◌+◌, ◌-◌, Bool, false, true, not, ◌&&◌, ◌||◌, ◌==◌, if◌then◌else◌, nat_lt, nat_le, Option, Some, None, is_some, max, min, unwrap_or}
use Rattle.tcp_driver.specs.declared.machine.Timer.{Timer}
use Rattle.tcp_driver.specs.declared.machine.Timer.TheVariants.{Retransmit, Reorder}
use Rattle.tcp_driver.specs.Deadlines.{last}
use Rattle.tcp_recovery.specs.declared.probe.Probe.{Probe}
use Rattle.tcp_recovery.specs.Delivered.{greatest, reo_wnd_of}
use Rattle.tcp_recovery.specs.Probe.{after_loss, after_probe, after_start, new_probe, without_probe}
use Rattle.tcp_flow.specs.declared.loss.Loss.{Loss}
use Rattle.tcp_flow.specs.declared.loss.Loss.TheVariants.{Again, Found}
use Rattle.tcp_recovery.specs.Stretches.{behind, resent_of}
use Rattle.tcp_recovery.specs.Rack.{Flight, after_sent, after_settled, lost_in, new_flight}
use Rattle.tcp_repair.specs.declared.seen.Seen.{Seen}
use Rattle.tcp_repair.specs.declared.trips.LeastTrip.{LeastTrip}
use Rattle.tcp_repair.specs.declared.trips.LongestTrip.{LongestTrip}
use Rattle.tcp_repair.specs.Trips.{least_of, no_long_trip, no_trips}

pub record Repair : Type 0 where
  -- what is in flight and when it was sent, and what deliveries have told (RFC 8985, 5.2 and 5.3)
  pub rack : Flight
  -- the tail loss probe (7.1)
  pub probe : Probe
  -- RACK.min_RTT
  pub trips : LeastTrip
  -- and the longest round trip of late
  pub longest : LongestTrip
  -- while a loss is being repaired: SND.NXT when it was found
  pub recover : Option ℕ
  -- when the congestion window was told of a loss last
  pub shrunk : ℕ
  -- the time of the last call
  pub clock : ℕ

-- it begins with nothing sent, and at the first time there is: 0 stands for one that isn't known
abbrev pub new_repair : Repair
new_repair = record {
  rack = new_flight;
  probe = new_probe;
  trips = no_trips;
  longest = no_long_trip;
  recover = None;
  shrunk = 0;
  clock = 1;
}

-- THE TIME OF A CALL: it never goes back, and stands still at the last one
abbrev pub clock_at : Repair → ℕ → ℕ
clock_at r now = max r.clock (min last now)

abbrev pub at_time : Repair → ℕ → Repair
at_time r now = record r { clock = clock_at r now }

-- RACK.min_RTT as numbers are told with it: 0 before one was measured
abbrev pub min_rtt_of : Repair → ℕ
min_rtt_of r = unwrap_or (least_of r.trips) 0

-- ---- NUMBERS WERE SENT (RFC 8985, 6.1), from a position on and before another. What would leave a gap behind all that the rack
-- was told of begins where that ends: what it wasn't told of counts as sent now (own)
abbrev pub sent_between : Flight → ℕ → ℕ → ℕ → ℕ → Flight
sent_between f start end now min_rtt = after_sent f (min f.next start) (end - min f.next start) now min_rtt

-- IT TAKES OVER an end: all before SND.NXT is left to the timers, since it isn't known when it was sent (own)
unfoldable pub begun : Seen → ℕ → Repair
begun s now = record new_repair {
  rack = after_settled (sent_between new_flight 0 s.nxt (clock_at new_repair now) 0) 0 s.nxt;
  clock = clock_at new_repair now;
}

-- ---- THE PROBE (RFC 8985, 7.2) waits where the peer's window is open and something is in flight; for longer where that doesn't fill two
-- segments, since a peer may wait for the second one (RFC 5681, 4.2; own: the standard has one segment). It also waits while
-- blocks report a gap or a loss is being repaired, so that what is sent again and lost again, with nothing sent behind it, doesn't
-- wait for the timeout (own: the standard has none then), and where no blocks are exchanged (own: the standard needs them)
abbrev pub may_probe : Seen → Bool
may_probe s = nat_lt 0 s.wnd && nat_lt s.una s.nxt

abbrev pub started : Probe → Seen → ℕ → Probe
started p s now = after_start p now s.srtt (nat_lt (s.nxt - s.una - s.smss) s.smss) s.rto_at

-- something was sent or acknowledged
abbrev pub with_probe : Repair → Seen → Repair
with_probe r s = record r { probe = if may_probe s then started r.probe s r.clock else without_probe r.probe }

-- neither was
abbrev pub with_probe_stopped : Repair → Seen → Repair
with_probe_stopped r s = record r { probe = if may_probe s then r.probe else without_probe r.probe }

-- ---- WHAT IS FOUND LOST is a second loss where it was sent again since the congestion window was told of the last one (RFC 5681, 4.3)
abbrev pub is_since : Option ℕ → ℕ → Bool
is_since None time = false
is_since (Some last) time = nat_le time last

abbrev pub is_second : Repair → ℕ → Bool
is_second r from = is_since (resent_of (behind from r.rack.stretches)) r.shrunk

abbrev pub loss_at : Repair → ℕ → Loss
loss_at r from = if is_second r from then Again else Found

-- IT BEGINS TO BE REPAIRED, or goes on to be: until all is acknowledged that is in flight then (RFC 8985, 6.2, step 4). What a probe
-- has told is forgotten (7.1), but one that waits goes on to, in case what is lost can't go out yet (own)
abbrev pub with_probe_forgotten : Probe → Probe
with_probe_forgotten p = record (after_loss p) { at = p.at }

abbrev pub recovering : Repair → ℕ → ℕ → Repair
recovering r from nxt = record r {
  probe = with_probe_forgotten r.probe;
  recover = Some (unwrap_or r.recover nxt);
  shrunk = if is_some r.recover && not (is_second r from) then r.shrunk else r.clock;
}

-- THE RETRANSMISSION TIMER HAS EXPIRED, or the reordering timer: all that is in flight is being repaired, and no probe goes out
-- before it is acknowledged, so that the timeout's back-off stands (7.1; own)
abbrev pub is_loss : Option Timer → Bool
is_loss (Some Retransmit) = true
is_loss (Some Reorder) = true
is_loss other = false

abbrev pub timed_out : Repair → Seen → Repair
timed_out r s = record r { probe = after_probe r.probe s.nxt false; recover = Some s.nxt; shrunk = r.clock }

unfoldable pub after_expiry : Repair → Seen → Option Timer → Repair
after_expiry r s timer = if is_loss timer && nat_lt s.una s.nxt then timed_out r s else r

-- THE REORDERING WINDOW (RFC 8985, 6.2, step 4). No loss is certain, however many came behind it or whatever is being repaired (own: the
-- standard has no window then, as long as no reordering was seen, so that the first segments that overtake each other shrink the
-- congestion window). Before a round trip was measured it is of RACK.rtt
abbrev pub reordering_of : Repair → Seen → ℕ
reordering_of r s =
    reo_wnd_of r.rack.delivered (unwrap_or s.srtt r.rack.delivered.rtt) (unwrap_or (least_of r.trips) r.rack.delivered.rtt) false

-- WHERE A QUEUE HAS JUST DRAINED RACK.rtt, of what was delivered last, is shorter than what was sent before takes: so the window is longer
-- by as much as a round trip of late was, up to twice as long (own)
abbrev pub drained_of : Repair → ℕ
drained_of r = r.longest.trip - r.rack.delivered.rtt

-- and with RACK.rtt it is a microsecond at least, so that nothing is lost at the time at which it is sent (own)
abbrev pub window_of : Repair → Seen → ℕ
window_of r s = max (1 - r.rack.delivered.rtt) (min greatest (reordering_of r s + min (reordering_of r s) (drained_of r)))

-- WHAT IS LOST at a time (RFC 8985, 6.2, step 5) is looked for where blocks report a gap, or a loss is being repaired: else all
-- that is in flight was sent behind all that was delivered
abbrev pub is_looking : Repair → Seen → Bool
is_looking r s = s.has_gap || is_some r.recover

abbrev pub lost_at : Repair → Seen → ℕ → Option (ℕ × ℕ)
lost_at r s now = if is_looking r s then lost_in r.rack.delivered (window_of r s) now r.rack.stretches else None
