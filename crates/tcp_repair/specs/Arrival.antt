-- WHAT AN ARRIVAL TELLS a recovery (RFC 8985, 6.2, steps 1 to 4, and 7.4.2).
use Rattle.std.specs.Prelude.{ℕ, zero, suc, ◌+◌, Bool, false, not, ◌&&◌, ◌||◌, ◌==◌, if◌then◌else◌, nat_lt, nat_le, Option, Some, None, is_some, min, unwrap_or}
use Rattle.tcp_recovery.specs.declared.delivered.Delivered.{Delivered}
use Rattle.tcp_recovery.specs.declared.probe.Probe.{Probe}
use Rattle.tcp_recovery.specs.Probe.{after_ack, after_measurement, has_repaired}
use Rattle.tcp_recovery.specs.Rack.{Flight, after_received, after_recovered}
use Rattle.tcp_recovery.specs.Stretches.{behind, first_of}
use Rattle.tcp_repair.specs.declared.seen.Seen.{Seen}
use Rattle.tcp_repair.specs.declared.seen.Told.{Told}
use Rattle.tcp_repair.specs.declared.trips.LeastTrip.{LeastTrip}
use Rattle.tcp_repair.specs.declared.trips.LongestTrip.{LongestTrip}
use Rattle.tcp_repair.specs.Recovery.{Repair, min_rtt_of, with_probe, with_probe_stopped}
use Rattle.tcp_repair.specs.Trips.{after_long_trip, after_trip}

-- ---- STEP 2: what is newly acknowledged (RFC 8985, 6.2), where SND.UNA has moved
abbrev pub has_moved : Told → Seen → Bool
has_moved t s = nat_lt t.una s.una

abbrev pub with_acked : Repair → Seen → Told → Repair
with_acked r s t =
    if has_moved t s
    then record r { rack = after_received r.rack 0 s.una r.clock (min_rtt_of r) }
    else r

-- whether any of these numbers is outstanding, where this is the first stretch from them on that is
abbrev pub starts_before : Option (ℕ × ℕ) → ℕ → Bool
starts_before None end = false
starts_before (Some stretch) end = nat_lt (stretch.0) end

-- A RUN OF WHAT BLOCKS REPORT is told where any of it is outstanding: else it was reported before, and tells nothing
unfoldable pub after_run : Flight → ℕ → ℕ → ℕ → ℕ → Flight
after_run f start end now min_rtt =
    if starts_before (first_of (behind start f.stretches)) end then after_received f start end now min_rtt else f

-- WHAT BLOCKS REPORT, run by run in rising order: from a position on what lies before the first number that none has reported, and
-- so on behind the run of those. So many runs are looked at, so that the work of an arrival is bounded, whatever the peer reports
-- (own)
abbrev pub most_runs : ℕ
most_runs = 128

unfoldable pub after_runs : ℕ → (ℕ → Option (ℕ × ℕ)) → ℕ → ℕ → ℕ → ℕ → Flight → Flight
after_runs zero unmarked at nxt now min_rtt f = f
after_runs (suc more) unmarked at nxt now min_rtt f =
    elim (unmarked at) [
      | None ↦ after_run f at nxt now min_rtt
      | Some run ↦ after_runs more unmarked (run.1) nxt now min_rtt (after_run f at (run.0) now min_rtt)
    ]

-- where blocks report a gap
abbrev pub with_blocks : Repair → Seen → (ℕ → Option (ℕ × ℕ)) → Repair
with_blocks r s unmarked =
    record r { rack = if s.has_gap then after_runs most_runs unmarked s.una s.nxt r.clock (min_rtt_of r) r.rack else r.rack }

-- ---- STEP 1: a round trip was measured where something was delivered that was sent later than all that was before. RACK.rtt is
-- that trip; one of no microsecond, by a coarse clock, isn't taken for the least (own)
abbrev pub has_told : Delivered → Delivered → Bool
has_told before after = not ((after.xmit_ts == before.xmit_ts) && (after.end_seq == before.end_seq))

abbrev pub trips_after : LeastTrip → ℕ → ℕ → LeastTrip
trips_after t rtt now = if nat_lt 0 rtt then after_trip t rtt now else t

abbrev pub longest_after : LongestTrip → ℕ → ℕ → LongestTrip
longest_after l rtt now = if nat_lt 0 rtt then after_long_trip l rtt now else l

abbrev pub with_trip : Repair → Delivered → Repair
with_trip r before =
    if has_told before r.rack.delivered
    then record r {
      trips = trips_after r.trips r.rack.delivered.rtt r.clock;
      longest = longest_after r.longest r.rack.delivered.rtt r.clock;
      probe = after_measurement r.probe;
    }
    else r

-- the congestion window is told of it, too
abbrev pub trip_since : Delivered → Delivered → Option ℕ
trip_since before after = if has_told before after && nat_lt 0 after.rtt then Some after.rtt else None

-- ---- THE PROBE IS ACKNOWLEDGED (RFC 8985, 7.4.2). Both came, what was lost by the look of it and what went out again, where an
-- acknowledgement says nothing new, and no gap is left: the standard has a D-SACK beside that, which isn't read here (own)
abbrev pub both_came : Seen → Told → Bool
both_came s t = not (has_moved t s) && t.is_echo && not s.has_gap

-- WITHOUT BLOCKS AN ANSWER THAT COVERS NO MORE THAN THE PROBE, which is two segments at most, while more is in flight, says that what
-- was sent behind these is lost, too, or wasn't kept: it is being repaired up to SND.NXT (own). One that covers more is of a peer that
-- keeps what comes out of order, and what else is lost there is left to the next probe. One by which no round trip was measured, as it
-- came within the least one, isn't the probe's
abbrev pub is_short : Told → Seen → Bool
is_short t s = has_moved t s && nat_le s.una (t.una + s.smss + s.smss) && nat_lt s.una s.nxt

abbrev pub shows_more : Repair → Seen → Told → Bool
shows_more r s t = not s.has_agreed && is_some r.probe.end_seq && r.probe.is_retrans && r.probe.is_measured && is_short t s

abbrev pub with_more : Bool → Repair → Seen → Repair
with_more shows r s = if shows then record r { recover = Some (unwrap_or r.recover s.nxt) } else r

-- whether the probe has repaired a loss, of which the congestion window is told; where more is being repaired it is told of that
abbrev pub repairs : Repair → Seen → Told → Bool
repairs r s t = has_repaired r.probe s.una (both_came s t) && not (shows_more r s t)

abbrev pub with_probe_acked : Repair → Seen → Told → Repair
with_probe_acked r s t = record r { probe = after_ack r.probe s.una (both_came s t) }

-- ---- STEP 4: a recovery is over once all is acknowledged that was in flight when its loss was found
abbrev pub is_over : Option ℕ → ℕ → Bool
is_over None una = false
is_over (Some recover) una = nat_le recover una

abbrev pub with_repaired : Repair → Seen → Repair
with_repaired r s = if is_over r.recover s.una then record r { rack = after_recovered r.rack; recover = None } else r

-- ---- ALL OF IT. The probe waits anew where something was acknowledged, or no probe is in doubt any more (7.2 and 7.3)
abbrev pub is_freed : Probe → Probe → Bool
is_freed before after = is_some before.end_seq && not (is_some after.end_seq)

abbrev pub with_deliveries : Repair → Seen → (ℕ → Option (ℕ × ℕ)) → Told → Repair
with_deliveries r s unmarked t = with_trip (with_blocks (with_acked r s t) s unmarked) r.rack.delivered

-- the round trip that an arrival measured
unfoldable pub trip_by : Repair → Seen → (ℕ → Option (ℕ × ℕ)) → Told → Option ℕ
trip_by r s unmarked t = trip_since r.rack.delivered (with_blocks (with_acked r s t) s unmarked).rack.delivered

abbrev pub probed : Repair → Repair → Bool → Seen → Told → Repair
probed before r shows s t =
    if has_moved t s || is_freed before.probe r.probe
    then with_probe (with_more shows (with_repaired r s) s) s
    else with_probe_stopped (with_more shows (with_repaired r s) s) s

abbrev pub answered : Repair → Repair → Seen → Told → Repair
answered before r s t = probed before (with_probe_acked r s t) (shows_more r s t) s t

unfoldable pub heard : Repair → Seen → (ℕ → Option (ℕ × ℕ)) → Told → Repair
heard r s unmarked t = answered r (with_deliveries r s unmarked t) s t
