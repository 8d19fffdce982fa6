-- What deliveries tell (RFC 8985, 5.3 and 6.2, steps 2 to 4).
use Rattle.std.specs.Prelude.{ℕ, ◌+◌, ◌-◌, ◌*◌, ◌/◌, ◌==◌, ◌&&◌, ◌||◌, not, min, max, Bool, false, true, nat_lt, nat_le, if◌then◌else◌, List, [], ◌∷◌}
use Rattle.tcp_recovery.specs.declared.stretch.Stretch.{Stretch}
use Rattle.tcp_recovery.specs.declared.delivered.Delivered.{Delivered}

-- nothing was delivered yet (RFC 8985, 5.3)
abbrev pub new_delivered : Delivered
new_delivered = record {
  xmit_ts = 0;
  end_seq = 0;
  rtt = 0;
  fack = 0;
  reordering_seen = false;
  reo_wnd_mult = 1;
  reo_wnd_persist = 16;
  round = 0;
}

-- SENT LATER (RFC 8985, 6.2, step 2, RACK_sent_after): by time, then by end
abbrev pub is_later : ℕ → ℕ → ℕ → ℕ → Bool
is_later time end than than_end = nat_lt than time || (time == than && nat_lt than_end end)

-- STEP 2 (RFC 8985, 6.2). It isn't known which of its sendings was delivered where that is sent again less than min_RTT
-- ago
abbrev pub is_ambiguous : Stretch → ℕ → ℕ → Bool
is_ambiguous part now min_rtt = part.is_again && nat_lt (now - part.last) min_rtt

-- else it tells a round trip, RACK.rtt, from the first time of its stretch on (own: the standard has a time of each
-- segment)
abbrev pub with_trip : Delivered → Stretch → ℕ → Delivered
with_trip d part now = record d { rtt = now - part.first }

-- and what was sent last of all that was delivered are RACK.xmit_ts and RACK.end_seq
abbrev pub with_latest : Delivered → Stretch → Delivered
with_latest d part =
    if is_later part.first part.end d.xmit_ts d.end_seq then record d { xmit_ts = part.first; end_seq = part.end } else d

-- STEP 3 (RFC 8985, 6.2). What was never sent again is delivered below the highest that was, RACK.fack: reordering is
-- seen
abbrev pub with_order : Delivered → Stretch → Delivered
with_order d part = record d {
  reordering_seen = d.reordering_seen || (not part.is_again && nat_lt part.end d.fack);
  fack = max d.fack part.end;
}

-- STEP 4 (RFC 8985, 6.2). What was sent again hadn't been lost, as a DSACK would say later (own): it came late, which is
-- reordering, though the standard sees none of what was sent again (own); and the window grows by a quarter of min_RTT, up
-- to 64 of them (own), once in a round trip, and for 16 recoveries
abbrev pub widened : Delivered → ℕ → Delivered
widened d next = record d { reo_wnd_mult = min 64 (d.reo_wnd_mult + 1); reo_wnd_persist = 16; round = next }

abbrev pub after_spurious : Delivered → ℕ → ℕ → Delivered
after_spurious d start next = record (if nat_lt start d.round then d else widened d next) { reordering_seen = true }

-- A STRETCH WAS DELIVERED, or a part of one, while all before `next` was sent: step 3 is for what is ambiguous, too.
-- Where its first time is 0, as of stretches that were joined over a gap, it isn't known when it was sent, nor which of
-- its numbers had come before: it teaches nothing (own: the standard has a time of each segment)
abbrev pub after_delivery : Delivered → Stretch → ℕ → ℕ → ℕ → Delivered
after_delivery d part now min_rtt next =
    if part.first == 0
    then d
    else with_order
    (if is_ambiguous part now min_rtt then after_spurious d part.start next else with_latest (with_trip d part now) part) part

-- several, one after another (RFC 8985, 6.2: for each segment that is newly acknowledged)
abbrev pub after_deliveries : Delivered → List Stretch → ℕ → ℕ → ℕ → Delivered
after_deliveries d [] now min_rtt next = d
after_deliveries d (part ∷ later) now min_rtt next = after_deliveries (after_delivery d part now min_rtt next) later now min_rtt next

-- A RECOVERY IS OVER (RFC 8985, 6.2, step 4)
abbrev pub after_recovery : Delivered → Delivered
after_recovery d = record d {
  reo_wnd_persist = d.reo_wnd_persist - 1;
  reo_wnd_mult = if nat_le d.reo_wnd_persist 1 then 1 else d.reo_wnd_mult;
}

-- the greatest number of 64 bits
abbrev pub greatest : ℕ
greatest = 18446744073709551615

-- THE REORDERING WINDOW (RFC 8985, 6.2, step 4): none where no reordering was seen and a loss is certain, since a
-- recovery goes on or three segments came behind it
abbrev pub reo_wnd_of : Delivered → ℕ → ℕ → Bool → ℕ
reo_wnd_of d srtt min_rtt is_certain =
    if not d.reordering_seen && is_certain then 0 else min srtt (min greatest (d.reo_wnd_mult * min_rtt) / 4)
