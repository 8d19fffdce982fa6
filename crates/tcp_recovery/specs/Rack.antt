-- What is in flight and when it was sent, and what of it is lost (RFC 8985, 6.2).
use Rattle.std.specs.Prelude.{ℕ, ◌+◌, ◌/◌, ◌≤◌, ◌==◌, ◌&&◌, ◌||◌, not, min, max, Bool, nat_lt, nat_le, if◌then◌else◌, List, [], ◌∷◌, length, Option, Some, None}
use Rattle.tcp_recovery.specs.declared.stretch.Stretch.{Stretch}
use Rattle.tcp_recovery.specs.declared.delivered.Delivered.{Delivered}
use Rattle.tcp_recovery.specs.Stretches.{AreInOrder, appended, between, cut_out, fitted, max_stretches, without}
use Rattle.tcp_recovery.specs.Delivered.{after_deliveries, after_recovery, greatest, is_later, new_delivered}

pub record Flight : Type 0 where
  -- what is in flight and wasn't reported as received (RFC 8985, 5.2), and the gaps over which stretches were joined
  -- (own)
  pub stretches : List Stretch
  -- SND.NXT: the position after all that was sent
  pub next : ℕ
  pub delivered : Delivered

-- nothing was sent yet
abbrev pub new_flight : Flight
new_flight = record { stretches = []; next = 0; delivered = new_delivered }

-- A SEGMENT WAS SENT (RFC 8985, 6.1): new text behind what is in flight, or what was sent before. Two times of new text
-- are one where they lie a 64th of min_RTT apart (own)
abbrev pub sent_stretches : Flight → ℕ → ℕ → ℕ → ℕ → List Stretch
sent_stretches f start end now min_rtt =
    if nat_le f.next start
    then fitted (appended start end now (min_rtt / 64) f.stretches)
    else fitted (fitted (cut_out start end now f.stretches))

abbrev pub after_sent : Flight → ℕ → ℕ → ℕ → ℕ → Flight
after_sent f start count now min_rtt =
    if count == 0
    then f
    else record f { stretches = sent_stretches f start (start + count) now min_rtt; next = max f.next (start + count) }

-- NUMBERS WERE REPORTED AS RECEIVED (RFC 8985, 6.2, steps 2 to 4): those from `start` on and before `end`, of what was
-- sent
abbrev pub without_numbers : Flight → ℕ → ℕ → ℕ → ℕ → Flight
without_numbers f start end now min_rtt =
    if nat_lt start end
    then record f {
      stretches = fitted (without start end f.stretches);
      delivered = after_deliveries f.delivered (between start end f.stretches) now min_rtt f.next;
    }
    else f

abbrev pub after_received : Flight → ℕ → ℕ → ℕ → ℕ → Flight
after_received f start end now min_rtt = without_numbers f start (min f.next end) now min_rtt

-- THESE HAD COME BEFORE, as is seen where stretches were joined over them: nothing is learnt (own)
abbrev pub after_settled : Flight → ℕ → ℕ → Flight
after_settled f start end =
    if nat_lt start (min f.next end) then record f { stretches = fitted (without start (min f.next end) f.stretches) } else f

-- A RECOVERY IS OVER (RFC 8985, 6.2, step 4)
abbrev pub after_recovered : Flight → Flight
after_recovered f = record f { delivered = after_recovery f.delivered }

-- ---- STEP 5 (RFC 8985, 6.2). Something was delivered that was sent later than all of a stretch: by time and by end,
-- as in RACK_sent_after; or behind it, where it was never sent again, since new text is sent in order, once a round
-- trip was told (own)
abbrev pub is_overtaken : Delivered → Stretch → Bool
is_overtaken d s =
    is_later d.xmit_ts d.end_seq s.last s.end || (not s.is_again && nat_lt s.end d.fack && nat_lt 0 d.end_seq)

-- and a round trip and the window have passed since
abbrev pub is_lost : Delivered → ℕ → ℕ → Stretch → Bool
is_lost d window now s = is_overtaken d s && nat_le (s.last + d.rtt + window) now

-- the first that is lost, by position
abbrev pub lost_in : Delivered → ℕ → ℕ → List Stretch → Option (ℕ × ℕ)
lost_in d window now [] = None
lost_in d window now (s ∷ later) = if is_lost d window now s then Some (s.start, s.end) else lost_in d window now later

-- WHEN THE NEXT ONE IS LOST (RFC 8985, 6.2, step 5): the soonest of the times from which on each is that was overtaken
-- (own: the standard takes the latest of them, at which all are; so each is found when it is due, at the price of more
-- wake-ups)
abbrev pub due_of : Delivered → ℕ → Stretch → Option ℕ
due_of d window s = if is_overtaken d s then Some (min greatest (s.last + d.rtt + window)) else None

abbrev pub sooner : Option ℕ → Option ℕ → Option ℕ
sooner None time = time
sooner (Some at) None = Some at
sooner (Some at) (Some time) = Some (min at time)

abbrev pub deadline_of : Delivered → ℕ → List Stretch → Option ℕ
deadline_of d window [] = None
deadline_of d window (s ∷ later) = sooner (due_of d window s) (deadline_of d window later)

-- ---- what always holds
pub record IsFlight (f : Flight) : Type 0 where
  pub order : AreInOrder 0 f.next f.stretches
  pub few : length f.stretches ≤ max_stretches
