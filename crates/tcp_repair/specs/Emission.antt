-- WHAT GOES OUT AGAIN (RFC 8985, 6.2, step 5, and 7.3), before what the connection emits by itself.
use Rattle.std.specs.Prelude.{ℕ, zero, suc, ◌+◌, ◌-◌, Bool, false, not, ◌&&◌, ◌||◌, if◌then◌else◌, nat_lt, Option, Some, None, max, min}
use Rattle.tcp_driver.specs.declared.machine.Sent.{Sent}
use Rattle.tcp_driver.specs.Deadlines.{no_later}
use Rattle.tcp_recovery.specs.Delivered.{greatest}
use Rattle.tcp_recovery.specs.Probe.{after_probe}
use Rattle.tcp_recovery.specs.Rack.{after_settled}
use Rattle.tcp_repair.specs.declared.seen.Seen.{Seen}
use Rattle.tcp_repair.specs.declared.seen.Again.{Again}
use Rattle.tcp_repair.specs.Recovery.{Repair, is_looking, loss_at, lost_at, min_rtt_of, recovering, sent_between, with_probe}

-- ---- WHAT IS DUE WAS SENT BEFORE: then nothing else goes out again
abbrev pub goes_again : Seen → Option Sent → Bool
goes_again s None = false
goes_again s (Some sent) = nat_lt 0 sent.count && nat_lt sent.start s.nxt

-- ---- THE PROBE IS DUE: the last segment goes out again, as SMSS numbers at most. New data that may go out has gone out already, since
-- who calls emits until nothing goes out; what the congestion window holds back isn't sent as a probe (own: 7.3 lets one segment of
-- that go). Where blocks report a gap or a loss is being repaired it is the first segment, which nothing else will send (own). So
-- it is without blocks: nothing but the timeout would tell which of those in flight is lost, and the first is what the peer's
-- acknowledgement waits for; and with it the second, which a peer may wait for before it acknowledges (RFC 5681, 4.2; own), as far as
-- the peer's window goes: where that has shrunk the first alone goes past its edge (RFC 9293, 3.8.6; RFC 7323, 2.4)
abbrev pub is_probe_due : Repair → Bool
is_probe_due r = no_later r.probe.at r.clock

abbrev pub tail : Seen → Again
tail s = record { from = max s.una (s.nxt - s.smss); to = s.nxt; loss = None }

abbrev pub head : Seen → Again
head s = record { from = s.una; to = min s.nxt (s.una + s.smss); loss = None }

abbrev pub first_two : Seen → Again
first_two s = record { from = s.una; to = min s.nxt (s.una + max s.smss (min (s.smss + s.smss) s.wnd)); loss = None }

abbrev pub first_of : Seen → Again
first_of s = if s.has_agreed then head s else first_two s

abbrev pub probes_tail : Repair → Seen → Bool
probes_tail r s = s.has_agreed && not (is_looking r s)

abbrev pub probe_of : Repair → Seen → Again
probe_of r s = if probes_tail r s then tail s else first_of s

-- TLP.end_seq is SND.NXT (7.3); without blocks it is the end of the first segment, so that one probe goes out, and none follows
-- before that is acknowledged (own)
abbrev pub probe_end : Seen → ℕ
probe_end s = if s.has_agreed then s.nxt else (head s).to

-- ---- WHAT IS LOST goes out again, as far as it wasn't reported as received
abbrev pub has_unmarked : Option (ℕ × ℕ) → ℕ → Bool
has_unmarked None end = false
has_unmarked (Some run) end = nat_lt (run.0) end

-- A STRETCH OF WHICH ALL WAS REPORTED, by more runs than are looked at, had come before: it counts as come, and what is lost is looked for
-- behind it. There are no more stretches than these (own)
abbrev pub most_stretches : ℕ
most_stretches = 64

abbrev pub unless_unmarked : (ℕ → Option (ℕ × ℕ)) → Option (ℕ × ℕ) → Option (ℕ × ℕ)
unless_unmarked unmarked None = None
unless_unmarked unmarked (Some lost) = if has_unmarked (unmarked (lost.0)) (lost.1) then None else Some lost

abbrev pub reported_loss : Repair → Seen → (ℕ → Option (ℕ × ℕ)) → Option (ℕ × ℕ)
reported_loss r s unmarked = unless_unmarked unmarked (lost_at r s r.clock)

unfoldable pub settled : ℕ → Repair → Seen → (ℕ → Option (ℕ × ℕ)) → Repair
settled zero r s unmarked = r
settled (suc more) r s unmarked =
    elim (reported_loss r s unmarked) [
      | None ↦ r
      | Some lost ↦ settled more (record r { rack = after_settled r.rack (lost.0) (lost.1) }) s unmarked
    ]

abbrev pub loss_of : Repair → (ℕ → Option (ℕ × ℕ)) → Option (ℕ × ℕ) → Option Again
loss_of r unmarked None = None
loss_of r unmarked (Some lost) =
    if has_unmarked (unmarked (lost.0)) (lost.1) then Some (record { from = lost.0; to = lost.1; loss = Some (loss_at r (lost.0)) }) else None

abbrev pub loss_in : Repair → Seen → (ℕ → Option (ℕ × ℕ)) → Option Again
loss_in r s unmarked = loss_of r unmarked (lost_at r s r.clock)

-- A PROBE THAT IS DUE goes out before anything, also where something that was sent before is due, which for so long couldn't go out:
-- the first segment fits each window (own)
unfoldable pub again_of : Repair → Seen → (ℕ → Option (ℕ × ℕ)) → Bool → Option Again
again_of r s unmarked resending =
    if is_probe_due r then Some (probe_of r s) else (if resending then None else loss_in (settled most_stretches r s unmarked) s unmarked)

-- WHETHER IT TELLS LATER that it has repaired a loss (7.4.2): the last segment does, and without blocks the first two do, where no
-- duplicate says that both copies came (own: the standard has blocks); beside blocks the first one doesn't
abbrev pub tells_repair : Repair → Seen → Bool
tells_repair r s = probes_tail r s || not s.has_agreed

-- the recovery behind that
abbrev pub with_loss : Repair → Seen → (ℕ → Option (ℕ × ℕ)) → Option (ℕ × ℕ) → Repair
with_loss r s unmarked None = r
with_loss r s unmarked (Some lost) =
    if has_unmarked (unmarked (lost.0)) (lost.1) then recovering r (lost.0) s.nxt else r

abbrev pub with_loss_in : Repair → Seen → (ℕ → Option (ℕ × ℕ)) → Repair
with_loss_in r s unmarked = with_loss r s unmarked (lost_at r s r.clock)

unfoldable pub readied : Repair → Seen → (ℕ → Option (ℕ × ℕ)) → Bool → Repair
readied r s unmarked resending =
    if is_probe_due r
    then record r { probe = after_probe r.probe (probe_end s) (tells_repair r s) }
    else (if resending then r else with_loss_in (settled most_stretches r s unmarked) s unmarked)

-- ---- WHAT HAS GONE OUT is told, where it takes numbers (RFC 8985, 6.1 and 7.2)
abbrev pub went_between : Repair → Seen → ℕ → ℕ → Repair
went_between r s start end =
    if nat_lt start end then with_probe (record r { rack = sent_between r.rack start end r.clock (min_rtt_of r) }) s else r

unfoldable pub went : Repair → Seen → ℕ → ℕ → Repair
went r s start count = went_between r s start (min greatest (start + count))
