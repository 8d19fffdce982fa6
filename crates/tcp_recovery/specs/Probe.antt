-- TAIL LOSS PROBES (RFC 8985, 7): the end of what is sent goes out once more before the timeout, so that its loss is
-- reported.
use Rattle.std.specs.Prelude.{ℕ, ◌+◌, ◌*◌, ◌==◌, ◌&&◌, ◌||◌, not, min, Bool, true, false, nat_lt, if◌then◌else◌, Option, Some, None, is_some}
use Rattle.tcp_recovery.specs.declared.probe.Probe.{Probe}

-- NONE WAITS, none was sent, and no round trip was measured (7.1)
abbrev pub new_probe : Probe
new_probe = record { at = None; end_seq = None; is_retrans = false; is_measured = false }

-- PTO (7.2): two round trips, and the peer's delay where one segment alone is in flight, which it may wait to
-- acknowledge; 1 s where SRTT isn't known
abbrev pub max_ack_delay : ℕ
max_ack_delay = 200000

abbrev pub pto_of : Option ℕ → Bool → ℕ
pto_of None is_one = 1000000
pto_of (Some srtt) is_one = 2 * srtt + (if is_one then max_ack_delay else 0)

-- SOMETHING WAS SENT OR ACKNOWLEDGED: the probe waits from now on, until the retransmission timeout at most (7.2).
-- Where one is out no other one follows, nor before a round trip was measured behind the last one, or the first where
-- none was sent (7.3). The standard asks these two when the time has come, and where one of them fails it starts the
-- retransmission timer anew then; here none waits, and that timer runs on from where it was, so that it expires earlier
-- (own)
abbrev pub after_start : Probe → ℕ → Option ℕ → Bool → ℕ → Probe
after_start p now srtt is_one rto_at =
    record p { at = if is_some p.end_seq || not p.is_measured then None else Some (min rto_at (now + pto_of srtt is_one)) }

-- nothing is in flight, or blocks have been reported (7.2)
abbrev pub without_probe : Probe → Probe
without_probe p = record p { at = None }

-- A LOSS IS BEING REPAIRED, or the retransmission timer has expired: TLP.end_seq and TLP.is_retrans are those of a new
-- one (7.1), and none waits (7.2)
abbrev pub after_loss : Probe → Probe
after_loss p = record p { at = None; end_seq = None; is_retrans = false }

-- A ROUND TRIP WAS MEASURED (7.3)
abbrev pub after_measurement : Probe → Probe
after_measurement p = record p { is_measured = true }

-- THE PROBE WAS SENT (7.3): new data, or the last segment again. TLP.end_seq is SND.NXT then, and nothing was measured
-- since
abbrev pub after_probe : Probe → ℕ → Bool → Probe
after_probe p snd_nxt is_retrans = record { at = None; end_seq = Some snd_nxt; is_retrans = is_retrans; is_measured = false }

-- ALL BEFORE una IS ACKNOWLEDGED (7.4.2). A probe of new data tells nothing that an acknowledgement of it doesn't. One
-- that went out again has repaired a loss where more than it is acknowledged, unless both came, what was lost by the
-- look of it and what went out again: a D-SACK (RFC 2883) that ends at TLP.end_seq says so, or a duplicate
-- acknowledgement of TLP.end_seq without blocks
abbrev pub has_repaired_by : Option ℕ → Bool → ℕ → Bool → Bool
has_repaired_by None is_retrans una both_came = false
has_repaired_by (Some end) is_retrans una both_came = is_retrans && not both_came && nat_lt end una

abbrev pub has_repaired : Probe → ℕ → Bool → Bool
has_repaired p una both_came = has_repaired_by p.end_seq p.is_retrans una both_came

-- it is over once all of it is acknowledged, and it isn't in doubt what came
abbrev pub end_after : Option ℕ → Bool → ℕ → Bool → Option ℕ
end_after None is_retrans una both_came = None
end_after (Some end) is_retrans una both_came =
    if nat_lt end una || (end == una && (not is_retrans || both_came)) then None else Some end

abbrev pub after_ack : Probe → ℕ → Bool → Probe
after_ack p una both_came = record p { end_seq = end_after p.end_seq p.is_retrans una both_came }
