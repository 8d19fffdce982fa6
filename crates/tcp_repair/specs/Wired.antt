-- What a recovery knows of an end of a TCP connection: each function is one of tcp_conn's.
use Rattle.std.specs.Prelude.{◌≡◌, ℕ, ◌+◌, ◌-◌, nat_lt, Bool, false, if◌then◌else◌, Option, Some, None, max, min, option_map, refl, unwrap_or}
use Rattle.tcp_sendq.specs.SendQueue.{next_unmarked}
use Rattle.tcp_halves.specs.Sender.{place_of}
use Rattle.tcp_conn.specs.declared.emit.train.Train.{Train}
use Rattle.tcp_conn.specs.declared.status.Negotiated.{Negotiated}
use Rattle.tcp_conn.specs.State.{State}
use Rattle.tcp_conn.specs.Status.{negotiated_of, queued_of}
use Rattle.tcp_end.specs.declared.wired.Wired.{Wired}
use Rattle.tcp_end.specs.Wired.{row_by}
use Rattle.tcp_repair.specs.Reports.{Reports}

-- ---- WHAT NO BLOCK HAS REPORTED: bytes that aren't marked; SYN and FIN never are. The run of those in the queue from a place on, or
-- where none is left, none behind the end
abbrev pub run_of : State → ℕ → ℕ × ℕ
run_of s place = unwrap_or (next_unmarked s.sending.queue place) (max place (queued_of s), queued_of s)

-- as positions: it begins in flight, and where it reaches the end of the queue what follows belongs to it, up to SND.NXT
abbrev pub end_of_run : State → ℕ → ℕ → ℕ
end_of_run s at place =
    if nat_lt ((run_of s place).1) (queued_of s) then min s.sending.snd_nxt (at + ((run_of s place).1 - place)) else s.sending.snd_nxt

abbrev pub unmarked_at : State → ℕ → ℕ → Option (ℕ × ℕ)
unmarked_at s at place =
    if nat_lt (at + ((run_of s place).0 - place)) s.sending.snd_nxt then Some (at + ((run_of s place).0 - place), end_of_run s at place) else None

-- from a position on that isn't acknowledged
unfoldable pub unmarked_of : State → ℕ → Option (ℕ × ℕ)
unmarked_of s at = unmarked_at s (max s.sending.snd_una at) (place_of s.sending (max s.sending.snd_una at))

-- ---- WHETHER BOTH SYNS AGREED on blocks (RFC 2018, 2)
abbrev pub has_sack : Option Negotiated → Bool
has_sack None = false
has_sack (Some agreed) = agreed.sack

abbrev pub reports : {A : Type 0} → Reports (Wired A)
reports = record { unmarked = λ w at. unmarked_of w.end at; agreed = λ w. has_sack (negotiated_of w.end); peer_window = λ w. w.end.sending.snd_wnd }

-- where segments begin that have gone out as one
abbrev pub start_of : Train → ℕ
start_of t = t.whole.position

-- as the driver is told
pub starts_of : (train : Option Train) → option_map (λ row. row.start) (option_map row_by train) ≡ option_map start_of train
starts_of None = refl
starts_of (Some train) = refl
