-- The congestion window of a connection: which is chosen, and what is reported of it (RFC 5681, 3; RFC 9438).
use Rattle.std.specs.Prelude.{ℕ, Bool, ◌==◌, nat_lt, if◌then◌else◌, Option, Some, None}
use Rattle.tcp_congestion.specs.AnyWindow.{any_control}
use Rattle.tcp_congestion.specs.Cubic.{new_cubic}
use Rattle.tcp_congestion.specs.Reno.{new_window}
use Rattle.tcp_congestion.specs.declared.any_window.AnyWindow.{AnyWindow}
use Rattle.tcp_congestion.specs.declared.any_window.AnyWindow.TheVariants.{Unlimited, Reno, Cubic}
use Rattle.tcp_conn.specs.State.{State}
use Rattle.tcp_connection.specs.Using.{choosing}
use Rattle.tcp_c.specs.Answers.{bad_rules, done, no_rule}
use Rattle.tcp_c.specs.Connections.{agreed, end_of, with_own}
use Rattle.tcp_c.specs.Status.{flag}
use Rattle.tcp_c.specs.declared.records.CCongestion.{CCongestion}
use Rattle.tcp_c.specs.declared.connection.driven.Driven.{Driven}

-- before both SYNs have agreed on SMSS it is the default (RFC 9293, 3.7.1)
abbrev pub first_smss : ℕ
first_smss = 536

-- THE WINDOW OF A NUMBER, as a connection begins with it
abbrev pub window_of : ℕ → Option AnyWindow
window_of number =
    if number == 0 then Some Unlimited
    else (if number == 1 then Some (Reno (new_window first_smss)) else (if number == 2 then Some (Cubic (new_cubic first_smss 1)) else None))

-- and the number of a window
abbrev pub congestion_number : AnyWindow → ℕ
congestion_number Unlimited = 0
congestion_number (Reno w) = 1
congestion_number (Cubic c) = 2

-- TEXT WAS SENT, or a FIN: more than the SYN has gone out
abbrev pub has_sent : State → Bool
has_sent s = nat_lt 1 s.sending.snd_nxt

abbrev pub chosen_by : Option AnyWindow → Driven → Driven
chosen_by None d = d
chosen_by (Some window) d =
    if has_sent (end_of d) then d else with_own d (choosing agreed any_control d.connection.repairing.connecting window)

abbrev pub chosen : ℕ → Driven → Driven
chosen number d = chosen_by (window_of number) d

abbrev pub choice_told : Option AnyWindow → Driven → ℕ
choice_told None d = bad_rules
choice_told (Some window) d = if has_sent (end_of d) then no_rule else done

abbrev pub choice_number : ℕ → Driven → ℕ
choice_number number d = choice_told (window_of number) d

-- ---- WHAT IS REPORTED of it
abbrev pub no_congestion : CCongestion
no_congestion = record { cwnd = 0; ssthresh = 0; smss = 0; congestion = 0; is_recovering = 0 }

abbrev pub congestion_by : AnyWindow → CCongestion
congestion_by w = record {
  cwnd = any_control.cwnd w;
  ssthresh = any_control.ssthresh w;
  smss = any_control.smss w;
  congestion = congestion_number w;
  is_recovering = flag (any_control.is_recovering w);
}

abbrev pub congestion_of : Option Driven → CCongestion
congestion_of None = no_congestion
congestion_of (Some d) = congestion_by d.connection.repairing.connecting.flowing.window
