-- What a user chooses of a connection in a host: each is the call of the connection itself.
use Rattle.std.specs.Prelude.{ℕ}
use Rattle.tcp_conn.specs.Timers.{after_resend, after_resend_first}
use Rattle.tcp_connection.specs.Using.{with_policy, with_user_limit}
use Rattle.tcp_connection.specs.Wired.{insight}
use Rattle.tcp_end.specs.Wired.{machine}
use Rattle.tcp_c.specs.Answers.{done}
use Rattle.tcp_c.specs.Connections.{agreed, end_of, used, with_own}
use Rattle.tcp_c.specs.KeepAlives.{asking, pacing}
use Rattle.tcp_c.specs.Lodgers.{driven_in, lodger_end}
use Rattle.tcp_c.specs.Pacing.{resend_number, stretch_number}
use Rattle.tcp_c.specs.declared.connection.driven.Driven.{Driven}
use Rattle.tcp_c.specs.declared.host.choices.Choice.{Choice}
use Rattle.tcp_c.specs.declared.host.choices.Choice.TheVariants as choices
use Rattle.tcp_c.specs.declared.host.lodger.Lodger.{Lodger}

abbrev pub driven_after : Driven → ℕ → Choice → Driven
driven_after d now (choices.Policy policy) = with_own d (with_policy machine insight agreed d.connection.repairing.connecting policy)
driven_after d now (choices.UserTimeout limit) = with_own d (with_user_limit d.connection.repairing.connecting limit)
driven_after d now (choices.KeepAlive rules) = asking rules now d
driven_after d now (choices.Pacing is_on) = pacing is_on d
driven_after d now choices.ResendFirst = used d now (after_resend_first (end_of d))
driven_after d now (choices.Resend from to) = used d now (after_resend (end_of d) from to)

abbrev pub lodger_after : Lodger → ℕ → Choice → Lodger
lodger_after g now choice = record g { driven = record g.driven { value = driven_after (driven_in g) now choice } }

-- what is answered
abbrev pub choice_number : Lodger → Choice → ℕ
choice_number g (choices.Policy policy) = done
choice_number g (choices.UserTimeout limit) = done
choice_number g (choices.KeepAlive rules) = done
choice_number g (choices.Pacing is_on) = done
choice_number g choices.ResendFirst = resend_number (lodger_end g)
choice_number g (choices.Resend from to) = stretch_number from to (lodger_end g)
