-- When an acknowledgement and a small segment of a connection go out (RFC 9293, 3.7.4 and 3.8.6; RFC 5961, 7).
use Rattle.std.specs.Prelude.{not, ◌==◌}
use Rattle.tcp_connection.specs.declared.policy.Policy.{Policy}
use Rattle.tcp_end.specs.Wired.{machine}
use Rattle.tcp_connection.specs.Using.{with_policy}
use Rattle.tcp_connection.specs.Wired.{insight}
use Rattle.tcp_c.specs.Connections.{agreed, limit_of, with_own}
use Rattle.tcp_c.specs.declared.records.CPolicy.{CPolicy}
use Rattle.tcp_c.specs.declared.connection.driven.Driven.{Driven}

-- of C's record
abbrev pub policy_of : CPolicy → Policy
policy_of c = record {
  ack_delay = c.ack_delay;
  is_nagle = not (c.nagle == 0);
  override_timeout = limit_of c.override_timeout;
  answer_interval = c.answer_interval;
}

abbrev pub with_policy_of : CPolicy → Driven → Driven
with_policy_of c d = with_own d (with_policy machine insight agreed d.connection.repairing.connecting (policy_of c))
