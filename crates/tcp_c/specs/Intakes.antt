-- What is reported to C of bytes that come in past a guard, summed or vouched for (RFC 9293, 3.1; RFC 5961, 5.2).
use Rattle.std.specs.Prelude.{ℕ, ◌==◌, not, List, Option, Some, None}
use Rattle.tcp_conn.specs.Guard.{after_intake, intake_at_once, intake_brought, intake_duplicate, intake_rule, intake_window}
use Rattle.tcp_conn.specs.State.{State}
use Rattle.tcp_conn.specs.Taking.{bytes_acked}
use Rattle.tcp_conn.specs.declared.arrive.guard.Intake.{Intake}
use Rattle.tcp_c.specs.Connections.{reach_of}
use Rattle.tcp_c.specs.Reports.{brought_number, no_arrive_report, rule_told}
use Rattle.tcp_c.specs.Status.{flag}
use Rattle.tcp_c.specs.declared.records.CArriveReport.{CArriveReport}
use Rattle.tcp_c.specs.declared.records.CIntake.{CIntake}

abbrev pub intake_of : CIntake → Intake
intake_of c = record { is_vouched = not (c.is_vouched == 0); guard = reach_of c.guard }

-- all zero where there is no end
abbrev pub intake_report_of : Intake → List ℕ → List ℕ → List ℕ → Option State → CArriveReport
intake_report_of way src dst bytes None = no_arrive_report
intake_report_of way src dst bytes (Some s) = record {
  at_once = flag (intake_at_once way s src dst bytes);
  rule = rule_told (intake_rule way s src dst bytes);
  acked = bytes_acked s (after_intake way s src dst bytes);
  brought = brought_number (intake_brought way s src dst bytes);
  is_duplicate = flag (intake_duplicate way s src dst bytes);
  window_taken = flag (intake_window way s src dst bytes);
}
