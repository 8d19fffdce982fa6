-- Which timers an end wants, as a number, and back: a bit for each, and one more, so that it is never 0.
use Rattle.std.specs.Prelude.{ℕ, ◌+◌, ◌*◌, ◌/◌, ◌%◌, ◌==◌, Bool, if◌then◌else◌}
use Rattle.tcp_driver.specs.declared.machine.Wants.{Wants}

abbrev pub bit : Bool → ℕ
bit flag = if flag then 1 else 0

abbrev pub code_of : Wants → ℕ
code_of w = 16 + bit w.retransmit + 2 * bit w.reorder + 4 * bit w.time_wait + 8 * bit w.fin_wait_2

abbrev pub wanted_by : ℕ → Wants
wanted_by code = record {
  retransmit = code % 2 == 1;
  reorder = (code / 2) % 2 == 1;
  time_wait = (code / 4) % 2 == 1;
  fin_wait_2 = (code / 8) % 2 == 1;
}
