use Rattle.std.proofs.Common.{◌≡◌, ◌-◌, ◌<◌, ◌≤◌, ℕ, take, drop, length}
use Rattle.tcp_reasm.specs.Reassembly.{stamp_of_run}
use Rattle.tcp_reasm.specs.Rows.{newest, placed, run_at}
use Rattle.tcp_reasm.specs.Store.{ranked, runs_in, laid}
use Rattle.tcp_reasm.proofs.lay.lay_between.Given as goal

abbrev pub invariant-loop-next : goal.invariant-loop-next
invariant-loop-next g l = record {
  least : l.place ≤ l.next;
  most : l.next ≤ l.end;
  before : l.next < l.end → (k : ℕ) → k < l.index → (run_at (placed l.table.base l.table.len l.table.rows.items) k).to ≤ l.next;
  here : l.next < l.end → l.index < l.table.len → l.next ≤ (run_at (placed l.table.base l.table.len l.table.rows.items) l.index).to;
  ready : l.initial.ring.ready ≤ l.ring.ready;
  size : length l.ring.bytes ≡ length l.initial.ring.bytes;
  unread : take l.unread l.ring.bytes ≡ take l.unread l.initial.ring.bytes;
  window : (let stamps = stamp_of_run (ranked (runs_in (newest l.table.base l.table.len l.table.rows.items))) in
      laid stamps 0 l.next (drop (l.next - l.place) l.text) (drop l.unread l.ring.bytes) ≡ laid stamps 0 l.place l.text (drop l.unread l.initial.ring.bytes));
}

abbrev pub decreases-loop-next : goal.decreases-loop-next
decreases-loop-next g l = l.end - l.next
