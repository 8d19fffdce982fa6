-- Segments that an end emits as one within a window are the row that a driver is told of.
use Rattle.std.proofs.Common.{◌≡◌, ℕ, zero, suc, ◌+◌, ◌-◌, ◌*◌, ◌≤◌, ◌<◌, Option, Some, None, option_map, refl, sym, ap, subst, ◌∙◌, arith}
use Rattle.std.specs.Prelude.{◌==◌, ◌&&◌, length}
use Rattle.tcp_driver.specs.Driver.{core_after, sent_of}
use Rattle.tcp_driver.specs.Rows as rows
use Rattle.tcp_driver.specs.Rows.{core_after_many, emissions_of, IsRow}
use Rattle.tcp_conn.specs.declared.emit.due.Due.{Due}
use Rattle.tcp_conn.specs.declared.emit.train.Train.{Train}
use Rattle.tcp_conn.specs.declared.emit.transmit.Transmit.{Transmit}
use Rattle.tcp_conn.specs.declared.phase.Phase.{Phase}
use Rattle.tcp_conn.specs.State.{State}
use Rattle.tcp_conn.specs.TrainWithin.{AreInTurn, IsAsBefore, after_emissions_within, count_within, count_of_some, train_of, train_within}
use Rattle.tcp_conn.specs.Timers.{timers_wanted}
use Rattle.tcp_conn.specs.Transmission.{transmit_of}
use Rattle.tcp_conn.specs.Within.{after_within, due_within, transmit_within}
use Rattle.tcp_end.specs.declared.wired.Wired.{Wired}
use Rattle.tcp_end.specs.Wired.{is_fin_wait_2, machine, row_by, sent_by, waits_for_peer, wants_by}
use Rattle.tcp_end.proofs.Within.{after_within_same, idle, sent_within, under}

-- SO MANY EMISSIONS of the end are so many of the machine
pub after_many_same : {H : Type 0} (count : ℕ) (s : State) (window : ℕ)
    → under {H = H} (after_emissions_within count window s) ≡ core_after_many machine count window (under s)
unfolding after_emissions_within core_after_many
after_many_same zero s window = refl
after_many_same {H = H} (suc more) s window =
    after_many_same {H = H} more (after_within s window) window
    ∙ ap (λ (w : Wired H). core_after_many machine more window w) (after_within_same {H = H} (under s) window)

-- WHAT GOES OUT takes the numbers between where it begins and ends
takes : (t : Option Transmit) (from to : ℕ) → option_map (λ t. t.position) t ≡ Some from → option_map (λ t. t.end) t ≡ Some to
    → rows.Takes (option_map sent_by t) from (to - from)
takes None from to e f = absurd (cc)
takes (Some t) from to e f =
    let at : t.position ≡ from = cc e in
    let end : t.end ≡ to = cc f in
    (ap (λ k. Some k) at, ap (λ k. Some (k - t.position)) end ∙ ap (λ k. Some (to - k)) at)

sent-takes : (H : Type 0) (s : State) (window from to : ℕ) → option_map (λ t. t.position) (transmit_within s window) ≡ Some from
    → option_map (λ t. t.end) (transmit_within s window) ≡ Some to → rows.Takes (sent_of (machine {A = H}) (under s) window) from (to - from)
sent-takes H s window from to e f =
    subst (λ sent. rows.Takes sent from (to - from)) (sent_within {H = H} (under s) window) (takes (transmit_within s window) from to e f)

-- behind each but the first the same timers have to run
as-before : (H : Type 0) (s after : State) → IsAsBefore s after → rows.IsAsBefore (machine {A = H}) (under {H = H} s) (under {H = H} after)
as-before H s after is = record {
  wants = ap (λ t. wants_by t (waits_for_peer after)) is.timers
      ∙ ap (λ (p : Phase). wants_by (timers_wanted s) (is_fin_wait_2 p && length after.receiving.inbox.unread == 0)) is.phase
      ∙ ap (λ r. wants_by (timers_wanted s) (is_fin_wait_2 s.phase && length r.inbox.unread == 0)) is.receiving;
  una = is.una;
}

in-turn : (H : Type 0) (more : ℕ) (s : State) (window each from to : ℕ) → AreInTurn more s window each from to
    → rows.AreInTurn (machine {A = H}) more (under s) window each from (to - from)
unfolding AreInTurn rows.AreInTurn
in-turn H zero s window each from to turns = sent-takes H s window from to turns.0 turns.1
in-turn H (suc more) s window each from to turns =
    let spans = turns.0 in
    let first = sent-takes H s window from (from + each) spans.0 spans.1 in
    let length-is : from + each - from ≡ each = omega arith in
    let next = after_within_same {H = H} (under s) window in
    let second : under {H = H} (after_within (after_within s window) window) ≡ core_after machine (core_after machine (under s) window) window =
    after_within_same {H = H} (under (after_within s window)) window ∙ ap (λ (w : Wired H). core_after machine w window) next in
    let kept = as-before H (after_within s window) (after_within (after_within s window) window) turns.1 in
    let rest = in-turn H more (after_within s window) window each (from + each) to turns.2 in
    let left : to - (from + each) ≡ to - from - each = omega arith in (
      subst (λ k. rows.Takes (sent_of (machine {A = H}) (under s) window) from k) length-is first,
      subst (λ x. rows.IsAsBefore (machine {A = H}) x (core_after machine (core_after machine (under s) window) window)) next
          (subst (λ y. rows.IsAsBefore (machine {A = H}) (under (after_within s window)) y) second kept),
      subst (λ x. rows.AreInTurn (machine {A = H}) more x window each (from + each) (to - from - each)) next
          (subst (λ k. rows.AreInTurn (machine {A = H}) more (under (after_within s window)) window each (from + each) k) left rest),
    )

pub is_row : {H : Type 0} (w : Wired H) (window : ℕ) (train : Train) → 0 < train.segments
    → train.whole.position + (train.segments - 1) * train.each ≤ train.whole.end
    → AreInTurn (train.segments - 1) w.end window train.each train.whole.position train.whole.end → IsRow machine w window (row_by train)
is_row {H = H} w window train some whole turns = record {
  some = some;
  whole = omega (arith, whole);
  turns = in-turn H (train.segments - 1) w.end window train.each train.whole.position train.whole.end turns;
}

-- THE END AFTER IT is the machine's, also where nothing goes out
after-row : {H : Type 0} (w : Wired H) (window most room : ℕ) (o : Option Due) → due_within w.end window ≡ o
    → under {H = H} (after_emissions_within (count_of_some w.end window most room o) window w.end)
    ≡ core_after_many machine (emissions_of (option_map row_by (option_map (train_of w.end (count_of_some w.end window most room o)) o))) window w
unfolding after_emissions_within core_after_many transmit_within
after-row {H = H} w window most room None e = sym (idle {H = H} w window (ap (λ (o : Option Due). option_map (transmit_of w.end) o) e)) ∙ after_within_same w window
after-row {H = H} w window most room (Some due) e = after_many_same {H = H} (count_of_some w.end window most room (Some due)) w.end window

pub after_row : {H : Type 0} (w : Wired H) (window most room : ℕ)
    → under {H = H} (after_emissions_within (count_within w.end window most room) window w.end)
    ≡ core_after_many machine (emissions_of (option_map row_by (train_within w.end window most room))) window w
unfolding count_within train_within
after_row w window most room = after-row w window most room (due_within w.end window) refl

-- where nothing goes out nothing is due
pub none_sent : {H : Type 0} (w : Wired H) (window most room : ℕ) → train_within w.end window most room ≡ None → sent_of machine w window ≡ None
unfolding train_within transmit_within
none_sent w window most room e = sym (sent_within w window) ∙ none-of (due_within w.end window) e where
  none-of : (o : Option Due) → option_map (train_of w.end (count_within w.end window most room)) o ≡ None → option_map sent_by (option_map (transmit_of w.end) o) ≡ None
  none-of None e = refl
  none-of (Some due) e = absurd (cc)

pub idle_train : {H : Type 0} (w : Wired H) (window most room : ℕ) → train_within w.end window most room ≡ None
    → under {H = H} (after_emissions_within (count_within w.end window most room) window w.end) ≡ w
unfolding train_within count_within after_emissions_within
idle_train {H = H} w window most room e = still (due_within w.end window) e where
  still : (o : Option Due) → option_map (train_of w.end (count_of_some w.end window most room (due_within w.end window))) o ≡ None
      → under {H = H} (after_emissions_within (count_of_some w.end window most room o) window w.end) ≡ w
  still None e = refl
  still (Some due) e = absurd (cc)
