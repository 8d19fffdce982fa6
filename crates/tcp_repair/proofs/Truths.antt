-- What a rack is told stays in order.
use Rattle.std.proofs.Common.{◌≡◌, ℕ, ◌≤◌, Bool, true, false, List, [], ◌∷◌, Option, Some, None, ap, sym, ◌∙◌, arith}
use Rattle.std.specs.Prelude.{if◌then◌else◌}
use Rattle.tcp_driver.specs.Deadlines.{last}
use Rattle.tcp_recovery.specs.History.{Event, IsNotBefore, Received, Recovered, Sent, Settled, flight_after}
use Rattle.tcp_recovery.specs.Laws as Whole
use Rattle.tcp_recovery.specs.Rack.{Flight, after_received, after_recovered, after_sent, after_settled, lost_in}
use Rattle.tcp_repair.specs.History.{IsTruthful, LossesAreOverdue}
use Rattle.tcp_repair.specs.Recovery.{Repair, is_looking, window_of}

-- a later time is behind them, too
still-timely : (events : List Event) (clock later : ℕ) → clock ≤ later → IsNotBefore clock events → IsNotBefore later events
still-timely [] clock later less h = tt
still-timely (Sent start count now min_rtt ∷ earlier) clock later less h =
    let before : now ≤ clock = h.0 in (omega (arith, less, before), still-timely earlier clock later less (h.1))
still-timely (Received start end now min_rtt ∷ earlier) clock later less h = still-timely earlier clock later less h
still-timely (Settled start end ∷ earlier) clock later less h = still-timely earlier clock later less h
still-timely (Recovered ∷ earlier) clock later less h = still-timely earlier clock later less h

pub passed : (rack : Flight) (clock later : ℕ) → IsTruthful (record { rack = rack; clock = clock }) → clock ≤ later → later ≤ last
    → IsTruthful (record { rack = rack; clock = later })
passed rack clock later h less most =
    let known = h.known in
    record {
      known = omega (arith, known, less);
      most = most;
      events = h.events;
      same = h.same;
      orderly = h.orderly;
      timely = still-timely h.events clock later less h.timely;
    }

pub told_sent : (rack new : Flight) (clock start count min_rtt : ℕ) → IsTruthful (record { rack = rack; clock = clock }) → start ≤ rack.next
    → new ≡ after_sent rack start count clock min_rtt → IsTruthful (record { rack = new; clock = clock })
told_sent rack new clock start count min_rtt h less e =
    let next : rack.next ≡ (flight_after h.events).next = ap (λ (f : Flight). f.next) h.same in
    record {
      known = h.known;
      most = h.most;
      events = Sent start count clock min_rtt ∷ h.events;
      same = e ∙ ap (λ f. after_sent f start count clock min_rtt) h.same;
      orderly = (omega (arith, next, less), h.timely, h.orderly);
      timely = (omega arith, h.timely);
    }

pub told_received : (rack new : Flight) (clock start end min_rtt : ℕ) → IsTruthful (record { rack = rack; clock = clock })
    → new ≡ after_received rack start end clock min_rtt → IsTruthful (record { rack = new; clock = clock })
told_received rack new clock start end min_rtt h e = record {
  known = h.known;
  most = h.most;
  events = Received start end clock min_rtt ∷ h.events;
  same = e ∙ ap (λ f. after_received f start end clock min_rtt) h.same;
  orderly = h.orderly;
  timely = h.timely;
}

pub told_settled : (rack new : Flight) (clock start end : ℕ) → IsTruthful (record { rack = rack; clock = clock })
    → new ≡ after_settled rack start end → IsTruthful (record { rack = new; clock = clock })
told_settled rack new clock start end h e = record {
  known = h.known;
  most = h.most;
  events = Settled start end ∷ h.events;
  same = e ∙ ap (λ f. after_settled f start end) h.same;
  orderly = h.orderly;
  timely = h.timely;
}

pub told_recovered : (rack new : Flight) (clock : ℕ) → IsTruthful (record { rack = rack; clock = clock })
    → new ≡ after_recovered rack → IsTruthful (record { rack = new; clock = clock })
told_recovered rack new clock h e = record {
  known = h.known;
  most = h.most;
  events = Recovered ∷ h.events;
  same = e ∙ ap after_recovered h.same;
  orderly = h.orderly;
  timely = h.timely;
}

-- what is found lost is overdue, then
looked-for : (looking : Bool) (lost : Option (ℕ × ℕ)) (run : ℕ × ℕ) → (if looking then lost else None) ≡ Some run → lost ≡ Some run
looked-for true lost run e = e
looked-for false lost run e = absurd (cc)

pub overdue_lem : (r : Repair) → Whole.LossesAreOverdue → IsTruthful (record { rack = r.rack; clock = r.clock }) → LossesAreOverdue r
overdue_lem r law h = record {
  events = h.events;
  same = h.same;
  orderly = h.orderly;
  overdue = λ s now start end number at lost within out.
      law h.events (window_of r s) now start end number at h.orderly
      (ap (λ (f : Flight). lost_in f.delivered (window_of r s) now f.stretches) (sym h.same)
      ∙ looked-for (is_looking r s) (lost_in r.rack.delivered (window_of r s) now r.rack.stretches) (start, end) lost)
      within out;
}
