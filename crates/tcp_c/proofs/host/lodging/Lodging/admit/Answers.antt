use Rattle.std.proofs.Common.{None, refl, sym, subst, rules}
use Rattle.tcp_c.specs.Hosts.{Admits}
use Rattle.tcp_c.specs.declared.host.lodger.Lodger.{Lodger}
use Rattle.tcp_c.specs.declared.records.CHostId.{CHostId}
use Rattle.tcp_c.proofs.host.lodging.Lodging.admit.Goals as goal

-- the end of the host is the connection, where it lies
pub returns-in-Ok : goal.returns-in-Ok
returns-in-Ok c =
    let g : Lodger = record { driven = c.args.driven } in let e = c.in-Ok.ensures in
    subst (λ (x : CHostId). Admits _ c.args.self.now.host c.admit.new.self c.args.origin c.args.pair c.args.driven.value None 0 x) (sym c.id_told.ensures)
    (record {
      moves = record {
        was_free = λ _. e.was_free;
        number = λ _. e.number;
        above = λ _. e.above;
        next = λ _. e.next;
        turn = λ _. e.turn;
        moved = λ _. refl;
        refused = λ n. absurd (n refl);
        refused_next = λ n. absurd (n refl);
        refused_waiting = λ n. absurd (n refl);
        unnamed = λ n. absurd (n refl);
        stays = λ n. absurd (n refl);
      };
      opened = λ _. (g, refl, e.opened);
      admitted = λ _. (g, refl, e.admitted);
      room = λ _. e.room;
      is_taken = λ p. absurd (search rules);
      no_record = λ _. e.no_record;
      free = λ _. search rules;
      is_gone = λ p. absurd (search rules);
      full = λ p. absurd (search rules);
      listeners = λ n. absurd (n refl);
      else_memory = λ n. absurd (n refl);
      others = e.others;
    })
