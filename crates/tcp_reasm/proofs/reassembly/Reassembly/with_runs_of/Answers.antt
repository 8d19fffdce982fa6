use Rattle.tcp_reasm.proofs.Views.{kept_sound}
use Rattle.std.proofs.Common.{◌≡◌, List, [], ap, sym, subst, ◌∙◌, arith, length}
use Rattle.tcp_reasm.specs.declared.table.Run.{Run as Entry}
use Rattle.tcp_reasm.specs.Reassembly.{IsInbox, empty_with_runs}
use Rattle.tcp_reasm.specs.Store.{inbox_of}
use Rattle.tcp_reasm.proofs.Views.{empty_view}
use Rattle.tcp_reasm.proofs.reassembly.Reassembly.with_runs_of.Goals as goal

pub returns-clause-ok : goal.returns-clause-ok
returns-clause-ok g c =
    let size : length c.in-Ok.ring.bytes ≡ c.args.capacity = c.in-Ok.ensures in
    ap (λ (table : List Entry). inbox_of c.args.runs c.in-Ok.ring.bytes 0 table) c.in-Ok-new_in.ensures.none
    ∙ empty_view c.in-Ok.ring.bytes
    ∙ ap (λ n. empty_with_runs n c.args.runs) size

pub returns-clause-sound : goal.returns-clause-sound
returns-clause-sound g c =
    let size : length c.in-Ok.ring.bytes ≡ c.args.capacity = c.in-Ok.ensures in
    subst (λ (table : List Entry). IsInbox (inbox_of c.args.runs c.in-Ok.ring.bytes 0 table)) (sym c.in-Ok-new_in.ensures.none)
    (kept_sound c.in-Ok.ring.bytes 0 [] (record {
      some = omega (arith, size);
      most = omega (arith, size);
      fits = omega arith;
      inside = tt;
      away = tt;
      least_runs = c.requires.least;
      most_of_runs = c.requires.most;
      few = omega arith;
    }))
