use Rattle.std.proofs.Common.{◌≡◌, ◌+◌, ◌-◌, ℕ, List, arith, ap, sym, refl, ◌∙◌, length, take, drop}
use Rattle.std.specs.Prelude.{min}
use Rattle.tcp_reasm.specs.Reassembly.{Run, stamp_of_run}
use Rattle.tcp_reasm.specs.Rows.{newest}
use Rattle.tcp_reasm.specs.Store.{runs_in, ranked, laid, held_to, gap_to}
use Rattle.tcp_reasm.proofs.Gaps.{turn_goes_on}
use Rattle.std.proofs.lemmas.List.{drop_all}
use Rattle.tcp_reasm.proofs.Rings.{length_put, laid_nothing, take_put, drop_put, put_laid}
use Rattle.tcp_reasm.proofs.Turns.{turn_laid, turn_unread}
use Rattle.tcp_reasm.proofs.lay.lay_between.Goals as goal

pub loop-next-preserved : goal.loop-next-preserved
loop-next-preserved g c =
    let all : List Run = runs_in (newest c.args.table.now.base c.args.table.now.len c.args.table.now.rows.items) in
    let text : List ℕ = c.args.text.now in
    let place : ℕ = c.args.place in
    let next : ℕ = c.loop-next.next in
    let end : ℕ = place + length text in
    let from : ℕ = c.held_past-from.result.0 in
    let to : ℕ = c.free_to-to.result in
    let size : to - place - (from - place) ≡ to - from = omega arith in
    let middle : List ℕ = take (to - place - (from - place)) (drop (from - place) text) in
    let is_from : from ≡ min (held_to all next) end = c.held_past-from.ensures.value in
    let is_middle : middle ≡ take (to - from) (drop (from - place) text) = ap (λ n. take n (drop (from - place) text)) size in
    record {
      least = omega arith;
      most = omega arith;
      before = c.free_to-to.ensures.before;
      here = c.free_to-to.ensures.here;
      ready = omega arith;
      size = ap length c.write.ensures.bytes ∙ length_put (c.args.unread + from) middle c.loop-next.ring.bytes ∙ c.loop-next.invariant.size;
      unread = turn_unread c.args.unread from middle c.loop-next.ring.bytes c.write.new.self.bytes c.write.ensures.bytes ∙ c.loop-next.invariant.unread;
      window =
          turn_laid all place next from to end c.args.unread text middle c.loop-next.ring.bytes c.write.new.self.bytes (omega arith) (omega arith) refl is_from c.free_to-to.ensures.value is_middle c.write.ensures.bytes
          ∙ c.loop-next.invariant.window;
    }

pub loop-next-smaller : goal.loop-next-smaller
loop-next-smaller g c =
    let all : List Run = runs_in (newest c.args.table.now.base c.args.table.now.len c.args.table.now.rows.items) in
    let end : ℕ = c.args.place + length c.args.text.now in
    let from : c.held_past-from.result.0 ≡ min (held_to all c.loop-next.next) end = c.held_past-from.ensures.value in
    let further = turn_goes_on all c.loop-next.next end (omega arith) in
    let to : c.free_to-to.result ≡ gap_to all (min (held_to all c.loop-next.next) end) end = c.free_to-to.ensures.value ∙ ap (λ n. gap_to all n end) from in
    omega (arith, further, to)

pub returns-clause-window : goal.returns-clause-window
returns-clause-window g c =
    let stamps = stamp_of_run (ranked (runs_in (newest c.args.table.now.base c.args.table.now.len c.args.table.now.rows.items))) in
    let next : ℕ = c.loop-next.next in
    let bytes : List ℕ = drop c.args.unread c.loop-next.ring.bytes in
    sym (laid_nothing stamps 0 next bytes)
    ∙ ap (λ (rest : List ℕ). laid stamps 0 next rest bytes) (sym (drop_all (next - c.args.place) c.args.text.now (omega arith)))
    ∙ c.loop-next.invariant.window
