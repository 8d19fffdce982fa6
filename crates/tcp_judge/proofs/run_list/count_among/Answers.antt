use Rattle.std.proofs.Common.{◌-◌, ◌<◌, length, arith}
use Rattle.tcp_judge.specs.Run.{number_before}
use Rattle.tcp_judge.proofs.Joining.{run-came}
use Rattle.tcp_judge.proofs.run_list.count_among.Goals as goal

pub returns : goal.returns
returns g c last spans all j less =
    let inside : c.count_up_to-place.result - 1 < length c.args.runs.now.items = omega (arith, c.as_slice.ensures.len) in
    run-came last spans c.args.runs.now.items (c.count_up_to-place.result - 1) (number_before c.args.wanted.0 j) c.index.result.now
    all inside c.index.ensures (c.count_in.ensures.came j less)
