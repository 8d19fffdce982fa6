use Rattle.tcp_judge.proofs.run_list.add_spans.Goals as goal

pub returns : goal.returns
returns g c h = c.order.ensures c.args.acked_number.0 c.args.spans.now (c.append_spans-at.ensures h)
