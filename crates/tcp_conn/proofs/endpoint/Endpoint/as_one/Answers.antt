use Rattle.std.proofs.Common.{◌∙◌, ap}
use Rattle.tcp_conn.specs.declared.emit.due.Due.TheVariants.{Text}
use Rattle.tcp_conn.proofs.Together.{more-than-one}
use Rattle.tcp_conn.proofs.endpoint.Endpoint.as_one.Goals as goal

pub text_as_one-count-requires-clause-together : goal.text_as_one-count-requires-clause-together
text_as_one-count-requires-clause-together g c =
    c.requires.together c.in-NewText.start c.in-NewText.each (c.in-Text.is ∙ ap Text c.in-NewText.is) (more-than-one c.args.segments c.requires.some c.if-segments-eq1.false)
