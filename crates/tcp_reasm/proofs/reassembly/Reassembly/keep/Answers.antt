use Rattle.std.proofs.Common.{ℕ, List, ap, sym, ◌∙◌, length}
use Rattle.std.specs.Prelude.{if◌then◌else◌, Option}
use Rattle.tcp_reasm.specs.declared.placed.Placed.TheVariants.{NotKept}
use Rattle.tcp_reasm.specs.Reassembly.{Cell, Inbox, runs, with_overlay, bytes_in_order, answer_for}
use Rattle.tcp_reasm.specs.Store.{overlay_at}
use Rattle.tcp_reasm.proofs.Choices.{next_kept, few_kept, many_refused, advanced_answer}
use Rattle.tcp_reasm.proofs.reassembly.Reassembly.keep.Goals as goal

pub returns-then-start-eq0-clause-after : goal.returns-then-start-eq0-clause-after
returns-then-start-eq0-clause-after g c =
    let q : Inbox = c.args.self.now in
    let over : List (Option Cell) = overlay_at q c.args.start c.args.text.now in
    c.advance.ensures.after.0
    ∙ ap (λ start. with_overlay q (overlay_at q start c.args.text.now)) (sym c.if-start-eq0.true)
    ∙ ap (λ b. if b then q else with_overlay q over) (sym (next_kept c.args.self.now.most_runs c.args.start (length (runs over)) c.if-start-eq0.true))

pub returns-then-start-eq0-clause-answer : goal.returns-then-start-eq0-clause-answer
returns-then-start-eq0-clause-answer g c =
    let q : Inbox = c.args.self.now in
    let over : List (Option Cell) = overlay_at q c.args.start c.args.text.now in
    advanced_answer c.advance.result c.advance.ensures.after.2
    ∙ ap answer_for (c.advance.ensures.after.1 ∙ ap (λ start. length (bytes_in_order (overlay_at q start c.args.text.now))) (sym c.if-start-eq0.true))
    ∙ ap (λ b. if b then NotKept else answer_for (length (bytes_in_order over))) (sym (next_kept c.args.self.now.most_runs c.args.start (length (runs over)) c.if-start-eq0.true))

pub returns-then-hold-clause-after : goal.returns-then-hold-clause-after
returns-then-hold-clause-after g c =
    let q : Inbox = c.args.self.now in
    let over : List (Option Cell) = overlay_at q c.args.start c.args.text.now in
    c.hold.ensures.after
    ∙ ap (λ b. if b then with_overlay q over else q) c.if-hold.true
    ∙ ap (λ b. if b then q else with_overlay q over) (sym (few_kept c.args.self.now.most_runs c.args.start (length (runs over)) (sym c.if-hold.true ∙ c.hold.ensures.kept)))

pub returns-then-hold-clause-answer : goal.returns-then-hold-clause-answer
returns-then-hold-clause-answer g c =
    let q : Inbox = c.args.self.now in
    let over : List (Option Cell) = overlay_at q c.args.start c.args.text.now in
    ap (λ (bytes : List ℕ). answer_for (length bytes)) (sym c.hold.ensures.none)
    ∙ ap (λ b. if b then NotKept else answer_for (length (bytes_in_order over))) (sym (few_kept c.args.self.now.most_runs c.args.start (length (runs over)) (sym c.if-hold.true ∙ c.hold.ensures.kept)))

pub returns-else-hold-clause-after : goal.returns-else-hold-clause-after
returns-else-hold-clause-after g c =
    let q : Inbox = c.args.self.now in
    let over : List (Option Cell) = overlay_at q c.args.start c.args.text.now in
    c.hold.ensures.after
    ∙ ap (λ b. if b then with_overlay q over else q) c.if-hold.false
    ∙ ap (λ b. if b then q else with_overlay q over) (sym (many_refused c.args.self.now.most_runs c.args.start (length (runs over)) c.if-start-eq0.false (sym c.if-hold.false ∙ c.hold.ensures.kept)))

pub returns-else-hold-clause-answer : goal.returns-else-hold-clause-answer
returns-else-hold-clause-answer g c =
    let q : Inbox = c.args.self.now in
    let over : List (Option Cell) = overlay_at q c.args.start c.args.text.now in
    ap (λ b. if b then NotKept else answer_for (length (bytes_in_order over))) (sym (many_refused c.args.self.now.most_runs c.args.start (length (runs over)) c.if-start-eq0.false (sym c.if-hold.false ∙ c.hold.ensures.kept)))
