use Rattle.tcp_replay.proofs.Words.{ap, append-nil, arith, common_steps, due_for, length, List, None, Option, party_out, PartyState, refl, segment_as, sent_by}
use Rattle.tcp_replay.proofs.Words.{SentSegment, sym, ℕ, ◌∙◌, ◌≡◌}
use Rattle.tcp_replay.proofs.run.Parties.{emission_is, outcome_is, segment_to}
use Rattle.tcp_replay.proofs.party.Party.emit.Goals as goal

pub returns-in_default-clause-state : goal.returns-in_default-clause-state
returns-in_default-clause-state g c =
    let none : ◌≡◌ {A = Option (List ℕ × List ℕ)} None (segment_as c.self.inside.endpoint (due_for c.args.alone c.self.inside.endpoint)) = grind (arith, common_steps) in
    emission_is _ _ c.emit_for.new.endpoint _ None none c.in_ok-bytes.ensures.state (rw c.in_ok-bytes.ensures.list (sym (append-nil _))) ∙
    ap (λ (p : PartyState). party_out p (due_for c.args.alone p.endpoint)) c.self.view_is

pub returns-in_default-clause-outcome : goal.returns-in_default-clause-outcome
returns-in_default-clause-outcome g c =
    let none : ◌≡◌ {A = Option (List ℕ × List ℕ)} None (segment_as c.args.self.now.endpoint (due_for c.args.alone c.args.self.now.endpoint)) = grind (arith, common_steps) in
    outcome_is c.args.self.now _ (length c.args.self.now.sent) None none refl

pub returns-clause-state : goal.returns-clause-state
returns-clause-state g c =
    let some : segment_to c.in-Some.field-0-0.0 c.in-Some.bytes.items ≡ segment_as c.self.inside.endpoint (due_for c.args.alone c.self.inside.endpoint) = grind (arith, common_steps) in
    let kept : ◌≡◌ {A = SentSegment} (record { bytes = c.in-Some.bytes.items; position = c.position-position.result; wanted = c.rcv_position-wanted.result })
    (sent_by c.self.inside.endpoint c.in-Some.bytes.items) = grind (arith, common_steps) in
    emission_is _ _ c.emit_for.new.endpoint _ (segment_to c.in-Some.field-0-0.0 c.in-Some.bytes.items) some c.in_ok-bytes.ensures.state
    (rw (c.push_reserved.ensures.items, c.in_ok-bytes.ensures.list, kept) refl) ∙ ap (λ (p : PartyState). party_out p (due_for c.args.alone p.endpoint)) c.self.view_is

pub returns-clause-outcome : goal.returns-clause-outcome
returns-clause-outcome g c =
    let some : segment_to c.in-Some.field-0-0.0 c.in-Some.bytes.items ≡ segment_as c.args.self.now.endpoint (due_for c.args.alone c.args.self.now.endpoint) = grind (arith, common_steps) in
    let sent : length c.self.inside.sent.items ≡ length c.args.self.now.sent = ap (λ (p : PartyState). length p.sent) c.self.view_is in
    let count : c.len-number.result ≡ length c.self.inside.sent.items = grind (arith, common_steps) in
    outcome_is c.args.self.now _ c.len-number.result (segment_to c.in-Some.field-0-0.0 c.in-Some.bytes.items) some (count ∙ sent)
