-- What has to be answered at once has an answer that is due.
use Rattle.std.proofs.Common.{◌≡◌, ℕ, List, refl}
use Rattle.std.specs.Prelude.{Bool, true, false, ◌||◌, ◌&&◌, if◌then◌else◌, Option, Some, None, is_some, Result, Ok, Err}
use Rattle.std.specs.Option.{option_or}
use Rattle.tcp_wire.specs.Decoded.{decode_answer}
use Rattle.tcp_wire.specs.Wire.{Content}
use Rattle.tcp_wire.specs.declared.fault.DecodeError.{DecodeError}
use Rattle.tcp_conn.specs.declared.emit.due.Due.{Due}
use Rattle.tcp_conn.specs.declared.arrive.judgement.Judgement.{Judgement}
use Rattle.tcp_conn.specs.declared.arrive.judgement.Judgement.TheVariants.{Foreign, ResetIgnored, Stray, AckOfListen, OpensNothing, PeerOpens, AckOfNoSyn, PeerRefuses, PeerAccepts, Unacceptable, PeerResets, ResetElsewhere, SynInWindow, NoAck, AcksUnsent, HandshakeRefused, HandshakeRefusedShut, Taken, TakenShut}
use Rattle.tcp_conn.specs.declared.pending.Pending.{Pending}
use Rattle.tcp_halves.specs.declared.link.WaitingReset.{WaitingReset}
use Rattle.tcp_conn.specs.Arrival.{after_arrival, after_judgement, after_peer_accepts, after_peer_opens, after_reading, first_reset}
use Rattle.tcp_conn.specs.AtOnce.{UrgentIsDue, answers_at_once, breaks_order, is_urgent, is_urgent_reading}
use Rattle.tcp_conn.specs.Due.{ack_due, due_of, reset_due, syn_due, text_due}
use Rattle.tcp_conn.specs.State.{State}

-- a reset, a SYN or an acknowledgement
abbrev has_pending : Pending → Bool
has_pending o = is_some o.reset || (o.syn || o.ack)

some-or : (one other : Option Due) → is_some (option_or one other) ≡ (is_some one || is_some other)
some-or None other = refl
some-or (Some due) other = refl

some-reset : (reset : Option WaitingReset) → is_some (reset_due reset) ≡ is_some reset
some-reset None = refl
some-reset (Some reset) = refl

some-if : (b : Bool) (due : Due) → is_some (if b then Some due else None) ≡ b
some-if true due = refl
some-if false due = refl

with-text : (reset syn text ack : Bool) → (reset || (syn || ack)) ≡ true → (reset || (syn || (text || ack))) ≡ true
with-text true syn text ack e = refl
with-text false true text ack e = refl
with-text false false true ack e = refl
with-text false false false ack e = e

pending-due : (s : State) → has_pending s.pending ≡ true → is_some (due_of s) ≡ true
unfolding due_of
pending-due s e =
    rw (
      some-or (reset_due s.pending.reset) (option_or (syn_due s.pending) (option_or (text_due s) (ack_due s.pending))),
      some-reset s.pending.reset,
      some-or (syn_due s.pending) (option_or (text_due s) (ack_due s.pending)),
      some-if s.pending.syn Due.Syn,
      some-or (text_due s) (ack_due s.pending),
      some-if s.pending.ack Due.Acknowledgement,
    )
    (with-text (is_some s.pending.reset) s.pending.syn (is_some (text_due s)) s.pending.ack e)

-- SOMETHING IS PENDING
or-right : (b : Bool) → b || true ≡ true
or-right true = refl
or-right false = refl

by-ack : (o : Pending) → o.ack ≡ true → has_pending o ≡ true
by-ack o e = rw (e, or-right o.syn, or-right (is_some o.reset)) refl

by-syn : (o : Pending) → o.syn ≡ true → has_pending o ≡ true
by-syn o e = rw (e, or-right (is_some o.reset)) refl

by-reset : (o : Pending) → is_some o.reset ≡ true → has_pending o ≡ true
by-reset o e = rw e refl

first-some : (waiting : Option WaitingReset) (reset : WaitingReset) → is_some (first_reset waiting reset) ≡ true
first-some None reset = refl
first-some (Some waiting) reset = refl

and-left : (a b : Bool) → (a && b) ≡ true → a ≡ true
and-left true b e = refl
and-left false b e = e

urgent-pending : (j : Judgement) (had_gap : Bool) (s : State) (src : List ℕ) (v : Content)
    → is_urgent j had_gap (after_judgement j s src v) v ≡ true → has_pending (after_judgement j s src v).pending ≡ true
unfolding after_peer_opens after_peer_accepts
urgent-pending Foreign had_gap s src v e = absurd (cc)
urgent-pending ResetIgnored had_gap s src v e = absurd (cc)
urgent-pending Stray had_gap s src v e = by-reset (after_judgement Stray s src v).pending (first-some s.pending.reset _)
urgent-pending AckOfListen had_gap s src v e = by-reset (after_judgement AckOfListen s src v).pending (first-some s.pending.reset _)
urgent-pending OpensNothing had_gap s src v e = absurd (cc)
urgent-pending PeerOpens had_gap s src v e = by-syn (after_judgement PeerOpens s src v).pending refl
urgent-pending AckOfNoSyn had_gap s src v e = by-reset (after_judgement AckOfNoSyn s src v).pending (first-some s.pending.reset _)
urgent-pending PeerRefuses had_gap s src v e = absurd (cc)
urgent-pending PeerAccepts had_gap s src v e = by-ack (after_judgement PeerAccepts s src v).pending refl
urgent-pending Unacceptable had_gap s src v e = by-ack (after_judgement Unacceptable s src v).pending refl
urgent-pending PeerResets had_gap s src v e = absurd (cc)
urgent-pending ResetElsewhere had_gap s src v e = by-ack (after_judgement ResetElsewhere s src v).pending refl
urgent-pending SynInWindow had_gap s src v e = by-ack (after_judgement SynInWindow s src v).pending refl
urgent-pending NoAck had_gap s src v e = absurd (cc)
urgent-pending AcksUnsent had_gap s src v e = by-ack (after_judgement AcksUnsent s src v).pending refl
urgent-pending HandshakeRefused had_gap s src v e = by-reset (after_judgement HandshakeRefused s src v).pending (first-some s.pending.reset _)
urgent-pending HandshakeRefusedShut had_gap s src v e = by-ack (after_judgement HandshakeRefusedShut s src v).pending refl
urgent-pending Taken had_gap s src v e =
    let after = after_judgement Taken s src v in by-ack after.pending (and-left after.pending.ack (breaks_order had_gap after v) e)
urgent-pending TakenShut had_gap s src v e = by-ack (after_judgement TakenShut s src v).pending e

of-reading : (s : State) (src dst : List ℕ) (r : Result Content DecodeError) → is_urgent_reading s src dst r ≡ true
    → is_some (due_of (after_reading s src dst r)) ≡ true
of-reading s src dst (Ok v) e = pending-due _ (urgent-pending _ _ s src v e)
of-reading s src dst (Err fault) e = absurd (cc)

pub urgent_lem : UrgentIsDue
unfolding answers_at_once after_arrival
urgent_lem s src dst bytes e = of-reading s src dst (decode_answer src dst bytes) e
