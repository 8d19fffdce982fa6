-- What leaves no more of an end in the network than there was, and what is sent in order.
use Rattle.std.proofs.Common.{◌≡◌, ℕ, ◌-◌, ◌≤◌, Bool, true, false, arith, refl}
use Rattle.std.specs.Prelude.{not, ◌&&◌, if◌then◌else◌}
use Rattle.tcp_halves.specs.Sender.{Sending, with_syn_acked, with_window, without_resend, without_text}
use Rattle.tcp_conn.specs.declared.phase.Phase.{Phase}
use Rattle.tcp_conn.specs.declared.phase.Phase.TheVariants.{Closed, Listen, SynSent, SynReceived, Established, FinWait1, FinWait2, CloseWait, Closing, LastAck, TimeWait}
use Rattle.tcp_conn.specs.Calls.{phase_after_close}
use Rattle.tcp_conn.specs.Phase.{is_closed, is_handshake, phase_after_fin, phase_after_own_fin, sends_text}
use Rattle.tcp_conn.specs.State.{State}
use Rattle.tcp_network.proofs.Steps.{Leaves, discarded, left, no_more, over, said_less}
use Rattle.tcp_network.specs.NetworkOfEnds.{IsInOrder}

-- what holds of an end, and what it has in the network
abbrev pub InOrder : Sending → Phase → Bool → Type 0
InOrder d phase closing = IsInOrder d (is_handshake phase) (not closing && not (is_closed phase))

abbrev pub left_in : Phase → Sending → ℕ
left_in phase d = if sends_text phase then left d else 0

pub record Moves (from : Phase) (d : Sending) (phase : Phase) (closing : Bool) (after : Sending) : Type 0 where
  pub order : InOrder after phase closing
  pub fewer : left_in phase after ≤ left_in from d

abbrev pub Ordered : State → Type 0
Ordered s = InOrder s.sending s.phase s.closing

abbrev pub Quiet : State → State → Type 0
Quiet s after = Moves s.phase s.sending after.phase after.closing after.sending

pub same : (s : State) → Ordered s → Quiet s s
same s p = record { order = p; fewer = no_more (left_in s.phase s.sending) }

pub then_quiet : (s one two : State) → Quiet s one → Quiet one two → Quiet s two
then_quiet s one two a b = record { order = b.order; fewer = omega (arith, a.fewer, b.fewer) }

pub either : (s one two : State) (b : Bool) → Quiet s one → Quiet s two → Quiet s (if b then one else two)
either s one two true a e = a
either s one two false a e = e

-- in the same phase
if-left : (b : Bool) (x y : ℕ) → y ≤ x → (if b then y else 0) ≤ (if b then x else 0)
if-left true x y e = e
if-left false x y e = omega arith

pub stays : (phase : Phase) (closing : Bool) (d after : Sending)
    → Leaves d after (is_handshake phase) (not closing && not (is_closed phase)) → Moves phase d phase closing after
stays phase closing d after l = record { order = l.order; fewer = if-left (sends_text phase) (left d) (left after) l.fewer }

-- ---- IN A LATER PHASE
pub record Later (from phase : Phase) : Type 0 where
  pub handshake : is_handshake phase ≡ true → is_handshake from ≡ true
  pub closed : not (is_closed phase) ≡ true → not (is_closed from) ≡ true
  pub sends : sends_text phase ≡ true → sends_text from ≡ true

pub no_later : (phase : Phase) → Later phase phase
no_later phase = record { handshake = λ e. e; closed = λ e. e; sends = λ e. e }

pub later_if : (from phase : Phase) (b : Bool) → Later from phase → Later from (if b then phase else from)
later_if from phase true l = l
later_if from phase false l = no_later from

fewer-by : (before after : Bool) (x : ℕ) → (after ≡ true → before ≡ true) → (if after then x else 0) ≤ (if before then x else 0)
fewer-by before false x e = omega arith
fewer-by true true x e = no_more x
fewer-by false true x e = let never : false ≡ true = e refl in absurd (cc)

unclosed-by : (closing before after : Bool) → (after ≡ true → before ≡ true) → (not closing && after) ≡ true
    → (not closing && before) ≡ true
unclosed-by true before after e f = absurd (cc)
unclosed-by false before after e f = e f

pub moves_on : (from phase : Phase) (closing : Bool) (d : Sending) → Later from phase → InOrder d from closing
    → Moves from d phase closing d
moves_on from phase closing d l p = record {
  order = said_less d _ _ (is_handshake phase) (not closing && not (is_closed phase)) l.handshake
      (unclosed-by closing (not (is_closed from)) (not (is_closed phase)) l.closed) p;
  fewer = fewer-by (sends_text from) (sends_text phase) (left d) l.sends;
}

-- behind a close nothing new is sent
pub closes_on : (from phase : Phase) (closing : Bool) (d : Sending) → Later from phase → InOrder d from closing → Moves from d phase true d
closes_on from phase closing d l p = record {
  order = said_less d _ _ (is_handshake phase) false l.handshake (λ e. absurd (cc)) p;
  fewer = fewer-by (sends_text from) (sends_text phase) (left d) l.sends;
}

pub after_own_fin_later : (phase : Phase) → Later phase (phase_after_own_fin phase)
after_own_fin_later Closed = no_later Closed
after_own_fin_later Listen = no_later Listen
after_own_fin_later SynSent = no_later SynSent
after_own_fin_later SynReceived = no_later SynReceived
after_own_fin_later Established = no_later Established
after_own_fin_later FinWait1 = record { handshake = λ e. e; closed = λ e. e; sends = λ e. refl }
after_own_fin_later FinWait2 = no_later FinWait2
after_own_fin_later CloseWait = no_later CloseWait
after_own_fin_later Closing = record { handshake = λ e. e; closed = λ e. e; sends = λ e. refl }
after_own_fin_later LastAck = no_later LastAck
after_own_fin_later TimeWait = no_later TimeWait

pub after_fin_later : (phase : Phase) → Later phase (phase_after_fin phase)
after_fin_later Closed = no_later Closed
after_fin_later Listen = no_later Listen
after_fin_later SynSent = no_later SynSent
after_fin_later SynReceived = no_later SynReceived
after_fin_later Established = record { handshake = λ e. e; closed = λ e. e; sends = λ e. e }
after_fin_later FinWait1 = record { handshake = λ e. e; closed = λ e. e; sends = λ e. e }
after_fin_later FinWait2 = record { handshake = λ e. e; closed = λ e. e; sends = λ e. e }
after_fin_later CloseWait = no_later CloseWait
after_fin_later Closing = no_later Closing
after_fin_later LastAck = no_later LastAck
after_fin_later TimeWait = no_later TimeWait

pub after_close_later : (phase : Phase) → Later phase (phase_after_close phase)
after_close_later Closed = no_later Closed
after_close_later Listen = no_later Listen
after_close_later SynSent = no_later SynSent
after_close_later SynReceived = no_later SynReceived
after_close_later Established = record { handshake = λ e. e; closed = λ e. e; sends = λ e. e }
after_close_later FinWait1 = no_later FinWait1
after_close_later FinWait2 = no_later FinWait2
after_close_later CloseWait = record { handshake = λ e. e; closed = λ e. e; sends = λ e. e }
after_close_later Closing = no_later Closing
after_close_later LastAck = no_later LastAck
after_close_later TimeWait = no_later TimeWait

-- ---- THE END IS OVER
never : (x : Bool) → (x && false) ≡ true → false ≡ true
never true e = e
never false e = e

pub ends : (from : Phase) (closing after : Bool) (d : Sending) → InOrder d from closing → Moves from d Closed after (without_resend d)
ends from closing after d p = record {
  order = said_less (without_resend d) false false false (not after && false) (λ e. e) (never (not after)) (over d _ _ p);
  fewer = omega arith;
}

pub discards : (from : Phase) (closing after : Bool) (d : Sending) → InOrder d from closing → Moves from d Closed after (without_text d)
discards from closing after d p = record {
  order = said_less (without_text d) false false false (not after && false) (λ e. e) (never (not after)) (discarded d _ _ p);
  fewer = omega arith;
}

-- ---- THIS END'S SYN IS ACKNOWLEDGED: nothing is in flight
pub syn_acked : (d : Sending) (seq ack window : ℕ) (unclosed : Bool) → IsInOrder d true unclosed
    → IsInOrder (with_window (with_syn_acked d) seq ack window) false unclosed
syn_acked d seq ack window unclosed p = record {
  flags = p.flags;
  una = λ some. p.syn refl;
  syn = λ e. absurd (cc);
  text = λ t. let q = p.text t in record { una = p.syn refl; nxt = q.nxt; range = q.range };
}

pub none_left : (nxt marked most : ℕ) → nxt - nxt - marked ≤ most
none_left nxt marked most = omega arith
