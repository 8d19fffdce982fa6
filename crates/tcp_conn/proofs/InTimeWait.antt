-- The invariant of an end in TIME-WAIT whose place a TIME-WAIT record can take, and that it is kept.
use Rattle.std.proofs.Common.{◌≡◌, ℕ, ◌-◌, ◌^◌, ◌<◌, zero, suc, List, [], ◌∷◌, length, replicate, refl, sym, ap, subst, ◌∙◌, arith}
use Rattle.std.specs.Prelude.{Bool, true, false, ◌&&◌, ◌==◌, not, nat_lt, None}
use Rattle.std.proofs.lemmas.Bool.Decides.{Decides-eqb, nat_tests}
use Rattle.tcp_wire.specs.Wire.{Content}
use Rattle.tcp_reasm.specs.Reassembly.{runs, runs_from}
use Rattle.tcp_halves.specs.declared.link.WaitingReset.{WaitingReset}
use Rattle.tcp_conn.specs.declared.phase.Ending.{Ending}
use Rattle.tcp_conn.specs.declared.phase.Ending.TheVariants as endings
use Rattle.tcp_conn.specs.declared.phase.Phase.{Phase}
use Rattle.tcp_conn.specs.declared.phase.Phase.TheVariants as phases
use Rattle.tcp_conn.specs.Arrival.{after_taking, after_taking_shut, after_window_and_blocks, first_reset, with_ack_pending_unless_closed, with_reset}
use Rattle.tcp_conn.specs.Endings.{after_discarding, after_orderly_end}
use Rattle.tcp_conn.specs.Phase.{is_ended, is_handshake, is_time_wait, sends_text}
use Rattle.tcp_conn.specs.TimeWait.{TimeWaitRecord, as_state, has_time_wait, time_wait_of, time_wait_phase}
use Rattle.tcp_conn.specs.State.{State, with_ack_pending}
use Rattle.tcp_conn.proofs.TimeWaits.{its-ack, kept, taken, taken-shut, taking, window_and_blocks-keep, with-ack}

-- THE INVARIANT, in TIME-WAIT and once the connection has ended
pub record IsInTimeWait (s : State) : Type 0 where
  pub isn : s.config.isn.0 < 2 ^ 32
  pub phase : s.phase ≡ time_wait_phase s.ending
  pub acked : s.sending.snd_una ≡ s.sending.snd_nxt
  pub read : s.receiving.inbox.unread ≡ []
  pub none_held : runs s.receiving.inbox.held ≡ []
  pub no_syn : s.pending.syn ≡ false

-- it holds of the end of a record,
no-runs : (place n : ℕ) → runs_from place (replicate n None) ≡ []
no-runs place zero = refl
no-runs place (suc n) = no-runs (suc place) n

pub time_wait-again : (s : State) → time_wait_of (as_state (time_wait_of s)) ≡ time_wait_of s
time_wait-again s = kept (time_wait_of s) (omega arith)

pub in-time_wait-of : (r : TimeWaitRecord) → r.snd_nxt < 2 ^ 32 → IsInTimeWait (as_state r)
in-time_wait-of r fits = record {
  isn = fits;
  phase = refl;
  acked = refl;
  read = refl;
  none_held = no-runs 0 r.window;
  no_syn = refl;
}

pub in-time_wait : (s : State) → IsInTimeWait (as_state (time_wait_of s))
in-time_wait s = in-time_wait-of (time_wait_of s) (omega arith)

-- and of an end whose place a record can take
and-left : (a b : Bool) → (a && b) ≡ true → a ≡ true
and-left true b e = refl
and-left false b e = e

and-right : (a b : Bool) → (a && b) ≡ true → b ≡ true
and-right true b e = e
and-right false b e = absurd (cc)

not-so : (b : Bool) → not b ≡ true → b ≡ false
not-so true e = absurd (cc)
not-so false e = refl

none-in : {A : Type 0} (xs : List A) → nat_lt 0 (length xs) ≡ false → xs ≡ []
none-in [] e = refl
none-in (x ∷ xs) e = absurd (grind (arith, nat_tests, e))

none-of : {A : Type 0} (xs : List A) → length xs == 0 ≡ true → xs ≡ []
none-of [] e = refl
none-of (x ∷ xs) e = absurd (grind (arith, nat_tests, e))

in-time-wait : (phase : Phase) → is_time_wait phase ≡ true → phase ≡ phases.TimeWait
in-time-wait phases.Closed e = absurd (cc)
in-time-wait phases.Listen e = absurd (cc)
in-time-wait phases.SynSent e = absurd (cc)
in-time-wait phases.SynReceived e = absurd (cc)
in-time-wait phases.Established e = absurd (cc)
in-time-wait phases.FinWait1 e = absurd (cc)
in-time-wait phases.FinWait2 e = absurd (cc)
in-time-wait phases.CloseWait e = absurd (cc)
in-time-wait phases.Closing e = absurd (cc)
in-time-wait phases.LastAck e = absurd (cc)
in-time-wait phases.TimeWait e = refl

goes-on : (ending : Ending) → is_ended ending ≡ false → phases.TimeWait ≡ time_wait_phase ending
goes-on endings.NotEnded e = refl
goes-on endings.Orderly e = absurd (cc)
goes-on endings.Reset e = absurd (cc)
goes-on endings.Aborted e = absurd (cc)

pub begins : (s : State) → s.config.isn.0 < 2 ^ 32 → has_time_wait s ≡ true → IsInTimeWait s
begins s fits e =
    let both = and-left _ _ e in
    let waits = and-left _ _ both in
    let empty = and-right _ _ both in
    let settled = and-right _ _ e in
    record {
      isn = fits;
      phase = in-time-wait s.phase (and-left _ _ waits) ∙ goes-on s.ending (not-so _ (and-right _ _ waits));
      acked = (Decides-eqb s.sending.snd_una s.sending.snd_nxt).0 (and-left _ _ settled);
      read = none-of s.receiving.inbox.unread (and-left _ _ empty);
      none_held = none-in (runs s.receiving.inbox.held) (not-so _ (and-right _ _ empty));
      no_syn = not-so s.pending.syn (and-right _ _ settled);
    }

-- THE RECORD AFTER AN EVENT is this one, and the invariant still holds
pub record Goes (s : State) (r : TimeWaitRecord) : Type 0 where
  pub rests : time_wait_of s ≡ r
  pub in_time_wait : IsInTimeWait s

pub quiet : (ending : Ending) → sends_text (time_wait_phase ending) ≡ false
quiet endings.NotEnded = refl
quiet endings.Orderly = refl
quiet endings.Reset = refl
quiet endings.Aborted = refl

pub no-handshake : (ending : Ending) → is_handshake (time_wait_phase ending) ≡ false
no-handshake endings.NotEnded = refl
no-handshake endings.Orderly = refl
no-handshake endings.Reset = refl
no-handshake endings.Aborted = refl

-- the connection ends
pub ends : (s : State) (ending : Ending) → IsInTimeWait s → phases.Closed ≡ time_wait_phase ending → Goes (after_discarding s ending) (record (time_wait_of s) { ending = ending; ack = false })
ends s ending h closed = record {
  rests = ap (λ (unread : List ℕ). record (time_wait_of s) { ending = ending; ack = false; window = s.receiving.inbox.capacity - length unread }) (sym h.read);
  in_time_wait = record { isn = h.isn; phase = closed; acked = h.acked; read = refl; none_held = no-runs 0 s.receiving.inbox.capacity; no_syn = refl };
}

pub ends-orderly : (s : State) → IsInTimeWait s → Goes (after_orderly_end s) (record (time_wait_of s) { ending = endings.Orderly; ack = false })
ends-orderly s h = record {
  rests = refl;
  in_time_wait = record { isn = h.isn; phase = refl; acked = h.acked; read = h.read; none_held = h.none_held; no_syn = refl };
}

pub has_pending : (s : State) → IsInTimeWait s → Goes (with_ack_pending s) (with-ack (time_wait_of s))
has_pending s h = record {
  rests = refl;
  in_time_wait = record { isn = h.isn; phase = h.phase; acked = h.acked; read = h.read; none_held = h.none_held; no_syn = h.no_syn };
}

pub recorded : (s : State) (reset : WaitingReset) → IsInTimeWait s → Goes (with_reset s reset) (record (time_wait_of s) { reset = first_reset s.pending.reset reset })
recorded s reset h = record {
  rests = refl;
  in_time_wait = record { isn = h.isn; phase = h.phase; acked = h.acked; read = h.read; none_held = h.none_held; no_syn = h.no_syn };
}

window_and_blocks-in-time_wait : (s : State) (v : Content) → IsInTimeWait s → IsInTimeWait (after_window_and_blocks s v)
unfolding after_window_and_blocks
window_and_blocks-in-time_wait s v h = record {
  isn = h.isn;
  phase = h.phase;
  acked = (window_and_blocks-keep s v).0 ∙ h.acked ∙ sym (window_and_blocks-keep s v).1;
  read = h.read;
  none_held = h.none_held;
  no_syn = h.no_syn;
}

pub takes : (s : State) (v : Content) → IsInTimeWait s → s.phase ≡ phases.TimeWait → Goes (after_taking s v) (time_wait_of s)
takes s v h waits = record {
  rests = taken s v waits h.acked;
  in_time_wait = subst IsInTimeWait (sym (taking s v waits h.acked)) (window_and_blocks-in-time_wait s v h);
}

shut-in-time_wait : (s : State) → IsInTimeWait s → IsInTimeWait (with_ack_pending_unless_closed s)
shut-in-time_wait s h = record { isn = h.isn; phase = h.phase; acked = h.acked; read = h.read; none_held = h.none_held; no_syn = h.no_syn }

pub takes-shut : (s : State) (v : Content) → IsInTimeWait s → s.phase ≡ phases.TimeWait → Goes (after_taking_shut s v) (with-ack (time_wait_of s))
unfolding after_taking_shut
takes-shut s v h waits = record {
  rests = taken-shut s v waits h.acked;
  in_time_wait = subst (λ s'. IsInTimeWait (with_ack_pending_unless_closed s')) (sym (its-ack s v waits h.acked)) (shut-in-time_wait (after_window_and_blocks s v) (window_and_blocks-in-time_wait s v h));
}
