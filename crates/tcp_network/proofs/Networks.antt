-- Of an end of a connection only what goes out puts anything into the network (RFC 9293, 3.3.1 and 3.10; RFC 6675, 4).
use Rattle.std.proofs.Common.{◌≡◌, ℕ, ◌-◌, ◌≤◌, Bool, true, false, List, length, Option, Some, None, arith, refl, sym, subst}
use Rattle.std.specs.Prelude.{not, ◌&&◌, nat_lt, if◌then◌else◌, max, IfSome}
use Rattle.std.specs.Option.{option_or}
use Rattle.std.proofs.lemmas.Bool.Decides.{nat_tests}
use Rattle.tcp_driver.specs.declared.machine.Timer.{Timer}
use Rattle.tcp_driver.specs.declared.machine.Timer.TheVariants as timers
use Rattle.tcp_sendq.specs.SendQueue.{count_marked, last_mark_end}
use Rattle.tcp_halves.specs.Sender.{Sending, end_of_text, is_in_flight, with_all_resent, with_first_resent, with_resent, with_text}
use Rattle.tcp_conn.specs.declared.outcome.CallError.{CallError}
use Rattle.tcp_conn.specs.Calls.{after_abort, after_acknowledge, after_close, after_closing, after_connect, after_listen, after_receive, after_send, close_refusal, is_unanswered, open_refusal, phase_after_close, receive_refusal, refusal_if, send_refusal, state_unless, with_abort, with_bytes_received, with_closing}
use Rattle.tcp_conn.specs.Due.{text_limit}
use Rattle.tcp_conn.specs.Emission.{after_ack_alone, after_emission}
use Rattle.tcp_conn.specs.Endings.{after_discarding, after_orderly_end}
use Rattle.tcp_conn.specs.declared.phase.Ending.TheVariants.{Aborted}
use Rattle.tcp_conn.specs.Guard.{after_intake}
use Rattle.tcp_conn.specs.Phase.{is_closed, is_ended, is_handshake, is_listening, is_time_wait, sends_text}
use Rattle.tcp_conn.specs.State.{State}
use Rattle.tcp_conn.specs.Timers.{after_gaps, after_reorder, after_resend, after_resend_first, after_retransmit, after_time_wait, marks_end, resends_between, sends_again}
use Rattle.tcp_end.specs.declared.wired.Wired.{Wired}
use Rattle.tcp_end.specs.Wired.{expired, intake_of, machine}
use Rattle.tcp_flow.specs.FlightOfEnds.{EachOpensSized, EndCountsFlight, IsSized}
use Rattle.tcp_network.proofs.Arriving.{arrives}
use Rattle.tcp_network.proofs.Counting.{last_end_within}
use Rattle.tcp_network.proofs.Moves.{Ordered, Quiet, after_close_later, closes_on, discards, either, ends, left_in, same, stays}
use Rattle.tcp_network.proofs.Outgoing.{alone_network, alone_order, alone_reported, emission_network, emission_order, emission_reported}
use Rattle.tcp_network.proofs.Steps.{Leaves, all_again, as_before, gaps_again, if_leaves, left, stretch_again, text_queued}
use Rattle.tcp_network.specs.Network.{PutsNothing, forgotten, in_network, network_with}
use Rattle.tcp_network.specs.NetworkOfEnds.{IsInOrder, EachOpensPlaced, EndCountsNetwork, IsPlaced, is_unclosed}

-- ---- A CALL of the user's
unless : (refusal : Option CallError) (s after : State) → Ordered s → (refusal ≡ None → Quiet s after)
    → Quiet s (state_unless refusal s after)
unless None s after p q = q refl
unless (Some error) s after p q = same s p

-- a text is taken before a close alone
no-first : (a b : Option CallError) → option_or a b ≡ None → a ≡ None
no-first None b e = refl
no-first (Some x) b e = absurd (cc)

no-second : (a b : Option CallError) → option_or a b ≡ None → b ≡ None
no-second None b e = e
no-second (Some x) b e = absurd (cc)

not-refused : (b : Bool) (error : CallError) → refusal_if b error ≡ None → b ≡ false
not-refused true error e = absurd (cc)
not-refused false error e = refl

unclosed : (closing closed : Bool) → closing ≡ false → closed ≡ false → (not closing && not closed) ≡ true
unclosed true closed e f = absurd (cc)
unclosed false true e f = absurd (cc)
unclosed false false e f = refl

is-unclosed : (s : State) (text : List ℕ) → send_refusal s text ≡ None → is_unclosed s ≡ true
is-unclosed s text e =
    let none = no-first (open_refusal s) _ e in
    let more = no-second (open_refusal s) _ e in
    let closed = not-refused (is_closed s.phase) _ (no-second (refusal_if (is_ended s.ending) _) _ none) in
    let rest = no-second (refusal_if (is_listening s.phase) _) _ more in
    let closing = not-refused s.closing _ (no-first (refusal_if s.closing _) _ rest) in
    unclosed s.closing (is_closed s.phase) closing closed

sends : (s : State) (text : List ℕ) → Ordered s → Quiet s (after_send s text)
unfolding after_send
sends s text p =
    unless (send_refusal s text) s (record s { sending = with_text s.sending s.config.limit text }) p
    (λ e. let is = is-unclosed s text e in
    let l = text_queued s.sending s.config.limit text (is_handshake s.phase) (subst (λ o. IsInOrder s.sending (is_handshake s.phase) o) is p) in
    stays s.phase s.closing s.sending (with_text s.sending s.config.limit text)
    (subst (λ o. Leaves s.sending (with_text s.sending s.config.limit text) (is_handshake s.phase) o) (sym is) l))

reads : (s : State) (room : ℕ) → Ordered s → Quiet s (after_receive s room)
unfolding after_receive
reads s room p = unless (receive_refusal s) s (with_bytes_received s room) p (λ e. same s p)

asks : (s : State) → Ordered s → Quiet s (after_acknowledge s)
unfolding after_acknowledge
asks s p = same s p

closes : (s : State) → Ordered s → Quiet s (after_close s)
unfolding after_close
closes s p =
    unless (close_refusal s) s (after_closing s) p
    (λ e. either s (record (after_discarding s Aborted) { closing = true }) (with_closing s) (is_unanswered s.phase) (discards s.phase s.closing true s.sending p)
    (closes_on s.phase (phase_after_close s.phase) s.closing s.sending (after_close_later s.phase) p))

aborts : (s : State) → Ordered s → Quiet s (after_abort s)
unfolding after_abort
aborts s p = unless (open_refusal s) s (with_abort s) p (λ e. discards s.phase s.closing s.closing s.sending p)

-- ---- A TIMER expires: that of retransmission forgets what blocks reported
none-between : (low high : ℕ) → nat_lt low high ≡ false → high ≤ low
none-between low high e = grind (arith, nat_tests, e)

all-by : (d : Sending) (h o b : Bool) → IsInOrder d h o → IsInOrder (if b then with_all_resent d else d) h o
all-by d h o true p = all_again d h o p
all-by d h o false p = p

-- where fewer are marked behind it, all that is in flight is left, and else no more than was
fewer-by : (sends more fewer : Bool) (una nxt marked now : ℕ) → nat_lt una nxt ≡ more → nat_lt now marked ≡ fewer
    → (if sends then nxt - una - now else 0)
    ≤ max (if sends then nxt - una - marked else 0) (if (sends && more) && fewer then nxt - una else 0)
fewer-by false more fewer una nxt marked now e f = omega arith
fewer-by true false fewer una nxt marked now e f = omega (arith, none-between una nxt e)
fewer-by true true true una nxt marked now e f = omega arith
fewer-by true true false una nxt marked now e f = omega (arith, none-between now marked f)

forgets-by : (d : Sending) (sends b : Bool)
    → (if sends then left (if b then with_all_resent d else d) else 0)
    ≤ max (if sends then left d else 0)
    (if (sends && is_in_flight (if b then with_all_resent d else d))
    && nat_lt (count_marked (if b then with_all_resent d else d).queue.marks) (count_marked d.queue.marks) then d.snd_nxt - d.snd_una else 0)
forgets-by d sends true =
    fewer-by sends (nat_lt d.snd_una d.snd_nxt) _ d.snd_una d.snd_nxt (count_marked d.queue.marks) (count_marked (with_all_resent d).queue.marks) refl refl
forgets-by d sends false =
    fewer-by sends (nat_lt d.snd_una d.snd_nxt) _ d.snd_una d.snd_nxt (count_marked d.queue.marks) (count_marked d.queue.marks) refl refl

retransmits : {A : Type 0} (w : Wired A) → Ordered w.end
    → Ordered (after_retransmit w.end)
    × (left_in (after_retransmit w.end).phase (after_retransmit w.end).sending
    ≤ max (left_in w.end.phase w.end.sending) (forgotten (machine {A = A}) w (record { end = after_retransmit w.end })))
unfolding after_retransmit
retransmits w p =
    let s = w.end in (all-by s.sending _ _ (sends_again s) p, forgets-by s.sending (sends_text s.phase) (sends_again s))

gaps-by : (d : Sending) (end : Option ℕ) (h o : Bool) → IfSome end (λ e. e ≤ length d.queue.marks) → IsInOrder d h o
    → Leaves d (after_gaps d end) h o
gaps-by d None h o e p = as_before d h o p
gaps-by d (Some end) h o e p = gaps_again d end h o e p

end-if : (b : Bool) (end : Option ℕ) (most : ℕ) → IfSome end (λ e. e ≤ most) → IfSome (if b then end else None) (λ e. e ≤ most)
end-if true end most e = e
end-if false end most e = tt

reorders : (s : State) → Ordered s → Quiet s (after_reorder s)
unfolding after_reorder
reorders s p =
    stays s.phase s.closing s.sending _
    (gaps-by s.sending (marks_end s) _ _ (end-if (sends_text s.phase) (last_mark_end s.sending.queue) _ (last_end_within s.sending.queue)) p)

rests : (s : State) → Ordered s → Quiet s (after_time_wait s)
unfolding after_time_wait
rests s p = either s (after_orderly_end s) s (is_time_wait s.phase) (ends s.phase s.closing s.closing s.sending p) (same s p)

-- ---- A CALLER has something sent again
resends-first : (s : State) → Ordered s → Quiet s (after_resend_first s)
unfolding after_resend_first
resends-first s p =
    stays s.phase s.closing s.sending _
    (if_leaves (sends_again s) s.sending (with_first_resent s.sending (text_limit s)) s.sending _ _ (stretch_again s.sending _ _ _ _ p) (as_before s.sending _ _ p))

resends : (s : State) (from to : ℕ) → Ordered s → Quiet s (after_resend s from to)
unfolding after_resend
resends s from to p =
    stays s.phase s.closing s.sending _
    (if_leaves (resends_between s from to) s.sending (with_resent s.sending from to) s.sending _ _ (stretch_again s.sending from to _ _ p) (as_before s.sending _ _ p))

-- ---- WHAT IS IN THE NETWORK of an end is what is in flight but what is marked, while text may be sent
in-by : (sends more : Bool) (una nxt marked : ℕ) → nat_lt una nxt ≡ more
    → (if sends && more then nxt - una - marked else 0) ≡ (if sends then nxt - una - marked else 0)
in-by false more una nxt marked e = refl
in-by true true una nxt marked e = refl
in-by true false una nxt marked e = omega (arith, none-between una nxt e)

counts : {A : Type 0} (w : Wired A) → in_network (machine {A = A}) w ≡ left_in w.end.phase w.end.sending
counts w =
    let d = w.end.sending in in-by (sends_text w.end.phase) (nat_lt d.snd_una d.snd_nxt) d.snd_una d.snd_nxt (count_marked d.queue.marks) refl

in-place : (a b x y : ℕ) → a ≡ x → b ≡ y → x ≤ y → a ≤ b
in-place a b x y e f g = omega (arith, e, f, g)

-- ---- SO THE END COUNTS WHAT IT HAS THERE
nothing : {A : Type 0} (does : State → State) → ((w : Wired A) → IsSized w → IsSized {A = A} (record { end = does w.end }))
    → ((s : State) → Ordered s → Quiet s (does s))
    → PutsNothing (machine {A = A}) IsPlaced (λ w. record { end = does w.end })
nothing {A = A} does sized q w a =
    let after : Wired A = record { end = does w.end } in
    let r = q w.end a.1 in
    ((sized w a.0, r.order), in-place _ _ _ _ (counts after) (counts w) r.fewer)

expires : {A : Type 0} → EndCountsFlight A → (timer : Timer) (w : Wired A) → IsPlaced w
    → IsPlaced {A = A} (record { end = expired w.end timer })
    × (in_network (machine {A = A}) (record { end = expired w.end timer })
    ≤ max (in_network (machine {A = A}) w) (forgotten (machine {A = A}) w (record { end = expired w.end timer })))
expires {A = A} h timers.Retransmit w a =
    let after : Wired A = record { end = after_retransmit w.end } in
    let r = retransmits {A = A} w a.1 in
    (((h.expired timers.Retransmit w a.0).0, r.0), omega (arith, counts after, counts w, r.1))
expires {A = A} h timers.Reorder w a =
    let r = nothing {A = A} after_reorder (λ w b. (h.expired timers.Reorder w b).0) reorders w a in (r.0, omega (arith, r.1))
expires {A = A} h timers.TimeWait w a =
    let r = nothing {A = A} after_time_wait (λ w b. (h.expired timers.TimeWait w b).0) rests w a in (r.0, omega (arith, r.1))
expires {A = A} h timers.User w a =
    let r = nothing {A = A} after_abort (λ w b. (h.expired timers.User w b).0) aborts w a in (r.0, omega (arith, r.1))

emits : {A : Type 0} → EndCountsFlight A → (w : Wired A) → IsPlaced w
    → IsPlaced {A = A} (record { end = after_emission w.end })
    × (count_marked (after_emission w.end).sending.queue.marks ≡ count_marked w.end.sending.queue.marks)
    × (in_network (machine {A = A}) (record { end = after_emission w.end })
    ≤ network_with w.end.sending.snd_una (count_marked w.end.sending.queue.marks) (in_network (machine {A = A}) w) ((machine {A = A}).due w))
emits {A = A} h w a =
    let after : Wired A = record { end = after_emission w.end } in
    let most = λ (n : ℕ). network_with w.end.sending.snd_una (count_marked w.end.sending.queue.marks) n ((machine {A = A}).due w) in
    let out = emission_network w.end (h.bare w a.0) in (
      ((h.emitted w a.0).0, emission_order w.end a.1),
      emission_reported w.end,
      subst (λ n. n ≤ most (in_network (machine {A = A}) w)) (sym (counts after))
          (subst (λ n. left_in (after_emission w.end).phase (after_emission w.end).sending ≤ most n) (sym (counts w)) out),
    )

emits-alone : {A : Type 0} → EndCountsFlight A → (w : Wired A) → IsPlaced w
    → IsPlaced {A = A} (record { end = after_ack_alone w.end })
    × (count_marked (after_ack_alone w.end).sending.queue.marks ≡ count_marked w.end.sending.queue.marks)
    × (in_network (machine {A = A}) (record { end = after_ack_alone w.end }) ≤ in_network (machine {A = A}) w)
emits-alone {A = A} h w a =
    let after : Wired A = record { end = after_ack_alone w.end } in
    (((h.alone w a.0).0, alone_order w.end a.1), alone_reported w.end, in-place _ _ _ _ (counts after) (counts w) (alone_network w.end))

pub networks : (A : Type 0) → EndCountsFlight A → EndCountsNetwork A
networks A h = record {
  emitted = λ w a. emits h w a;
  alone = λ w a. emits-alone h w a;
  arrived = λ src dst bytes way. nothing (λ s. after_intake (intake_of way) s src dst bytes) (λ w b. (h.arrived w src dst bytes way b).0)
      (λ s p. arrives (intake_of way) s src dst bytes p);
  expired = λ timer w a. expires h timer w a;
  first_resent = nothing after_resend_first (λ w b. (h.first_resent w b).0) resends-first;
  resent = λ from to. nothing (λ s. after_resend s from to) (λ w b. (h.resent from to w b).0) (λ s p. resends s from to p);
  sent = λ text. nothing (λ s. after_send s text) (λ w b. (h.sent text w b).0) (λ s p. sends s text p);
  received = λ room. nothing (λ s. after_receive s room) (λ w b. (h.received room w b).0) (λ s p. reads s room p);
  acknowledged = nothing after_acknowledge (λ w b. (h.acknowledged w b).0) asks;
  closed = nothing after_close (λ w b. (h.closed w b).0) closes;
  aborted = nothing after_abort (λ w b. (h.aborted w b).0) aborts;
}

-- ---- AN END THAT IS OPENED is placed: it queues nothing
nothing-queued : (d : Sending) (h o : Bool) → length d.queue.marks ≡ 0 → length d.queue.bytes ≡ 0 → d.snd_una ≤ 1 → d.snd_nxt ≤ 1 → d.resend ≡ None → IsInOrder d h o
nothing-queued d h o marks bytes una nxt none = record {
  flags = omega (arith, marks);
  una = λ some. absurd (omega (arith, some, bytes));
  syn = λ e. omega (arith, nxt);
  text = λ e. record {
    una = omega (arith, una);
    nxt = omega (arith, nxt);
    range = subst (λ range. IfSome range (λ r. r.end ≤ end_of_text d)) (sym none) tt;
  };
}

pub opens_placed : (A : Type 0) → EachOpensSized A → EachOpensPlaced A
unfolding after_connect after_listen
opens_placed A sized c runs peer rules limits now good =
    let s = sized c runs peer rules limits now good in
    ((s.0, nothing-queued _ _ _ refl refl (omega arith) (omega arith) refl), (s.1, nothing-queued _ _ _ refl refl (omega arith) (omega arith) refl))
