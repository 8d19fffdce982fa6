-- Ways on: quiet events one after another, at one of two parties or from one to the other, and what stays true on the way.
use Rattle.tcp_replay.proofs.Words.{◌+◌, ◌++◌, ◌<◌, ◌==◌, [], ack_alone, after_acknowledge, after_due, after_emission, after_gaps, after_receive, after_reorder}
use Rattle.tcp_replay.proofs.Words.{after_resend, after_resend_first, after_retransmit, and_parts, ap, arith, Bool, CallError, cases_Bool, cond_both, count_unsent, Due}
use Rattle.tcp_replay.proofs.Words.{due_of, end_of_text, Ending, eqb-true, EventContent, false, false≢true, FitsPhase, if◌then◌else◌, inl, inr}
use Rattle.tcp_replay.proofs.Words.{is_fin_acked, is_handshake, later, length, List, marks_end, nat_lt, None, NotEnded, Option, Orderly}
use Rattle.tcp_replay.proofs.Words.{party_after_ack_alone, party_after_acknowledge, party_after_emission, party_after_receive, party_after_resend, party_after_resend_first}
use Rattle.tcp_replay.proofs.Words.{party_after_timer, PartyState, Phase, rcv_position_of, receive_refusal, refl, refusal_of, Reorder, resends_between}
use Rattle.tcp_replay.proofs.Words.{report_options_short, Retransmit, run_of, Sending, Sends, sends_again, sends_text, SentSegment, slice_get, Some, State}
use Rattle.tcp_replay.proofs.Words.{state_after, state_unless, stay_or, stop_of, stop_or, subst, sym, SynReceived, text_limit, true, with_all_resent}
use Rattle.tcp_replay.proofs.Words.{with_bytes_received, with_resent, world_with_effect, WorldState, ℕ, ◌∙◌, ◌∷◌, ◌≡◌, ◌≤◌, ◌⊎◌}
use Rattle.tcp_progress.proofs.Words.{all_of, CanReach, IsInFlight, IsLive, IsQuiet, IsSteadyPair, left_of_both, SaysByPhase}
use Rattle.tcp_replay.proofs.Lemmas.{discards-not_ended, end-is, going-on, one_if-most}
use Rattle.tcp_progress.proofs.{laws.NextTaken.IsAfterSyn, steady.Table.own_fin-acked}

unfoldable pub reach-here : {P : WorldState → Type 0} {w : WorldState} → P w → CanReach P w
unfolding stop_of run_of
reach-here h = record { events = []; quiet = tt; goes_on = refl; reached = h }

unfoldable pub reach-step : {P : WorldState → Type 0} {w : WorldState} (event : EventContent) → IsQuiet event → refusal_of w event ≡ None
    → CanReach P (world_with_effect w event) → CanReach P w
unfolding stop_of run_of
reach-step {P} {w} event quiet goes way = record {
  events = event ∷ way.events;
  quiet = (quiet, way.quiet);
  goes_on = ap (λ r. stop_or r (stop_of (world_with_effect w event) way.events)) goes ∙ ap later way.goes_on;
  reached = subst P (sym (ap (λ r. stay_or r w (run_of (world_with_effect w event) way.events)) goes)) way.reached;
}

-- what p emits is the last in its list
pub last-of : (sent : List SentSegment) (g : SentSegment) → slice_get (sent ++ g ∷ []) (length sent) ≡ Some g
last-of [] g = refl
last-of (first ∷ sent) g = last-of sent g

-- ---- WHERE A TURN LEADS: less is left between two parties, and both go on.
-- an end whose SYNs were taken, that lives or has ended in order
pub record IsUp (x : PartyState) : Type 0 where
  pub opened : x.endpoint.receiving.opened ≡ true
  pub kept : (x.endpoint.ending ≡ NotEnded) ⊎ (x.endpoint.ending ≡ Orderly)

-- both are up, and they live while something is left
pub record GoOn (x y : PartyState) : Type 0 where
  pub there : IsUp x
  pub back : IsUp y
  pub live : 0 < left_of_both x y → IsLive x × IsLive y

-- as while both live
pub both-live : (x y : PartyState) → IsLive x → IsLive y → GoOn x y
both-live x y one two = record {
  there = record { opened = one.opened; kept = inl one.goes_on };
  back = record { opened = two.opened; kept = inl two.goes_on };
  live = λ _. (one, two);
}

-- from either side
pub swapped : (x y : PartyState) → GoOn y x → GoOn x y
swapped x y h = record { there = h.back; back = h.there; live = λ some. let both = h.live (omega (arith, some)) in (both.1, both.0) }

-- ---- What an end does by itself on the way leaves what it has come to: it reads, its timer expires, it emits.
-- THE SAME but for what is pending, what goes out again and what is unread
pub record IsStill (p p' : PartyState) : Type 0 where
  pub config : p'.endpoint.config ≡ p.endpoint.config
  pub phase : p'.endpoint.phase ≡ p.endpoint.phase
  pub ending : p'.endpoint.ending ≡ p.endpoint.ending
  pub closing : p'.endpoint.closing ≡ p.endpoint.closing
  pub opened : p'.endpoint.receiving.opened ≡ p.endpoint.receiving.opened
  pub finished : p'.endpoint.receiving.finished ≡ p.endpoint.receiving.finished
  pub snd_una : p'.endpoint.sending.snd_una ≡ p.endpoint.sending.snd_una
  pub snd_nxt : p.endpoint.sending.snd_nxt ≤ p'.endpoint.sending.snd_nxt
  pub ordered : p'.endpoint.receiving.ordered ≡ p.endpoint.receiving.ordered
  pub accepted : p'.accepted ≡ p.accepted
  pub closed : p'.closed ≡ p.closed

pub still-same : (p : PartyState) → IsStill p p
still-same p = let snd_nxt : p.endpoint.sending.snd_nxt ≤ p.endpoint.sending.snd_nxt = omega arith in assumption

pub still-next : (p p' : PartyState) → IsStill p p' → rcv_position_of p' ≡ rcv_position_of p
still-next p p' h = rw (h.ordered, h.finished) refl

-- EMISSION
pub due-still : (p : PartyState) (due : Option Due) → IsStill p (record p { endpoint = after_due p.endpoint due })
due-still p None = still-same p
due-still p (Some due) = let snd_nxt : p.endpoint.sending.snd_nxt ≤ (state_after p.endpoint due).sending.snd_nxt = omega arith in assumption

pub still-emission : (p : PartyState) → IsStill p (party_after_emission p)
unfolding party_after_emission after_emission
still-emission p =
    let h = due-still p (due_of p.endpoint) in
    assumption

-- THE RETRANSMISSION TIMEOUT
pub still-retransmit : (p : PartyState) → IsStill p (party_after_timer p Retransmit)
unfolding party_after_timer after_retransmit
still-retransmit p =
    let s = p.endpoint in
    let Same : Sending → Type 0 = λ d. (d.snd_una ≡ s.sending.snd_una) × (s.sending.snd_nxt ≤ d.snd_nxt) in
    let same : Same (if sends_again s then with_all_resent s.sending else s.sending) = cond_both (sends_again s) (with_all_resent s.sending) s.sending Same
    (λ _. (refl, omega arith)) (λ _. (refl, omega arith)) in
    assumption

-- AN ACKNOWLEDGEMENT ALONE
pub still-ack_alone : (p : PartyState) → IsStill p (party_after_ack_alone p)
unfolding party_after_ack_alone
still-ack_alone p =
    let h = due-still p (ack_alone p.endpoint) in
    assumption

-- A STRETCH AGAIN, whatever test says so
still-stretch : (p : PartyState) (test : Bool) (from to : ℕ)
    → IsStill p (record p { endpoint = record p.endpoint { sending = if test then with_resent p.endpoint.sending from to else p.endpoint.sending } })
still-stretch p test from to =
    let s = p.endpoint in
    let d = with_resent s.sending from to in
    let Same : Sending → Type 0 = λ d. (d.snd_una ≡ s.sending.snd_una) × (s.sending.snd_nxt ≤ d.snd_nxt) in
    let same : Same (if test then d else s.sending) = cond_both test d s.sending Same (λ _. (refl, omega arith)) (λ _. (refl, omega arith)) in
    assumption

-- THE FIRST SEGMENT AGAIN, and what lies between two positions
pub still-resend_first : (p : PartyState) → IsStill p (party_after_resend_first p)
unfolding party_after_resend_first after_resend_first
still-resend_first p =
    let una = p.endpoint.sending.snd_una in
    still-stretch p (sends_again p.endpoint) una (una + text_limit p.endpoint)

pub still-resend : (p : PartyState) (from to : ℕ) → IsStill p (party_after_resend p from to)
unfolding party_after_resend after_resend
still-resend p from to = still-stretch p (resends_between p.endpoint from to) from to

-- what the marks leave
gaps-still : (p : PartyState) (end : Option ℕ) → IsStill p (record p { endpoint = record p.endpoint { sending = after_gaps p.endpoint.sending end } })
gaps-still p None = still-same p
gaps-still p (Some end) = let snd_nxt : p.endpoint.sending.snd_nxt ≤ p.endpoint.sending.snd_nxt = omega arith in assumption

-- THE REORDERING TIMEOUT
pub still-reorder : (p : PartyState) → IsStill p (party_after_timer p Reorder)
unfolding party_after_timer after_reorder
still-reorder p = gaps-still p (marks_end p.endpoint)

-- THE CALL that asks for an acknowledgement
pub still-acknowledging : (p : PartyState) → IsStill p (party_after_acknowledge p)
unfolding party_after_acknowledge after_acknowledge
still-acknowledging p = let snd_nxt : p.endpoint.sending.snd_nxt ≤ p.endpoint.sending.snd_nxt = omega arith in assumption

-- READING
receive-still : (p : PartyState) (room : ℕ) (refusal : Option CallError)
    → IsStill p (record p { endpoint = state_unless refusal p.endpoint (with_bytes_received p.endpoint room) })
receive-still p room None = let snd_nxt : p.endpoint.sending.snd_nxt ≤ p.endpoint.sending.snd_nxt = omega arith in assumption
receive-still p room (Some error) = still-same p

pub still-reading : (p : PartyState) (room : ℕ) → IsStill p (party_after_receive p room)
unfolding party_after_receive after_receive
still-reading p room =
    let h = receive-still p room (receive_refusal p.endpoint) in
    assumption

-- ---- WHAT THE STATE OF A LIVE END SAYS: which phase it is in, what is in flight, and what waits to be sent.
-- a pair from the other side, and the pair of a steady world from either side
pub steady-back : (p q : PartyState) → IsSteadyPair q p → IsSteadyPair p q
steady-back p q h = record { pair = assumption; there = h.back; back = h.there }

-- A LIVE END isn't in CLOSED, LISTEN or SYN-SENT
after_syn-live : (phase : Phase) (ending : Ending) (snd_una snd_nxt : ℕ) (opened finished : Bool) → opened ≡ true → ending ≡ NotEnded
    → FitsPhase phase ending snd_una snd_nxt opened finished → IsAfterSyn phase
after_syn-live phase ending snd_una snd_nxt opened finished e goes h =
    record { shut = grind (arith, e, goes, h); listening = grind (arith, e, goes, h); syn_sent = grind (arith, e, goes, h) }

pub live-after_syn : (p q : PartyState) → IsSteadyPair p q → IsLive p → IsAfterSyn p.endpoint.phase
live-after_syn p q h live =
    let s = p.endpoint in
    after_syn-live s.phase s.ending s.sending.snd_una s.sending.snd_nxt s.receiving.opened s.receiving.finished live.opened live.goes_on h.pair.there.alone.progress

-- all that was sent is acknowledged once the FIN is
pub acked-all : (s : State) → is_fin_acked s.sending ≡ true → s.sending.snd_una ≡ s.sending.snd_nxt
acked-all s e = eqb-true s.sending.snd_una s.sending.snd_nxt (and_parts (nat_lt (end_of_text s.sending) s.sending.snd_nxt) (s.sending.snd_una == s.sending.snd_nxt) e).1

-- IT IS in SYN-RECEIVED, or sends text, or its FIN is acknowledged
abbrev pub LivesIn : State → Phase → Type 0
LivesIn s phase = ((phase ≡ SynReceived) × (s.sending.snd_una ≡ 0) × (s.sending.snd_nxt ≡ 1))
    ⊎ ((1 ≤ s.sending.snd_una) × ((sends_text phase ≡ true) ⊎ (is_fin_acked s.sending ≡ true)))

lives-in : (s : State) (phase : Phase) → IsAfterSyn phase → FitsPhase phase s.ending s.sending.snd_una s.sending.snd_nxt s.receiving.opened s.receiving.finished
    → SaysByPhase phase s → LivesIn s phase
lives-in s phase here fits says = grind (arith, here, fits, says)

-- of the party that lives
pub live-in : (p q : PartyState) → IsSteadyPair p q → IsLive p → LivesIn p.endpoint p.endpoint.phase
live-in p q h live = lives-in p.endpoint p.endpoint.phase (live-after_syn p q h live) h.pair.there.alone.progress h.there.stage

-- it MAY SEND
pub no-syn-pending : (p q : PartyState) → IsSteadyPair p q → is_handshake p.endpoint.phase ≡ false → p.endpoint.pending.syn ≡ false
no-syn-pending p q h past =
    elim (cases_Bool p.endpoint.pending.syn) [ inl pending ↦ absurd (false≢true (sym past ∙ h.pair.there.alone.syn pending)) | inr none ↦ none ]

pub has-room : (p q : PartyState) → IsSteadyPair p q → 1 ≤ text_limit p.endpoint
has-room p q h = omega (arith, h.there.mss, h.pair.there.alone.config.good.1.0, report_options_short p.endpoint)

pub live-sends : (p q : PartyState) → IsSteadyPair p q → IsLive p → Sends p.endpoint.sending p.accepted p.closed false
live-sends p q h live = subst (Sends p.endpoint.sending p.accepted p.closed) (discards-not_ended p.endpoint.ending live.goes_on) h.pair.there.alone.sends

-- SND.UNA is past the SYN
pub past-syn : (p q : PartyState) → IsSteadyPair p q → sends_text p.endpoint.phase ≡ true → 1 ≤ p.endpoint.sending.snd_una
past-syn p q h sends = (going-on p.endpoint p.accepted p.closed sends h.pair.there.alone).0

-- ---- IN FLIGHT. Its phase sends text
pub flight-sends : (p q : PartyState) (position : ℕ) → IsSteadyPair p q → IsLive p → 1 ≤ position → p.endpoint.sending.snd_una ≤ position
    → position < p.endpoint.sending.snd_nxt → sends_text p.endpoint.phase ≡ true
flight-sends p q position h live least snd_una snd_nxt =
    elim (live-in p q h live) [
      | inl first ↦ absurd (omega (arith, first.2, least, snd_nxt))
      | inr rest ↦ elim rest.1 [ inl sends ↦ sends | inr acked ↦ absurd (omega (arith, snd_una, snd_nxt, acked-all p.endpoint acked)) ]
    ]

-- all that was sent and isn't acknowledged, or isn't taken, is in flight
pub in-flight : (p q : PartyState) (position : ℕ) → IsSteadyPair p q → IsLive p → sends_text p.endpoint.phase ≡ true → p.endpoint.sending.snd_una ≤ position
    → position < p.endpoint.sending.snd_nxt → IsInFlight p.endpoint.sending position
in-flight p q position h live sends snd_una snd_nxt =
    let d = p.endpoint.sending in
    let had = live-sends p q h live in
    record {
      unacknowledged = snd_una;
      sent = snd_nxt;
      queued = omega (arith, past-syn p q h sends, had.released, snd_una);
      most = omega (arith, end-is d p.accepted p.closed had, had.most, snd_nxt, one_if-most p.closed);
    }

-- the FIN is the last
pub fin-last : (p q : PartyState) → IsSteadyPair p q → IsLive p → is_fin_acked p.endpoint.sending ≡ true → all_of p ≤ p.endpoint.sending.snd_nxt
fin-last p q h live e =
    omega (arith, own_fin-acked p.endpoint.sending p.accepted p.closed (live-sends p q h live) e, acked-all p.endpoint e, one_if-most p.closed)

-- ---- UNSENT: nothing is in flight, and something waits. Its phase sends text
pub unsent-sends : (p q : PartyState) → IsSteadyPair p q → IsLive p → p.endpoint.sending.snd_una ≡ p.endpoint.sending.snd_nxt → p.endpoint.sending.snd_nxt < all_of p
    → sends_text p.endpoint.phase ≡ true
unsent-sends p q h live idle some =
    elim (live-in p q h live) [
      | inl first ↦ absurd (omega (arith, first.1, first.2, idle))
      | inr rest ↦ elim rest.1 [ inl sends ↦ sends | inr acked ↦ absurd (omega (arith, some, fin-last p q h live acked)) ]
    ]

-- text waits, or the FIN
pub waits : (p q : PartyState) → IsSteadyPair p q → IsLive p → 1 ≤ p.endpoint.sending.snd_una → p.endpoint.sending.snd_una ≡ p.endpoint.sending.snd_nxt
    → p.endpoint.sending.snd_nxt < all_of p
    → (0 < count_unsent p.endpoint.sending) ⊎ ((p.endpoint.closing ≡ true) × (p.endpoint.sending.snd_nxt ≡ end_of_text p.endpoint.sending))
waits p q h live past idle some =
    let had = live-sends p q h live in
    grind (arith, end-is p.endpoint.sending p.accepted p.closed had, had.released, one_if-most p.closed, h.pair.there.alone.closing, past, idle, some)
