-- What the phase of an end says of how far it has come.
use Rattle.tcp_replay.proofs.Words.{ap, arith, Bool, Closed, discards, Ending, Established, false, FinWait1, FinWait2, FitsPhase, has_peer, if◌then◌else◌}
use Rattle.tcp_replay.proofs.Words.{is_closed, is_ended, is_handshake, is_listening, is_syn_received, is_syn_sent, is_time_wait, IsAnswering, IsDone}
use Rattle.tcp_replay.proofs.Words.{IsOpening, IsReceiving, IsUnused, Listen, NotEnded, Phase, phase_after_close, phase_after_fin, phase_after_own_fin}
use Rattle.tcp_replay.proofs.Words.{phase_after_own_syn, refl, resets_on_abort, sends_text, State, SynReceived, SynSent, takes_text, true, ℕ, ◌≡◌, ◌≤◌}

-- both SYNs were taken, and the connection goes on
abbrev pub is_synchronized : Phase → Bool
is_synchronized Closed = false
is_synchronized Listen = false
is_synchronized SynSent = false
is_synchronized SynReceived = false
is_synchronized other = true

-- who has not ended gave up nothing
pub discards-not_ended : (ending : Ending) → ending ≡ NotEnded → discards ending ≡ false
discards-not_ended ending e = ap discards e

-- who is not at any of the endings has not ended
pub not_ended : (ending : Ending) → is_ended ending ≡ false → ending ≡ NotEnded
not_ended NotEnded e = refl
not_ended other e = absurd (cc)

-- what is known at one phase
pub at-listen : (phase : Phase) (ending : Ending) (snd_una snd_nxt : ℕ) (opened finished : Bool) → is_listening phase ≡ true
    → FitsPhase phase ending snd_una snd_nxt opened finished → (ending ≡ NotEnded) × IsUnused snd_nxt opened
at-listen Listen ending snd_una snd_nxt opened finished e h = h
at-listen other ending snd_una snd_nxt opened finished e h = absurd (cc)

-- in CLOSED nothing was sent or taken
pub at-closed : (phase : Phase) (ending : Ending) (snd_una snd_nxt : ℕ) (opened finished : Bool) → is_closed phase ≡ true → ending ≡ NotEnded
    → FitsPhase phase ending snd_una snd_nxt opened finished → IsUnused snd_nxt opened
at-closed Closed ending snd_una snd_nxt opened finished e new h = h new
at-closed other ending snd_una snd_nxt opened finished e new h = absurd (cc)

-- in SYN-SENT the SYN alone was sent
pub at-syn_sent : (phase : Phase) (ending : Ending) (snd_una snd_nxt : ℕ) (opened finished : Bool) → is_syn_sent phase ≡ true
    → FitsPhase phase ending snd_una snd_nxt opened finished → (ending ≡ NotEnded) × IsOpening snd_nxt opened
at-syn_sent SynSent ending snd_una snd_nxt opened finished e h = h
at-syn_sent other ending snd_una snd_nxt opened finished e h = absurd (cc)

-- in SYN-RECEIVED the peer's SYN was taken, too
pub at-syn_received : (phase : Phase) (ending : Ending) (snd_una snd_nxt : ℕ) (opened finished : Bool) → is_syn_received phase ≡ true
    → FitsPhase phase ending snd_una snd_nxt opened finished → (ending ≡ NotEnded) × IsAnswering snd_nxt opened finished
at-syn_received SynReceived ending snd_una snd_nxt opened finished e h = h
at-syn_received other ending snd_una snd_nxt opened finished e h = absurd (cc)

-- a phase that takes text has not taken the peer's FIN
pub at-takes_text : (phase : Phase) (ending : Ending) (snd_una snd_nxt : ℕ) (opened finished : Bool) → takes_text phase ≡ true
    → FitsPhase phase ending snd_una snd_nxt opened finished → (ending ≡ NotEnded) × IsReceiving snd_una opened finished
at-takes_text Established ending snd_una snd_nxt opened finished e h = h
at-takes_text FinWait1 ending snd_una snd_nxt opened finished e h = h
at-takes_text FinWait2 ending snd_una snd_nxt opened finished e h = h
at-takes_text other ending snd_una snd_nxt opened finished e h = absurd (cc)

-- from ESTABLISHED on both SYNs were taken
pub at-synchronized : (phase : Phase) (ending : Ending) (snd_una snd_nxt : ℕ) (opened finished : Bool) → is_synchronized phase ≡ true
    → FitsPhase phase ending snd_una snd_nxt opened finished → (ending ≡ NotEnded) × IsDone snd_una opened
at-synchronized Closed ending snd_una snd_nxt opened finished e h = absurd (cc)
at-synchronized Listen ending snd_una snd_nxt opened finished e h = absurd (cc)
at-synchronized SynSent ending snd_una snd_nxt opened finished e h = absurd (cc)
at-synchronized SynReceived ending snd_una snd_nxt opened finished e h = absurd (cc)
at-synchronized other ending snd_una snd_nxt opened finished e h = assumption

-- and of an end, by its phase
abbrev pub Progress : State → Type 0
Progress s = FitsPhase s.phase s.ending s.sending.snd_una s.sending.snd_nxt s.receiving.opened s.receiving.finished

-- so it is of an end in CLOSED
pub end-closed : (s : State) → is_closed s.phase ≡ true → s.ending ≡ NotEnded → Progress s → IsUnused s.sending.snd_nxt s.receiving.opened
end-closed s e new h = at-closed s.phase s.ending s.sending.snd_una s.sending.snd_nxt s.receiving.opened s.receiving.finished e new h

-- in LISTEN nothing was sent or taken by an end
pub end-listen : (s : State) → is_listening s.phase ≡ true → Progress s → (s.ending ≡ NotEnded) × IsUnused s.sending.snd_nxt s.receiving.opened
end-listen s e h = at-listen s.phase s.ending s.sending.snd_una s.sending.snd_nxt s.receiving.opened s.receiving.finished e h

-- of an end in SYN-SENT the SYN alone was sent
pub end-syn_sent : (s : State) → is_syn_sent s.phase ≡ true → Progress s → (s.ending ≡ NotEnded) × IsOpening s.sending.snd_nxt s.receiving.opened
end-syn_sent s e h = at-syn_sent s.phase s.ending s.sending.snd_una s.sending.snd_nxt s.receiving.opened s.receiving.finished e h

-- an end in SYN-RECEIVED has taken the peer's SYN
pub end-syn_received : (s : State) → is_syn_received s.phase ≡ true → Progress s
    → (s.ending ≡ NotEnded) × IsAnswering s.sending.snd_nxt s.receiving.opened s.receiving.finished
end-syn_received s e h = at-syn_received s.phase s.ending s.sending.snd_una s.sending.snd_nxt s.receiving.opened s.receiving.finished e h

-- an end that takes text has not taken the peer's FIN
pub end-takes_text : (s : State) → takes_text s.phase ≡ true → Progress s
    → (s.ending ≡ NotEnded) × IsReceiving s.sending.snd_una s.receiving.opened s.receiving.finished
end-takes_text s e h = at-takes_text s.phase s.ending s.sending.snd_una s.sending.snd_nxt s.receiving.opened s.receiving.finished e h

-- an end from ESTABLISHED on has both SYNs taken
pub end-synchronized : (s : State) → is_synchronized s.phase ≡ true → Progress s → (s.ending ≡ NotEnded) × IsDone s.sending.snd_una s.receiving.opened
end-synchronized s e h = at-synchronized s.phase s.ending s.sending.snd_una s.sending.snd_nxt s.receiving.opened s.receiving.finished e h

-- what is known of phases
pub not-closed-ended : (phase : Phase) (ending : Ending) (snd_una snd_nxt : ℕ) (opened finished : Bool) → is_closed phase ≡ false
    → FitsPhase phase ending snd_una snd_nxt opened finished → ending ≡ NotEnded
not-closed-ended Closed ending snd_una snd_nxt opened finished e h = absurd (cc)
not-closed-ended other ending snd_una snd_nxt opened finished e h = h.0

-- from ESTABLISHED on the peer is known
pub synchronized-knows : (phase : Phase) → is_synchronized phase ≡ true → has_peer phase ≡ true
synchronized-knows phase e = grind (arith, e)

-- who takes text has both SYNs taken
pub takes_text-synchronized : (phase : Phase) → takes_text phase ≡ true → is_synchronized phase ≡ true
takes_text-synchronized phase e = grind (arith, e)

-- who sends text has, too
pub sends_text-synchronized : (phase : Phase) → sends_text phase ≡ true → is_synchronized phase ≡ true
sends_text-synchronized phase e = grind (arith, e)

-- in TIME-WAIT both SYNs were taken
pub time_wait-synchronized : (phase : Phase) → is_time_wait phase ≡ true → is_synchronized phase ≡ true
time_wait-synchronized phase e = grind (arith, e)

-- in SYN-SENT the peer is known
pub syn_sent-knows : (phase : Phase) → is_syn_sent phase ≡ true → has_peer phase ≡ true
syn_sent-knows phase e = grind (arith, e)

-- in SYN-SENT and SYN-RECEIVED the peer is known
pub handshake-knows : (phase : Phase) → is_handshake phase ≡ true → has_peer phase ≡ true
handshake-knows phase e = grind (arith, e)

-- in CLOSED no peer is known
pub closed-unknown : (phase : Phase) → is_closed phase ≡ true → has_peer phase ≡ true → ⊥
closed-unknown phase e known = grind (arith, e, known)

-- a phase in which an abort sends a reset knows the peer
pub resets_on_abort-knows : (phase : Phase) → resets_on_abort phase ≡ true → has_peer phase ≡ true
resets_on_abort-knows phase e = grind (arith, e)

-- where the peer is known, the own SYN has a number; where an acknowledgement may go out, it was sent
pub knows-nxt : (phase : Phase) (ending : Ending) (snd_una snd_nxt : ℕ) (opened finished : Bool) → has_peer phase ≡ true → snd_una ≤ snd_nxt
    → FitsPhase phase ending snd_una snd_nxt opened finished → 1 ≤ snd_nxt
knows-nxt Closed ending snd_una snd_nxt opened finished e order h = absurd (cc)
knows-nxt Listen ending snd_una snd_nxt opened finished e order h = absurd (cc)
knows-nxt other ending snd_una snd_nxt opened finished e order h = omega arith

-- after the phases that are tested first the peer is known, and its SYN was taken
pub after_syn-knows : (phase : Phase) → is_closed phase ≡ false → is_listening phase ≡ false → has_peer phase ≡ true
after_syn-knows phase shut listening = rw (shut, listening) refl

-- the phases that are not tested first have the peer's SYN
pub after_syn-opened : (phase : Phase) (ending : Ending) (snd_una snd_nxt : ℕ) (opened finished : Bool) → is_closed phase ≡ false → is_listening phase ≡ false
    → is_syn_sent phase ≡ false
    → FitsPhase phase ending snd_una snd_nxt opened finished → opened ≡ true
after_syn-opened Closed ending snd_una snd_nxt opened finished e f g h = absurd (cc)
after_syn-opened Listen ending snd_una snd_nxt opened finished e f g h = absurd (cc)
after_syn-opened SynSent ending snd_una snd_nxt opened finished e f g h = absurd (cc)
after_syn-opened other ending snd_una snd_nxt opened finished e f g h = h.1.is_opened

-- the own SYN is acknowledged
pub own_syn-synchronized : (phase : Phase) (closing : Bool) → is_closed phase ≡ false → is_listening phase ≡ false → is_syn_sent phase ≡ false
    → is_synchronized (phase_after_own_syn phase closing) ≡ true
own_syn-synchronized phase closing e f g = grind (arith, e, f, g)

-- the phase after the acknowledgement of the own SYN: ESTABLISHED, or FIN-WAIT-1 after a close
pub fits-own_syn : (closing : Bool) (ending : Ending) (snd_una snd_nxt : ℕ) (opened finished : Bool) → (ending ≡ NotEnded) × IsAnswering snd_nxt opened finished
    → FitsPhase (if closing then FinWait1 else Established) ending snd_nxt snd_nxt opened finished
fits-own_syn true ending snd_una snd_nxt opened finished h = (h.0, record { least = omega arith; is_opened = h.1.is_opened; goes_on = h.1.goes_on })
fits-own_syn false ending snd_una snd_nxt opened finished h = (h.0, record { least = omega arith; is_opened = h.1.is_opened; goes_on = h.1.goes_on })

-- in it the peer is known
pub knows-own_syn : (closing : Bool) → has_peer (if closing then FinWait1 else Established) ≡ true
knows-own_syn closing = grind arith

-- SND.UNA moves on
pub fits-acked : (phase : Phase) (ending : Ending) (snd_una a snd_nxt : ℕ) (opened finished : Bool) → is_synchronized phase ≡ true → snd_una ≤ a
    → FitsPhase phase ending snd_una snd_nxt opened finished → FitsPhase phase ending a snd_nxt opened finished
fits-acked Closed ending snd_una a snd_nxt opened finished e more h = absurd (cc)
fits-acked Listen ending snd_una a snd_nxt opened finished e more h = absurd (cc)
fits-acked SynSent ending snd_una a snd_nxt opened finished e more h = absurd (cc)
fits-acked SynReceived ending snd_una a snd_nxt opened finished e more h = absurd (cc)
fits-acked other ending snd_una a snd_nxt opened finished e more h = let least : 1 ≤ a = omega arith in assumption

-- SND.NXT moves on, in the handshake no further than past the SYN, and not at all where no peer is known
pub fits-sent : (phase : Phase) (ending : Ending) (snd_una snd_nxt n : ℕ) (opened finished : Bool) → (has_peer phase ≡ false → snd_nxt ≡ 0 → n ≡ 0) → (snd_nxt ≡ 1 → n ≡ 1)
    → FitsPhase phase ending snd_una snd_nxt opened finished → FitsPhase phase ending snd_una n opened finished
fits-sent Closed ending snd_una snd_nxt n opened finished none same h = λ new. record { snd_nxt_is = none refl (h new).snd_nxt_is; not_opened = (h new).not_opened }
fits-sent Listen ending snd_una snd_nxt n opened finished none same h = (h.0, record { snd_nxt_is = none refl h.1.snd_nxt_is; not_opened = h.1.not_opened })
fits-sent SynSent ending snd_una snd_nxt n opened finished none same h = (h.0, record { snd_nxt_is = same h.1.snd_nxt_is; not_opened = h.1.not_opened })
fits-sent SynReceived ending snd_una snd_nxt n opened finished none same h =
    (h.0, record { snd_nxt_is = same h.1.snd_nxt_is; is_opened = h.1.is_opened; goes_on = h.1.goes_on })
fits-sent other ending snd_una snd_nxt n opened finished none same h = h

-- from ESTABLISHED on SND.NXT may move on
pub fits-sent_text : (phase : Phase) (ending : Ending) (snd_una snd_nxt n : ℕ) (opened finished : Bool) → is_synchronized phase ≡ true
    → FitsPhase phase ending snd_una snd_nxt opened finished → FitsPhase phase ending snd_una n opened finished
fits-sent_text Closed ending snd_una snd_nxt n opened finished e h = absurd (cc)
fits-sent_text Listen ending snd_una snd_nxt n opened finished e h = absurd (cc)
fits-sent_text SynSent ending snd_una snd_nxt n opened finished e h = absurd (cc)
fits-sent_text SynReceived ending snd_una snd_nxt n opened finished e h = absurd (cc)
fits-sent_text other ending snd_una snd_nxt n opened finished e h = h

-- the own FIN is acknowledged
pub fits-own_fin : (phase : Phase) (ending : Ending) (snd_una snd_nxt : ℕ) (opened finished : Bool) → FitsPhase phase ending snd_una snd_nxt opened finished
    → FitsPhase (phase_after_own_fin phase) ending snd_una snd_nxt opened finished
fits-own_fin FinWait1 ending snd_una snd_nxt opened finished h = h
fits-own_fin other ending snd_una snd_nxt opened finished h = h

-- the acknowledgement of the own FIN leaves the peer known or unknown
pub knows-own_fin : (phase : Phase) → has_peer (phase_after_own_fin phase) ≡ has_peer phase
knows-own_fin phase = grind arith

-- it leaves the handshake done or not
pub handshake-own_fin : (phase : Phase) → is_handshake (phase_after_own_fin phase) ≡ is_handshake phase
handshake-own_fin phase = grind arith

-- and both SYNs taken or not
pub synchronized-own_fin : (phase : Phase) → is_synchronized (phase_after_own_fin phase) ≡ is_synchronized phase
synchronized-own_fin phase = grind arith

-- the peer's FIN is taken
pub fits-fin : (phase : Phase) (ending : Ending) (snd_una snd_nxt : ℕ) (opened finished : Bool) → takes_text phase ≡ true
    → FitsPhase phase ending snd_una snd_nxt opened finished → FitsPhase (phase_after_fin phase) ending snd_una snd_nxt opened true
fits-fin Established ending snd_una snd_nxt opened finished e h = assumption
fits-fin FinWait1 ending snd_una snd_nxt opened finished e h = assumption
fits-fin FinWait2 ending snd_una snd_nxt opened finished e h = assumption
fits-fin other ending snd_una snd_nxt opened finished e h = absurd (cc)

-- the peer's FIN leaves the peer known or unknown
pub knows-fin : (phase : Phase) → has_peer (phase_after_fin phase) ≡ has_peer phase
knows-fin phase = grind arith

-- and the handshake done or not
pub handshake-fin : (phase : Phase) → is_handshake (phase_after_fin phase) ≡ is_handshake phase
handshake-fin phase = grind arith

-- the user closes
pub fits-closing : (phase : Phase) (ending : Ending) (snd_una snd_nxt : ℕ) (opened finished : Bool) → FitsPhase phase ending snd_una snd_nxt opened finished
    → FitsPhase (phase_after_close phase) ending snd_una snd_nxt opened finished
fits-closing Established ending snd_una snd_nxt opened finished h = h
fits-closing other ending snd_una snd_nxt opened finished h = h

-- a close leaves the peer known or unknown
pub knows-closing : (phase : Phase) → has_peer (phase_after_close phase) ≡ has_peer phase
knows-closing phase = grind arith

-- and the handshake done or not
pub handshake-closing : (phase : Phase) → is_handshake (phase_after_close phase) ≡ is_handshake phase
handshake-closing phase = grind arith

-- in the handshake nothing but the SYN is acknowledged
pub handshake-una : (phase : Phase) (ending : Ending) (snd_una snd_nxt : ℕ) (opened finished : Bool) → is_handshake phase ≡ true → snd_una ≤ snd_nxt
    → FitsPhase phase ending snd_una snd_nxt opened finished → snd_una ≤ 1
handshake-una SynSent ending snd_una snd_nxt opened finished e order h = omega (arith, h.1.snd_nxt_is)
handshake-una SynReceived ending snd_una snd_nxt opened finished e order h = omega (arith, h.1.snd_nxt_is)
handshake-una other ending snd_una snd_nxt opened finished e order h = absurd (cc)
