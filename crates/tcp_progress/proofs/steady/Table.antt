-- WHAT EACH STATE SAYS of its own close, of its own FIN's acknowledgement and of the peer's FIN: as numbers, and what each move does.
use Rattle.tcp_replay.proofs.Words.{◌+◌, ◌<◌, arith, Bool, Closed, CloseWait, Closing, Ending, Established, false, FinWait1, FinWait2, is_closed, is_fin_acked}
use Rattle.tcp_replay.proofs.Words.{is_last_ack, is_listening, is_syn_received, is_syn_sent, is_time_wait, LastAck, length, List, Listen, nat_tests, NotEnded}
use Rattle.tcp_replay.proofs.Words.{Orderly, Phase, phase_after_close, phase_after_fin, phase_after_own_fin, phase_after_own_syn, Sending, Sends, SynReceived}
use Rattle.tcp_replay.proofs.Words.{SynSent, takes_text, TimeWait, true, ℕ, ◌≡◌, ◌≤◌}
use Rattle.tcp_replay.proofs.Lemmas.{end-is, one_if-most}

-- THE TABLE, against the position after its own FIN: SND.UNA is there where its own FIN is acknowledged, and below it where it isn't
abbrev pub Table : Phase → Ending → Bool → Bool → ℕ → ℕ → Type 0
Table Closed ending closing finished snd_una end = (ending ≡ NotEnded → closing ≡ false) × (ending ≡ Orderly → (closing ≡ true) × (finished ≡ true) × (snd_una ≡ end))
Table Listen ending closing finished snd_una end = closing ≡ false
Table SynSent ending closing finished snd_una end = closing ≡ false
Table SynReceived ending closing finished snd_una end = snd_una ≡ 0
Table Established ending closing finished snd_una end = (closing ≡ false) × (finished ≡ false)
Table FinWait1 ending closing finished snd_una end = (closing ≡ true) × (finished ≡ false) × (snd_una < end)
Table FinWait2 ending closing finished snd_una end = (closing ≡ true) × (finished ≡ false) × (snd_una ≡ end)
Table CloseWait ending closing finished snd_una end = (closing ≡ false) × (finished ≡ true)
Table Closing ending closing finished snd_una end = (closing ≡ true) × (finished ≡ true) × (snd_una < end)
Table LastAck ending closing finished snd_una end = (closing ≡ true) × (finished ≡ true) × (snd_una < end)
Table TimeWait ending closing finished snd_una end = (closing ≡ true) × (finished ≡ true) × (snd_una ≡ end)

-- between an acknowledgement and what it does to the state
abbrev pub Between : Phase → Bool → Bool → ℕ → ℕ → Type 0
Between Established closing finished snd_una end = (closing ≡ false) × (finished ≡ false)
Between FinWait1 closing finished snd_una end = (closing ≡ true) × (finished ≡ false)
Between FinWait2 closing finished snd_una end = (closing ≡ true) × (finished ≡ false) × (end ≤ snd_una)
Between CloseWait closing finished snd_una end = (closing ≡ false) × (finished ≡ true)
Between Closing closing finished snd_una end = (closing ≡ true) × (finished ≡ true)
Between LastAck closing finished snd_una end = (closing ≡ true) × (finished ≡ true)
Between TimeWait closing finished snd_una end = (closing ≡ true) × (finished ≡ true) × (end ≤ snd_una)
Between other closing finished snd_una end = ⊥

-- OPEN
pub table-unopened : (phase : Phase) (ending : Ending) (closing finished : Bool) (snd_una end : ℕ) → is_closed phase ≡ true → ending ≡ NotEnded
    → Table phase ending closing finished snd_una end → closing ≡ false
table-unopened phase ending closing finished snd_una end shut going h = grind (arith, shut, going, h)

pub table-unanswered : (phase : Phase) (ending : Ending) (closing finished : Bool) (snd_una end : ℕ) → is_syn_sent phase ≡ true
    → Table phase ending closing finished snd_una end → closing ≡ false
table-unanswered phase ending closing finished snd_una end sent h = grind (arith, sent, h)

-- SEND: more is accepted before a close
pub table-more : (phase : Phase) (ending : Ending) (closing finished : Bool) (snd_una end end' : ℕ) → closing ≡ false → Table phase ending closing finished snd_una end
    → Table phase ending closing finished snd_una end'
table-more phase ending closing finished snd_una end end' early h = grind (arith, early, h)

-- CLOSE
pub table-close : (phase : Phase) (ending : Ending) (closing finished : Bool) (snd_una end : ℕ) → is_closed phase ≡ false → is_listening phase ≡ false
    → is_syn_sent phase ≡ false → snd_una < end → Table phase ending closing finished snd_una end → Table (phase_after_close phase) ending true finished snd_una end
table-close phase ending closing finished snd_una end e f g less h = grind (arith, e, f, g, less, h)

-- TIME-WAIT ends
pub table-time_wait : (phase : Phase) (ending : Ending) (closing finished : Bool) (snd_una end : ℕ) → is_time_wait phase ≡ true
    → Table phase ending closing finished snd_una end → Table Closed Orderly closing finished snd_una end
table-time_wait phase ending closing finished snd_una end e h = grind (arith, e, h)

-- AN ACKNOWLEDGEMENT moves SND.UNA on,
pub table-acked : (phase : Phase) (ending : Ending) (closing finished : Bool) (snd_una snd_una' end : ℕ) → is_closed phase ≡ false → is_listening phase ≡ false
    → is_syn_sent phase ≡ false → (is_syn_received phase ≡ true → finished ≡ false) → snd_una ≤ snd_una' → Table phase ending closing finished snd_una end
    → Between (phase_after_own_syn phase closing) closing finished snd_una' end
table-acked phase ending closing finished snd_una snd_una' end e f g new more h = grind (arith, e, f, g, new, more, h)

-- and it may be its own FIN's,
pub table-own_fin : (phase : Phase) (ending : Ending) (closing finished : Bool) (snd_una end : ℕ) → is_last_ack phase ≡ false → snd_una ≡ end
    → Between phase closing finished snd_una end → Table (phase_after_own_fin phase) ending closing finished snd_una end
table-own_fin phase ending closing finished snd_una end e all h = grind (arith, e, all, h)

pub table-last_ack : (phase : Phase) (closing finished : Bool) (snd_una end : ℕ) → is_last_ack phase ≡ true → snd_una ≡ end → Between phase closing finished snd_una end
    → Table Closed Orderly closing finished snd_una end
table-last_ack phase closing finished snd_una end e all h = grind (arith, e, all, h)

-- or not
pub table-no_own_fin : (phase : Phase) (ending : Ending) (closing finished : Bool) (snd_una end : ℕ) → snd_una < end → Between phase closing finished snd_una end
    → Table phase ending closing finished snd_una end
table-no_own_fin phase ending closing finished snd_una end less h = grind (arith, less, h)

-- THE PEER'S FIN
pub table-fin : (phase : Phase) (ending : Ending) (closing finished : Bool) (snd_una end : ℕ) → takes_text phase ≡ true
    → Table phase ending closing finished snd_una end → Table (phase_after_fin phase) ending closing true snd_una end
table-fin phase ending closing finished snd_una end e h = grind (arith, e, h)

-- LAST-ACK is entered from CLOSE-WAIT alone, by a close; nothing is taken in it
pub last_ack-own_syn : (phase : Phase) (closing : Bool) → phase_after_own_syn phase closing ≡ LastAck → phase ≡ LastAck
last_ack-own_syn phase closing e = grind (arith, e)

pub last_ack-own_fin : (phase : Phase) → phase_after_own_fin phase ≡ LastAck → phase ≡ LastAck
last_ack-own_fin phase e = grind (arith, e)

pub last_ack-fin : (phase : Phase) → phase_after_fin phase ≡ LastAck → phase ≡ LastAck
last_ack-fin phase e = grind (arith, e)

-- ---- its own FIN's acknowledgement, by SND.UNA
pub own_fin-acked : (d : Sending) (accepted : List ℕ) (closed : Bool) → Sends d accepted closed false → is_fin_acked d ≡ true → d.snd_una ≡ 2 + length accepted
own_fin-acked d accepted closed h e = grind (arith, nat_tests, end-is d accepted closed h, h.most, one_if-most closed, e)

pub own_fin-is_acked : (d : Sending) (accepted : List ℕ) (closed : Bool) → Sends d accepted closed false → d.snd_una ≡ 2 + length accepted → is_fin_acked d ≡ true
own_fin-is_acked d accepted closed h all = grind (arith, nat_tests, end-is d accepted closed h, h.order, h.most, one_if-most closed, all)

pub own_fin-unacked : (d : Sending) (accepted : List ℕ) (closed : Bool) → Sends d accepted closed false → is_fin_acked d ≡ false → d.snd_una < 2 + length accepted
own_fin-unacked d accepted closed h e =
    grind (arith, nat_tests, end-is d accepted closed h, h.order, h.most, one_if-most closed, e)

pub own_fin-is_unacked : (d : Sending) (accepted : List ℕ) (closed : Bool) → Sends d accepted closed false → d.snd_una < 2 + length accepted
    → is_fin_acked d ≡ false
own_fin-is_unacked d accepted closed h less = grind (arith, nat_tests, end-is d accepted closed h, h.order, less)
