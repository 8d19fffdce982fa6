-- WHAT EACH STATE SAYS OF BOTH FINS, AND WHO THE PEER IS: every event keeps it.
use Rattle.tcp_replay.proofs.Words.{◌+◌, ◌<◌, ◌==◌, Aborted, address_of, after_acked_text, after_discarding, after_orderly_end, after_own_syn}
use Rattle.tcp_replay.proofs.Words.{after_peer_accepts, after_peer_opens, after_text, after_window_and_blocks, and_parts, ap, arith, Bool, close_refusal}
use Rattle.tcp_replay.proofs.Words.{Closed, CloseWait, Config, Content, decode_answer, discards, Due, Ended, Ending, Established, false, false≢true, fin}
use Rattle.tcp_replay.proofs.Words.{FinWait2, FitsPhase, has, has_fin, has_peer, is_closed, is_ended, is_fin_acked, is_fin_due, is_last_ack, is_listening}
use Rattle.tcp_replay.proofs.Words.{is_syn_sent, is_unanswered, IsAlone, IsOwn, IsSoundPair, LastAck, length, List, Listen, party_with_runs, None, not, NotEnded}
use Rattle.tcp_replay.proofs.Words.{NotOpen, number, Ok, open_refusal, Orderly, PartyState, Phase, phase_after_fin, phase_after_own_fin, rcv_position_of}
use Rattle.tcp_replay.proofs.Words.{refl, refusal_if, Reset, rst, segment_of, Sends, SentSegment, State, sym, SynReceived, SynSent, takes_fin, takes_text}
use Rattle.tcp_replay.proofs.Words.{takes_text_of, TimeWait, true, with_closing, with_fin, ℕ, ◌∙◌, ◌≡◌, ◌≤◌}
use Rattle.tcp_replay.proofs.Lemmas.{after_segment, after_syn-knows, AllSaid, Arrives, at-closed, Both, both-swapped, discards-not_ended, end-listen}
use Rattle.tcp_replay.proofs.Lemmas.{end-syn_received, end-syn_sent, end-synchronized, IsAfterSyn, kept-same, KeptByCalls, knows-closing, knows-fin}
use Rattle.tcp_replay.proofs.Lemmas.{knows-own_fin, Moved, on-arrival, one_if-false, or-none, own-decodes, PairKept, rcv_position-is, refusal_if-none}
use Rattle.tcp_replay.proofs.Lemmas.{said-after, said-back, same-content, send-open, Speaks, syn_sent-knows, Synced, uncapped_rcv_position}
use Rattle.tcp_progress.proofs.steady.Table.{Between, last_ack-fin, last_ack-own_fin, last_ack-own_syn, own_fin-acked, own_fin-is_acked}
use Rattle.tcp_progress.proofs.steady.Table.{own_fin-is_unacked, own_fin-unacked, Table, table-acked, table-close, table-fin, table-last_ack, table-more}
use Rattle.tcp_progress.proofs.steady.Table.{table-no_own_fin, table-own_fin, table-time_wait, table-unanswered, table-unopened}
use Rattle.tcp_conn.specs.declared.phase.Ending.TheVariants.{Reset}
use Rattle.tcp_progress.proofs.{Words.KnowsPort, Words.ReleasesAll, Words.SaysByPhase, laws.NextTaken.window_and_blocks-keep, steady.OnlySent.KeepsSent, turn.Answering.acked-range}
use Rattle.tcp_progress.proofs.{turn.Answering.own_syn-range}
use Rattle.tcp_conn.specs.declared.outcome.CallError.TheVariants as errors
use Rattle.tcp_replay.proofs.Words.{Option, Some, waiting_segment, WaitingReset}

-- Party p's end may be in this state, its peer q being where it is; `end` is the position after p's FIN.
pub record MayBe (p q : PartyState) (phase : Phase) (ending : Ending) (closing finished : Bool) (port snd_una next end : ℕ) : Type 0 where
  pub table : Table phase ending closing finished snd_una end
  pub port_is : has_peer phase ≡ true → port ≡ q.endpoint.config.port
  -- LAST-ACK isn't entered after a close, and nothing is taken in it
  pub last : phase ≡ LastAck → p.closed ≡ true → (p.endpoint.phase ≡ LastAck) × (next ≡ rcv_position_of p)
  -- what q acknowledges with its FIN from LAST-ACK is released
  pub released : q.endpoint.phase ≡ LastAck → finished ≡ true → snd_una ≡ rcv_position_of q

abbrev pub MayBeIn : PartyState → PartyState → State → List ℕ → Type 0
MayBeIn p q s accepted = MayBe p q s.phase s.ending s.closing s.receiving.finished s.peer.port s.sending.snd_una (uncapped_rcv_position s.receiving) (2 + length accepted)

-- a reset or an abort
pub may_be-discarded : (p q : PartyState) (s : State) (accepted : List ℕ) (ending : Ending) → discards ending ≡ true → MayBeIn p q s accepted
    → MayBeIn p q (after_discarding s ending) accepted
may_be-discarded p q s accepted ending gone h = record {
  table =
      (λ (e : ending ≡ NotEnded). absurd (false≢true (sym (ap discards e) ∙ gone)), λ (e : ending ≡ Orderly). absurd (false≢true (sym (ap discards e) ∙ gone)));
  port_is = λ never. absurd (cc);
  last = λ never. absurd (cc);
  released = h.released;
}

-- a close, where the handshake has an answer
has-answer : (phase : Phase) → is_unanswered phase ≡ false → (is_listening phase ≡ false) × (is_syn_sent phase ≡ false)
has-answer phase e = (grind (arith, e), grind (arith, e))

closing : (p q : PartyState) → IsSoundPair p q → close_refusal p.endpoint ≡ None → is_unanswered p.endpoint.phase ≡ false → MayBeIn p q p.endpoint p.accepted
    → MayBeIn p q (with_closing p.endpoint) p.accepted
closing p q pair e unanswered h =
    let s = p.endpoint in
    let sends = pair.there.alone.sends in
    let parts = or-none (open_refusal s) (refusal_if s.closing errors.Closing) e in
    let opens = or-none (refusal_if (is_ended s.ending) (Ended s.ending)) (refusal_if (is_closed s.phase) NotOpen) parts.0 in
    let unclosed : p.closed ≡ false = sym pair.there.alone.closing ∙ refusal_if-none s.closing errors.Closing parts.1 in
    let below : s.sending.snd_una < 2 + length p.accepted = omega (arith, sends.order, sends.most, one_if-false p.closed unclosed) in
    let shut = refusal_if-none (is_closed s.phase) NotOpen opens.1 in
    let other = has-answer s.phase unanswered in
    record {
      table = table-close s.phase s.ending s.closing s.receiving.finished s.sending.snd_una (2 + length p.accepted) shut other.0 other.1 below h.table;
      port_is = λ knows. h.port_is (sym (knows-closing s.phase) ∙ knows);
      last = λ _ closes. absurd (false≢true (sym unclosed ∙ closes));
      released = h.released;
    }

-- THE CALLS, the timers and the emissions
pub may_be-calls : (p q : PartyState) → IsSoundPair p q → MayBeIn p q p.endpoint p.accepted
    → KeptByCalls (address_of q) p (λ p'. MayBeIn p q p'.endpoint p'.accepted)
may_be-calls p q pair h =
    let s = p.endpoint in
    let r = s.receiving in
    let snd_una = s.sending.snd_una in
    let end = 2 + length p.accepted in
    let gone = may_be-discarded p q s p.accepted Aborted refl h in
    record {
      same = h;
      connects = λ can.
          let new = at-closed s.phase s.ending snd_una s.sending.snd_nxt r.opened r.finished can.shut can.ending pair.there.alone.progress in
          let unfinished : r.finished ≡ false = pair.there.alone.unopened new.not_opened in
          record {
            table = table-unopened s.phase s.ending s.closing r.finished snd_una end can.shut can.ending h.table;
            port_is = λ _. refl;
            last = λ never. absurd (cc);
            released = λ _ done. absurd (false≢true (sym unfinished ∙ done));
          };
      listens = λ can. record {
        table = table-unopened s.phase s.ending s.closing r.finished snd_una end can.shut can.ending h.table;
        port_is = λ never. absurd (cc);
        last = λ never. absurd (cc);
        released = h.released;
      };
      sends = λ text _ e. let table = table-more s.phase s.ending s.closing r.finished snd_una end _ (send-open s text e).1 h.table in
          record { table = table; port_is = h.port_is; last = h.last; released = h.released };
      reads = λ _ _. h;
      withdraws = record { table = (λ never. absurd (cc), λ never. absurd (cc)); port_is = gone.port_is; last = gone.last; released = gone.released };
      closes = λ e unanswered. closing p q pair e unanswered h;
      aborts = gone;
      acknowledges = h;
      resends = λ _. h;
      probes = h;
      fills = λ _ _ _. h;
      ends = λ e. record {
        table = table-time_wait s.phase s.ending s.closing r.finished snd_una end e h.table;
        port_is = λ never. absurd (cc);
        last = λ never. absurd (cc);
        released = h.released;
      };
      resends-between = λ _ _ _. h;
      emits = λ _ _ _. h;
    }

-- ---- BETWEEN THE ACKNOWLEDGEMENT and what it does to the state, SND.UNA moving on
record IsBetween (p q : PartyState) (phase : Phase) (closing finished : Bool) (port snd_una next : ℕ) : Type 0 where
  between : (snd_una' : ℕ) → snd_una ≤ snd_una' → Between phase closing finished snd_una' (2 + length p.accepted)
  port_is : has_peer phase ≡ true → port ≡ q.endpoint.config.port
  last : phase ≡ LastAck → p.closed ≡ true → (p.endpoint.phase ≡ LastAck) × (next ≡ rcv_position_of p)
  -- what q acknowledges with its FIN from LAST-ACK is released, and no more is acknowledged
  released : q.endpoint.phase ≡ LastAck → finished ≡ true → rcv_position_of q ≤ snd_una

abbrev BetweenIn : PartyState → PartyState → State → Type 0
BetweenIn p q s = IsBetween p q s.phase s.closing s.receiving.finished s.peer.port s.sending.snd_una (uncapped_rcv_position s.receiving)

between-more : (p q : PartyState) (phase : Phase) (closing finished : Bool) (port snd_una snd_una' next : ℕ) → snd_una ≤ snd_una'
    → IsBetween p q phase closing finished port snd_una next → IsBetween p q phase closing finished port snd_una' next
between-more p q phase closing finished port snd_una snd_una' next more h = record {
  between = λ n further. h.between n (omega (arith, more, further));
  port_is = h.port_is;
  last = h.last;
  released = λ last done. omega (arith, more, h.released last done);
}

own_syn-between : (p q : PartyState) (v : Content) → IsAfterSyn p.endpoint → IsSoundPair p q → MayBeIn p q p.endpoint p.accepted
    → BetweenIn p q (after_own_syn p.endpoint v)
unfolding after_own_syn
own_syn-between p q v after_syn pair h =
    let s = p.endpoint in
    let d = s.sending in
    let r = s.receiving in
    let more = (own_syn-range s v pair.there.alone.sends.order).snd_una in
    record {
      between = λ snd_una further. table-acked s.phase s.ending s.closing r.finished d.snd_una snd_una
          (2 + length p.accepted) after_syn.shut after_syn.listening after_syn.syn_sent
          (λ e. (end-syn_received s e pair.there.alone.progress).1.goes_on) (omega (arith, more, further)) h.table;
      port_is = λ _. h.port_is (after_syn-knows s.phase after_syn.shut after_syn.listening);
      last = λ e closes. h.last (last_ack-own_syn s.phase s.closing e) closes;
      released = λ last done. omega (arith, more, h.released last done);
    }

-- its own FIN's acknowledgement, and none of it
module _ (p q : PartyState) (x : State) (synced : Synced p q x) (b : BetweenIn p q x) where
  going-sends : Sends x.sending p.accepted p.closed false
  going-sends =
      let alone = synced.kept.here.alone in
      let at = end-synchronized x synced.synced alone.progress in
      rw (discards-not_ended x.ending at.0) at alone.sends

  released-now : q.endpoint.phase ≡ LastAck → x.receiving.finished ≡ true → x.sending.snd_una ≡ rcv_position_of q
  released-now last done = omega (arith, b.released last done, synced.kept.here.between)

  ends-last : is_fin_acked x.sending ≡ true → is_last_ack x.phase ≡ true → MayBeIn p q (after_orderly_end x) p.accepted
  ends-last e last = record {
    table = table-last_ack x.phase x.closing x.receiving.finished x.sending.snd_una _ last (own_fin-acked x.sending p.accepted p.closed going-sends e)
        (b.between x.sending.snd_una (omega arith));
    port_is = λ never. absurd (cc);
    last = λ never. absurd (cc);
    released = released-now;
  }

  fin-passes : is_fin_acked x.sending ≡ true → is_last_ack x.phase ≡ false → MayBeIn p q (record x { phase = phase_after_own_fin x.phase }) p.accepted
  fin-passes e other = record {
    table = table-own_fin x.phase x.ending x.closing x.receiving.finished x.sending.snd_una _ other (own_fin-acked x.sending p.accepted p.closed going-sends e)
        (b.between x.sending.snd_una (omega arith));
    port_is = λ knows. b.port_is (sym (knows-own_fin x.phase) ∙ knows);
    last = λ is closes. b.last (last_ack-own_fin x.phase is) closes;
    released = released-now;
  }

  fin-unacked : is_fin_acked x.sending ≡ false → MayBeIn p q x p.accepted
  fin-unacked e = record {
    table = table-no_own_fin x.phase x.ending x.closing x.receiving.finished x.sending.snd_una _ (own_fin-unacked x.sending p.accepted p.closed going-sends e)
        (b.between x.sending.snd_una (omega arith));
    port_is = b.port_is;
    last = b.last;
    released = released-now;
  }

-- TEXT is taken in no LAST-ACK, and a FIN acknowledges all that it was sent where it comes from one
taken-last : (s : State) → s.phase ≡ LastAck → takes_text s.phase ≡ true → ⊥
taken-last s is e = false≢true (sym (ap takes_text is) ∙ e)

may_be-text : (p q : PartyState) (s : State) (v : Content) → takes_text_of s v ≡ true → MayBeIn p q s p.accepted
    → MayBeIn p q (record s { receiving = after_text s.receiving v.seq v.text }) p.accepted
unfolding after_text
may_be-text p q s v e h =
    let takes = (and_parts (takes_text s.phase) (not (length v.text == 0)) e).0 in
    record { table = h.table; port_is = h.port_is; last = λ is _. absurd (taken-last s is takes); released = h.released }

may_be-fin : (p q : PartyState) (s : State) (v : Content) → takes_fin s v ≡ true
    → (has fin v.flags ≡ true → q.endpoint.phase ≡ LastAck → s.sending.snd_una ≡ rcv_position_of q) → MayBeIn p q s p.accepted
    → MayBeIn p q (record s { phase = phase_after_fin s.phase; receiving = with_fin s.receiving }) p.accepted
may_be-fin p q s v e all h =
    let parts = and_parts (takes_text s.phase) (has fin v.flags) (and_parts (has_fin s v) (is_fin_due s.receiving (number v.seq (length v.text))) e).0 in
    record {
      table = table-fin s.phase s.ending s.closing s.receiving.finished s.sending.snd_una _ parts.0 h.table;
      port_is = λ knows. h.port_is (sym (knows-fin s.phase) ∙ knows);
      last = λ is _. absurd (taken-last s (last_ack-fin s.phase is) parts.0);
      released = λ last _. all parts.1 last;
    }

-- ---- WHATEVER IS JUDGED of a segment that the peer emitted
pub may_be-arrives : (p q : PartyState) (g : SentSegment) (v : Content) → IsSoundPair p q → Arrives p q g v → v.src_port ≡ q.endpoint.config.port
    → (has rst v.flags ≡ false → has fin v.flags ≡ true → q.endpoint.phase ≡ LastAck → g.wanted ≡ rcv_position_of q)
    → (q.endpoint.receiving.opened ≡ true → rcv_position_of q ≤ p.endpoint.sending.snd_nxt)
    → MayBeIn p q p.endpoint p.accepted → MayBeIn p q (after_segment p q v) p.accepted
unfolding after_acked_text after_window_and_blocks after_peer_opens after_peer_accepts
may_be-arrives p q g v pair a port from_last sent h =
    let s = p.endpoint in
    let d = s.sending in
    let r = s.receiving in
    let end = 2 + length p.accepted in
    let unfinished : r.opened ≡ false → r.finished ≡ true → ⊥ = λ shut done. false≢true (sym (pair.there.alone.unopened shut) ∙ done) in
    on-arrival p q v g.position g.wanted (λ x. MayBeIn p q x p.accepted) (BetweenIn p q) a.comes (kept-same p q pair) (record {
      same = h;
      has_pending = λ _ _. h;
      gone = may_be-discarded p q s p.accepted Reset refl h;
      opens = λ listening is.
          let at = end-listen s listening pair.there.alone.progress in
          record { table = refl; port_is = λ _. port; last = λ never. absurd (cc); released = λ _ done. absurd (unfinished at.1.not_opened done) };
      accepts = λ opens is.
          let at = end-syn_sent s opens pair.there.alone.progress in
          record {
            table = (table-unanswered s.phase s.ending s.closing r.finished d.snd_una end opens h.table, pair.there.alone.unopened at.1.not_opened);
            port_is = λ _. h.port_is (syn_sent-knows s.phase opens);
            last = λ never. absurd (cc);
            released = λ _ done. absurd (unfinished at.1.not_opened done);
          };
      own_syn = λ after_syn _. own_syn-between p q v after_syn pair h;
      acked_text = λ x _ _ _ b. between-more p q x.phase x.closing x.receiving.finished x.peer.port x.sending.snd_una _ (uncapped_rcv_position x.receiving)
          (acked-range x v).snd_una b;
      window_and_blocks = λ x _ _ _ b. between-more p q x.phase x.closing x.receiving.finished x.peer.port x.sending.snd_una _ (uncapped_rcv_position x.receiving)
          (omega (arith, (window_and_blocks-keep x v).snd_una)) b;
      last = λ x synced e last b. ends-last p q x synced b e last;
      passes = λ x synced e other b. fin-passes p q x synced b e other;
      stays = λ x synced e b. fin-unacked p q x synced b e;
      text = λ x _ _ _ _ e b. may_be-text p q x v e b;
      fin = λ x _ told _ snd_una e b.
          let acks = (a.comes.truthful told.plain).truth.has_ack told.is_ack in
          may_be-fin p q x v e (λ told_fin last. let all = from_last told.plain told_fin last in snd_una (sym all) (omega (arith, all, sent acks.opened)) ∙ all) b;
      adds_pending = λ _ _ b. b;
    }) s.config.addr.0

-- in LAST-ACK each FIN that x emitted acknowledges all that x wants, the peer's FIN included
abbrev pub AcksAll : PartyState → PartyState → Type 0
AcksAll x y = x.endpoint.phase ≡ LastAck → AllSaid x y (λ g v. has rst v.flags ≡ false → has fin v.flags ≡ true → g.wanted ≡ rcv_position_of x)

-- WHAT x KEEPS against its peer y
pub record KeepsStages (x y : PartyState) : Type 0 where
  pub table : Table x.endpoint.phase x.endpoint.ending x.endpoint.closing x.endpoint.receiving.finished x.endpoint.sending.snd_una (2 + length x.accepted)
  pub port : KnowsPort x y
  -- each segment that x emitted names x's port
  pub names : AllSaid x y (λ g v. v.src_port ≡ x.endpoint.config.port)
  pub acks : AcksAll x y
  pub released : ReleasesAll x y

-- a FIN comes after a close
fin-closed : (p q : PartyState) (g : SentSegment) (v : Content) → IsOwn p q g → decode_answer p.endpoint.config.addr.0 q.endpoint.config.addr.0 g.bytes ≡ Ok v
    → has rst v.flags ≡ false → has fin v.flags ≡ true → p.closed ≡ true
fin-closed p q g v own read plain told =
    let same : own.content ≡ v = same-content own.content v (decode_answer p.endpoint.config.addr.0 q.endpoint.config.addr.0 g.bytes)
    (own-decodes p q g own) read in
    let stands = own.truthful (ap (λ (v : Content). has rst v.flags) same ∙ plain) in
    (stands.truth.own.has_fin (ap (λ (v : Content). has fin v.flags) same ∙ told)).0

-- EMIT: whatever goes out, a reset too, names its own port
waiting-names : (s : State) (waiting : Option WaitingReset) → (waiting_segment s waiting).src_port ≡ s.config.port
waiting-names s None = refl
waiting-names s (Some reset) = refl

due-names : (s : State) (due : Due) → (segment_of s due).src_port ≡ s.config.port
unfolding segment_of
due-names s Reset = waiting-names s s.pending.reset
due-names s other = refl

-- p became p', and emitted what is due
stages-moved : (p p' q : PartyState) → IsSoundPair p q → Moved p p' q → Speaks p p' q → MayBeIn p q p'.endpoint p'.accepted → Both KeepsStages p q
    → Both KeepsStages p' q
stages-moved p p' q pair moved out may h =
    let port = ap (λ (c : Config). c.port) (sym moved.config) in
    record {
      there = record {
        table = may.table;
        port = may.port_is;
        names = said-after p p' q (λ g v. v.src_port ≡ p'.endpoint.config.port) moved.config out (λ k g v is read. h.there.names k g v is read ∙ port)
            (λ due _ _ _. due-names p.endpoint due ∙ port);
        acks = λ last. said-after p p' q (λ g v. has rst v.flags ≡ false → has fin v.flags ≡ true → g.wanted ≡ rcv_position_of p') moved.config out
            (λ k g v is read plain told.
            let was = may.last last (fin-closed p q g v (pair.own_there k g is) read plain told) in
            h.there.acks was.0 k g v is read plain told ∙ sym was.1)
            (λ due _ _ after _ _. rcv_position-is p q pair ∙ ap (λ (s : State). uncapped_rcv_position s.receiving) (sym after));
        released = λ last done. let was = may.last last (pair.back.takes.fin done).0 in h.there.released was.0 done ∙ sym was.1;
      };
      back = record {
        table = h.back.table;
        port = λ knows. h.back.port knows ∙ port;
        names = said-back p p' q (λ g v. v.src_port ≡ q.endpoint.config.port) moved.config h.back.names;
        acks = λ last. said-back p p' q (λ g v. has rst v.flags ≡ false → has fin v.flags ≡ true → g.wanted ≡ rcv_position_of q) moved.config (h.back.acks last);
        released = may.released;
      };
    }

may_be-same : (p q : PartyState) → Both KeepsStages p q → MayBeIn p q p.endpoint p.accepted
may_be-same p q h = record { table = h.there.table; port_is = h.there.port; last = λ is _. (is, refl); released = h.back.released }

-- where neither end took what the other didn't send
pub stages-kept : PairKept (Both KeepsSent) (Both KeepsStages) (λ p q s accepted. MayBeIn p q s accepted)
stages-kept = record {
  swapped = both-swapped KeepsStages;
  calls = λ p q pair h. may_be-calls p q pair (may_be-same p q h);
  has_pending = λ p q ack reset pair h. may_be-same p q h;
  arrives = λ p q g v sent pair a h. may_be-arrives p q g v pair a (h.back.names a.place g v a.sent a.read)
      (λ plain told last. h.back.acks last a.place g v a.sent a.read plain told) sent.back.taken.next (may_be-same p q h);
  moved = stages-moved;
}

-- NEW PARTIES have it
pub new-stages : (a b : Config) (runs_a runs_b : ℕ) → KeepsStages (party_with_runs a runs_a) (party_with_runs b runs_b)
new-stages a b runs_a runs_b = record {
  table = (λ _. refl, λ never. absurd (cc));
  port = λ never. absurd (cc);
  names = λ k g v never. absurd (cc);
  acks = λ never. absurd (cc);
  released = λ never. absurd (cc);
}

-- ---- WHAT FOLLOWS of each end
sends-on : (s : State) (accepted : List ℕ) (closed : Bool) → s.ending ≡ NotEnded → IsAlone s accepted closed → Sends s.sending accepted closed false
sends-on s accepted closed going alone = rw (discards-not_ended s.ending going) at alone.sends

-- before a close no FIN was sent
unsent : (s : State) (accepted : List ℕ) (closed : Bool) → s.ending ≡ NotEnded → s.closing ≡ false → IsAlone s accepted closed → is_fin_acked s.sending ≡ false
unsent s accepted closed going early alone =
    let sends = sends-on s accepted closed going alone in
    let unclosed : closed ≡ false = sym alone.closing ∙ early in
    own_fin-is_unacked s.sending accepted closed sends (omega (arith, sends.order, sends.most, one_if-false closed unclosed))

says : (phase : Phase) (s : State) (accepted : List ℕ) (closed : Bool)
    → FitsPhase phase s.ending s.sending.snd_una s.sending.snd_nxt s.receiving.opened s.receiving.finished → IsAlone s accepted closed
    → Table phase s.ending s.closing s.receiving.finished s.sending.snd_una (2 + length accepted) → SaysByPhase phase s
says Closed s accepted closed fits alone h = λ e.
    let row = h.1 e in
    let sends : Sends s.sending accepted closed false = rw (ap discards e) at alone.sends in
    record { closing = row.0; acked = own_fin-is_acked s.sending accepted closed sends row.2; finished = row.1 }
says Listen s accepted closed fits alone h = tt
says SynSent s accepted closed fits alone h = tt
says SynReceived s accepted closed fits alone h = (h, fits.1.snd_nxt_is)
says Established s accepted closed fits alone h = record { closing = h.0; acked = unsent s accepted closed fits.0 h.0 alone; finished = h.1 }
says FinWait2 s accepted closed fits alone h =
    record { closing = h.0; acked = own_fin-is_acked s.sending accepted closed (sends-on s accepted closed fits.0 alone) h.2; finished = h.1 }
says CloseWait s accepted closed fits alone h = record { closing = h.0; acked = unsent s accepted closed fits.0 h.0 alone; finished = h.1 }
says TimeWait s accepted closed fits alone h =
    record { closing = h.0; acked = own_fin-is_acked s.sending accepted closed (sends-on s accepted closed fits.0 alone) h.2; finished = h.1 }
says other s accepted closed fits alone h =
    record { closing = h.0; acked = own_fin-is_unacked s.sending accepted closed (sends-on s accepted closed fits.0 alone) h.2; finished = h.1 }

-- each state says what it does of both FINs
pub stage-says : (p q : PartyState) → IsSoundPair p q → KeepsStages p q → SaysByPhase p.endpoint.phase p.endpoint
stage-says p q pair h = says p.endpoint.phase p.endpoint p.accepted p.closed pair.there.alone.progress pair.there.alone h.table
