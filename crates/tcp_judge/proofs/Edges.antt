-- THE EDGE that a judge knows: no text goes beyond it (RFC 9293, 3.8.6).
use Rattle.tcp_replay.proofs.Words.{◌≡◌, ℕ, ◌+◌, ◌-◌, ◌<◌, ◌≤◌, ◌^◌, ◌&&◌, ◌==◌, max, true, false, not, List, ◌++◌, length, Option, Some, None, IfSome, is_some, Result, Ok, Err}
use Rattle.tcp_replay.proofs.Words.{nat_lt, nat_le, if◌then◌else◌, refl, sym, ◌∙◌, ap, subst, arith, cond_both, ⊎_elim, false≢true, drop, length-append, length-drop}
use Rattle.tcp_replay.proofs.Words.{State, Content, DecodeError, is_handshake, after_judgement, judgement, after_reading, decode_answer, decoded_valid, AreBytes}
use Rattle.std.proofs.lemmas.Bool.{le-ltb, lt-ltb, ltb-false}
use Rattle.std.proofs.lemmas.Bool.Decides.{nat_tests}
use Rattle.tcp_wire.specs.Flags.{syn, has}
use Rattle.tcp_numbers.specs.declared.seq.Seq.{Seq}
use Rattle.tcp_replay.proofs.Lists.{by_test}
use Rattle.tcp_judge.specs.Edge.{Edge, edge_after, is_past}
use Rattle.tcp_judge.specs.Heard.{is_syn, is_elsewhere}
use Rattle.tcp_judge.specs.Judgement.{known_came}
use Rattle.tcp_judge.specs.Known.{Known, place_of, is_keep_alive, known_after, leads_back, count_acked, acked_position_by, acked_position, known_with}
use Rattle.tcp_judge.specs.Stream.{Stream, nothing_sent, count_sent, count_taken, with_text, without_front}
use Rattle.tcp_judge.specs.Taken.{taken_as}
use Rattle.tcp_judge.proofs.Streams.{unless, acked-most}
use Rattle.tcp_judge.proofs.Follows.{with-nothing, some-or_none}
use Rattle.tcp_judge.proofs.Acked.{still-known, went-initial}
use Rattle.tcp_judge.proofs.Elsewhere.{HasPorts, StaysPut, elsewhere-reading}
use Rattle.tcp_judge.proofs.Windows.{IsAllowed, allowed-more, allowed-judgement, MovesTo, moves-judgement, sees-position}

-- how far text may go
abbrev pub edge_of : Edge → ℕ
edge_of e = e.acked + max e.window 1

pub record KnowsEdge (k : Known) (s : State) : Type 0 where
  pub allowed : IsAllowed k.edge s
  pub acked : (first : Seq) → k.initial ≡ Some first → s.sending.snd_una ≤ k.edge.acked
  pub sent : 1 + count_sent k.stream ≤ edge_of k.edge

-- ---- WHAT COMES
stream-with : (k : Known) (v : Content) → 1 + count_sent k.stream ≤ edge_of k.edge → 1 + count_sent (known_with k v).stream ≤ edge_of (known_with k v).edge
stream-with k v h =
    let e' = edge_after k.edge (acked_position k v) v in
    cond_both (leads_back k v) nothing_sent (without_front k.stream (count_acked k v)) (λ (d : Stream). 1 + count_sent d ≤ edge_of e') (λ _. omega arith)
    (λ _. omega (arith, h, length-drop (count_acked k v) k.stream.sent, acked-most k.initial k.stream (is_some k.fin) v))

-- where the end takes nothing of it
edge-same : (k : Known) (v : Content) (s : State) → KnowsEdge k s → KnowsEdge (known_with k v) s
edge-same k v s h = record {
  allowed = allowed-more k.edge (acked_position k v) v s h.allowed;
  acked = λ first is. omega (arith, h.acked first (still-known (leads_back k v) k.initial first is));
  sent = stream-with k v h.sent;
}

edge-still : (k : Known) (taken : Option Content) (s : State) → KnowsEdge k s → KnowsEdge (known_came k taken) s
edge-still k None s h = h
edge-still k (Some v) s h = cond_both (is_elsewhere k.heard.ports v) k (known_with k v) (λ (k' : Known). KnowsEdge k' s) (λ _. h) (λ _. edge-same k v s h)

edge-put : (k : Known) (s s' : State) → StaysPut s s' → KnowsEdge k s → KnowsEdge k s'
edge-put k s s' put h = record {
  allowed = record { wnd = rw put.sending h.allowed.wnd; shift = rw put.link h.allowed.shift };
  acked = λ first is. rw put.sending (h.acked first is);
  sent = h.sent;
}

module _ (k : Known) (s : State) (small : s.config.isn.0 < 2 ^ 32) (initial : IfSome k.initial (λ n. n.0 ≡ s.config.isn.0))
    (next : (first : Seq) → k.initial ≡ Some first → (s.sending.snd_nxt ≡ count_taken k.stream (is_some k.fin)) × (s.sending.snd_nxt < 2 ^ 31))
    (few : count_sent k.stream < 2 ^ 31) (hand : is_handshake s.phase ≡ true → s.sending.snd_una < s.sending.snd_nxt) (h : KnowsEdge k s)
  where
    edge-taken : (src dst : List ℕ) (v : Content) → v.ack < 2 ^ 32 → KnowsEdge (known_with k v) (after_judgement (judgement s src dst v) s src v)
    edge-taken src dst v fits = record {
      allowed = allowed-judgement k.edge (acked_position k v) v s src dst h.allowed;
      acked = λ first is.
          let there = still-known (leads_back k v) k.initial first is in
          let at = next first there in
          let same : first.0 ≡ s.config.isn.0 = subst (λ (o : Option Seq). IfSome o (λ n. n.0 ≡ s.config.isn.0)) there initial in
          let n = (after_judgement (judgement s src dst v) s src v).sending.snd_una in
          let count = count_sent k.stream in
          let taken = count_taken k.stream (is_some k.fin) in
          ⊎_elim (λ (fewer : n ≤ s.sending.snd_una). omega (arith, fewer, h.acked first there))
          (λ (moves : MovesTo s v n).
          let sees : acked_position_by (Some first) count taken v ≡ n =
          sees-position s v n first count taken moves same small fits (omega (arith, at.0)) (omega (arith, at.0, at.1)) few in
          let here : acked_position k v ≡ n = ap (λ (o : Option Seq). acked_position_by o count taken v) there ∙ sees in
          omega (arith, here))
          (moves-judgement s v src dst hand);
      sent = stream-with k v h.sent;
    }

    pub edge-came : (src dst bytes : List ℕ) (r : Result Content DecodeError) → AreBytes bytes → decode_answer src dst bytes ≡ r → HasPorts k.heard.ports s
        → KnowsEdge (known_came k (taken_as bytes r)) (after_reading s src dst r)
    edge-came src dst bytes (Ok v) fits e ports =
        cond_both (is_elsewhere k.heard.ports v) k (known_with k v) (λ (k' : Known). KnowsEdge k' (after_judgement (judgement s src dst v) s src v))
        (λ away. edge-put k s (after_judgement (judgement s src dst v) s src v) (elsewhere-reading k.heard.ports s src dst bytes (Ok v) v ports refl away) h)
        (λ _. edge-taken src dst v (decoded_valid src dst v bytes fits e).ack)
    edge-came src dst bytes (Err fault) fits e ports = edge-still k (taken_as bytes (Err fault)) s h

-- ---- WHAT GOES
count-most : (d : Stream) (place : ℕ) (text : List ℕ) → 1 + count_sent (with_text d place text) ≤ max (1 + count_sent d) (place + length text)
count-most d place text =
    let more = drop (1 + count_sent d - place) text in
    by_test (nat_lt 0 place && nat_le place (1 + count_sent d)) (λ b. 1 + (d.released + length (if b then d.sent ++ more else d.sent)) ≤ max (1 + count_sent d) (place + length text))
    (λ _. omega (arith, length-append d.sent more, length-drop (1 + count_sent d - place) text)) (λ _. omega arith)

no-place : (d : Stream) (text : List ℕ) → count_sent (with_text d 0 text) ≡ count_sent d
no-place d text = refl

not-empty : (n : ℕ) → 0 < n → not (n == 0) ≡ true
not-empty n some = grind (arith, nat_tests, some)

within-edge : (e : Edge) (place : ℕ) (v : Content) → is_past e place v ≡ false → has syn v.flags ≡ false → 0 < length v.text → 0 < place
    → place + length v.text ≤ edge_of e
within-edge e place v right bare some placed =
    let b = nat_lt (max e.window 1) (place + length v.text - e.acked) in
    let rest : (nat_lt 0 place && (not (length v.text == 0) && not (has syn v.flags))) ≡ true =
    rw (lt-ltb 0 place placed, not-empty (length v.text) some, bare) refl in
    by_test b (λ c. (b ≡ c) → place + length v.text ≤ edge_of e)
    (λ _ is. absurd (false≢true (sym right ∙ ap (λ c. c && (nat_lt 0 place && (not (length v.text == 0) && not (has syn v.flags)))) is ∙ rest)))
    (λ _ is. omega (arith, ltb-false (max e.window 1) (place + length v.text - e.acked) is)) refl

sent-after : (k : Known) (v : Content) → (has syn v.flags ≡ true → length v.text ≡ 0) → is_past k.edge (place_of k v) v ≡ false
    → 1 + count_sent k.stream ≤ edge_of k.edge → 1 + count_sent (known_after k v).stream ≤ edge_of k.edge
sent-after k v empty right h =
    let place = place_of k v in
    let d = k.stream in
    cond_both (is_keep_alive k place v) d (with_text d place v.text) (λ (x : Stream). 1 + count_sent x ≤ edge_of k.edge) (λ _. h)
    (λ _. ⊎_elim (λ (none : length v.text ≡ 0). omega (arith, h, with-nothing d place v.text none))
    (λ (some : 0 < length v.text).
    let bare : has syn v.flags ≡ false = by_test (has syn v.flags) (λ b. (has syn v.flags ≡ b) → b ≡ false)
    (λ _ is. absurd (omega (arith, some, empty is))) (λ _ _. refl) refl in
    ⊎_elim (λ (none : place ≡ 0). subst (λ (i : ℕ). 1 + count_sent (with_text d i v.text) ≤ edge_of k.edge) (sym none) h)
    (λ (placed : 0 < place). omega (arith, h, count-most d place v.text, within-edge k.edge place v right bare some placed))
    (some-or_none place))
    (some-or_none (length v.text)))

pub edge-went : (k : Known) (v : Content) (s : State) → (is_syn v ≡ true → s.sending.snd_una ≡ 0) → (has syn v.flags ≡ true → length v.text ≡ 0)
    → is_past k.edge (place_of k v) v ≡ false → KnowsEdge k s → KnowsEdge (known_after k v) s
edge-went k v s waits empty right h = record {
  allowed = h.allowed;
  acked = λ first is.
      by_test (is_syn v) (λ b. (is_syn v ≡ b) → s.sending.snd_una ≤ k.edge.acked) (λ _ opens. omega (arith, waits opens))
      (λ _ bare. h.acked first (went-initial k.initial v first (λ never. false≢true (sym bare ∙ never)) is)) refl;
  sent = sent-after k v empty right h.sent;
}

-- THE RULE is kept
pub beyond-unplaced : (e : Edge) (place : ℕ) (v : Content) → place ≡ 0 → is_past e place v ≡ false
beyond-unplaced e place v none =
    unless (nat_lt (max e.window 1) (place + length v.text - e.acked)) (nat_lt 0 place && (not (length v.text == 0) && not (has syn v.flags)))
    (λ _. ap (λ b. b && (not (length v.text == 0) && not (has syn v.flags))) (le-ltb 0 place (omega (arith, none))))

pub beyond-syn : (e : Edge) (place : ℕ) (v : Content) → has syn v.flags ≡ true → is_past e place v ≡ false
beyond-syn e place v is =
    unless (nat_lt (max e.window 1) (place + length v.text - e.acked)) (nat_lt 0 place && (not (length v.text == 0) && not (has syn v.flags)))
    (λ _. unless (nat_lt 0 place) (not (length v.text == 0) && not (has syn v.flags)) (λ _. unless (not (length v.text == 0)) (not (has syn v.flags)) (λ _. ap not is)))

pub beyond-none : (e : Edge) (place : ℕ) (v : Content) → (0 < length v.text → place + length v.text ≤ edge_of e) → is_past e place v ≡ false
beyond-none e place v h =
    ⊎_elim
    (λ (none : length v.text ≡ 0).
    unless (nat_lt (max e.window 1) (place + length v.text - e.acked)) (nat_lt 0 place && (not (length v.text == 0) && not (has syn v.flags)))
    (λ _. unless (nat_lt 0 place) (not (length v.text == 0) && not (has syn v.flags)) (λ _. ap (λ n. not (n == 0) && not (has syn v.flags)) none)))
    (λ (some : 0 < length v.text).
    ap (λ b. b && (nat_lt 0 place && (not (length v.text == 0) && not (has syn v.flags))))
    (le-ltb (max e.window 1) (place + length v.text - e.acked) (omega (arith, h some))))
    (some-or_none (length v.text))
