-- WHAT THE WINDOWS ALLOW, as a judge knows it: no less than the end takes from what comes (RFC 9293, 3.8.6; RFC 7323, 2).
use Rattle.tcp_replay.proofs.Words.{◌≡◌, ℕ, zero, suc, ◌*◌, ◌<◌, ◌≤◌, ◌^◌, ◌&&◌, ◌⊎◌, min, Bool, true, false, List, [], ◌∷◌, Some, is_some}
use Rattle.tcp_replay.proofs.Words.{nat_lt, nat_le, if◌then◌else◌, ltb-true, leb-true, refl, ◌∙◌, ap, arith, cond_both, ⊎_elim, inl, inr, and_parts, eqb-true, number, distance, cases_lt}
use Rattle.tcp_replay.proofs.Words.{State, Sending, Content, PartyState, Peer, window_from, with_window, with_syn_acked, after_ack, acks_more, with_acked, is_syn_received, is_handshake}
use Rattle.tcp_replay.proofs.Words.{after_judgement, judgement, Judgement, Foreign, PeerResets, PeerOpens, PeerAccepts, Taken, TakenShut, after_peer_opens, after_peer_accepts, position_near}
use Rattle.tcp_replay.proofs.Words.{after_own_syn, after_acked_text, after_window_and_blocks, after_its_ack, after_its_text, after_fin, after_taking, after_taking_shut}
use Rattle.std.specs.Prelude.{unwrap_or}
use Rattle.std.proofs.Math.Pow.{pow_mono}
use Rattle.std.proofs.lemmas.Bool.{le-leb}
use Rattle.tcp_wire.specs.Flags.{rst, ack, has}
use Rattle.tcp_wire.specs.Options.{OptionContent, WindowScale, Nop, Mss, SackPermitted, Sack, Unknown}
use Rattle.tcp_wire.specs.Position.{position_of}
use Rattle.tcp_wire.proofs.Lemmas.{position_of_ahead, position_of_behind, position_of_number}
use Rattle.tcp_halves.specs.Options.{shift_option, link_of}
use Rattle.tcp_halves.specs.declared.config.Config.{Config}
use Rattle.tcp_numbers.specs.declared.seq.Seq.{Seq}
use Rattle.tcp_replay.proofs.Lists.{by_test}
use Rattle.tcp_replay.proofs.Lemmas.{KeptByCalls, judged, own_fin-cases, window_and_blocks-cases}
use Rattle.tcp_replay.proofs.one_end.Judgements.{IsSyn, IsTaken, IsAckOnly}
use Rattle.tcp_judge.specs.Edge.{Edge, greatest_shift, window_of, edge_after}
use Rattle.tcp_judge.specs.Heard.{is_syn, carries_ack}
use Rattle.tcp_judge.specs.Known.{acked_position_by}
use Rattle.tcp_judge.proofs.Acked.{takes_ack, AcksOwnSyn, Acks, acks-judgement, sent-handshake}
use Rattle.tcp_judge.proofs.Resets.{received-handshake}

-- ---- WINDOWS AND SHIFTS
pub record IsAllowed (e : Edge) (s : State) : Type 0 where
  pub wnd : s.sending.snd_wnd ≤ e.window
  pub shift : s.link.peer_shift ≤ min 14 e.shift

pub allowed-calls : (peer : Peer) (p : PartyState) (e : Edge) → IsAllowed e p.endpoint → KeptByCalls peer p (λ p'. IsAllowed e p'.endpoint)
allowed-calls peer p e h = record {
  same = h;
  connects = λ _. record { wnd = h.wnd; shift = h.shift };
  listens = λ _. record { wnd = h.wnd; shift = h.shift };
  sends = λ _ _ _. record { wnd = h.wnd; shift = h.shift };
  reads = λ _ _. record { wnd = h.wnd; shift = h.shift };
  withdraws = record { wnd = h.wnd; shift = h.shift };
  closes = λ _ _. record { wnd = h.wnd; shift = h.shift };
  aborts = record { wnd = h.wnd; shift = h.shift };
  acknowledges = record { wnd = h.wnd; shift = h.shift };
  resends = λ _. record { wnd = h.wnd; shift = h.shift };
  probes = record { wnd = h.wnd; shift = h.shift };
  fills = λ _ _ _. record { wnd = h.wnd; shift = h.shift };
  ends = λ _. record { wnd = h.wnd; shift = h.shift };
  resends-between = λ _ _ _. record { wnd = h.wnd; shift = h.shift };
  emits = λ _ _ _. record { wnd = h.wnd; shift = h.shift };
}

times-more : (n a b : ℕ) → a ≤ b → n * a ≤ n * b
times-more zero a b h = omega arith
times-more (suc n) a b h = omega (arith, h, times-more n a b h)

shift-most : (options : List OptionContent) → unwrap_or (shift_option options) 0 ≤ greatest_shift options
shift-most [] = omega arith
shift-most (WindowScale shift ∷ options) = omega arith
shift-most (Nop ∷ options) = omega (arith, shift-most options)
shift-most (Mss size ∷ options) = omega (arith, shift-most options)
shift-most (SackPermitted ∷ options) = omega (arith, shift-most options)
shift-most (Sack blocks ∷ options) = omega (arith, shift-most options)
shift-most (Unknown kind body ∷ options) = omega (arith, shift-most options)

module _ (e : Edge) (position : ℕ) (v : Content) where
  abbrev E : Edge
  E = edge_after e position v

  pub allowed-more : (s : State) → IsAllowed e s → IsAllowed E s
  allowed-more s h = record { wnd = omega (arith, h.wnd); shift = omega (arith, h.shift) }

  -- a window that is taken, and that of a SYN
  window-scaled : (shift : ℕ) → shift ≤ min 14 e.shift → IsAckOnly v → v.window * 2 ^ shift ≤ E.window
  window-scaled shift h only =
      let most : v.window * 2 ^ shift ≤ v.window * 2 ^ min 14 e.shift = times-more v.window (2 ^ shift) (2 ^ min 14 e.shift) (pow_mono h) in
      let told : (if has rst v.flags then 0 else window_of e.shift v) ≡ v.window * 2 ^ min 14 e.shift =
      ap (λ (b : Bool). if b then 0 else window_of e.shift v) only.plain ∙ ap (λ (b : Bool). if b then v.window else v.window * 2 ^ min 14 e.shift) only.no_syn in
      omega (arith, most, told)

  window-first : IsSyn v → v.window ≤ E.window
  window-first is =
      let told : (if has rst v.flags then 0 else window_of e.shift v) ≡ v.window =
      ap (λ (b : Bool). if b then 0 else window_of e.shift v) is.plain ∙ ap (λ (b : Bool). if b then v.window else v.window * 2 ^ min 14 e.shift) is.is_syn in
      omega (arith, told)

  shift-first : (c : Config) → IsSyn v → (link_of c v.options).peer_shift ≤ min 14 E.shift
  unfolding link_of
  shift-first c is =
      let plain_syn : is_syn v ≡ true = rw (is.is_syn, is.plain) refl in
      let told : (if is_syn v then greatest_shift v.options else 0) ≡ greatest_shift v.options = ap (λ (b : Bool). if b then greatest_shift v.options else 0) plain_syn in
      cond_both (is_some c.window_shift) (min 14 (unwrap_or (shift_option v.options) 0)) 0 (λ (n : ℕ). n ≤ min 14 E.shift)
      (λ _. omega (arith, told, shift-most v.options)) (λ _. omega arith)

  its_ack-allowed : (s : State) → IsAckOnly v → IsAllowed e s → IsAllowed E (after_its_ack s v)
  unfolding after_its_ack after_own_syn after_acked_text after_window_and_blocks after_ack
  its_ack-allowed s only h =
      let scaled : window_from s.link v.window ≤ E.window = window-scaled s.link.peer_shift h.shift only in
      let had : s.sending.snd_wnd ≤ E.window = omega (arith, h.wnd) in
      let first : (after_own_syn s v).sending.snd_wnd ≤ E.window =
      cond_both (is_syn_received s.phase) (with_window (with_syn_acked s.sending) v.seq v.ack (window_from s.link v.window)) s.sending
      (λ (d : Sending). d.snd_wnd ≤ E.window) (λ _. scaled) (λ _. had) in
      let x = after_own_syn s v in
      let second : (after_acked_text x v).sending.snd_wnd ≤ E.window =
      cond_both (acks_more x.sending (position_near x v.ack)) (with_acked x.sending (position_near x v.ack)) x.sending
      (λ (d : Sending). d.snd_wnd ≤ E.window) (λ _. first) (λ _. first) in
      let third : (after_window_and_blocks (after_acked_text x v) v).sending.snd_wnd ≤ E.window =
      window_and_blocks-cases (λ (d : Sending). d.snd_wnd ≤ E.window) (after_acked_text x v) v (λ _ _. scaled) (λ _ _ _ _ k. k) second in
      own_fin-cases (after_window_and_blocks (after_acked_text x v) v) (IsAllowed E) (λ _ _. record { wnd = third; shift = omega (arith, h.shift) })
      (λ _ _. record { wnd = third; shift = omega (arith, h.shift) }) (λ _. record { wnd = third; shift = omega (arith, h.shift) })

  taking-allowed : (s : State) → IsAckOnly v → IsAllowed e s → IsAllowed E (after_taking s v)
  unfolding after_taking after_its_text after_fin
  taking-allowed s only h = let x = its_ack-allowed s only h in record { wnd = x.wnd; shift = x.shift }

  shut-allowed : (s : State) → IsAckOnly v → IsAllowed e s → IsAllowed E (after_taking_shut s v)
  unfolding after_taking_shut
  shut-allowed s only h = let x = its_ack-allowed s only h in record { wnd = x.wnd; shift = x.shift }

  opens-allowed : (s : State) (src : List ℕ) → IsSyn v → IsAllowed e s → IsAllowed E (after_peer_opens s src v)
  unfolding after_peer_opens
  opens-allowed s src is h = record { wnd = omega (arith, h.wnd); shift = shift-first s.config is }

  accepts-allowed : (s : State) → IsSyn v → IsAllowed E (after_peer_accepts s v)
  unfolding after_peer_accepts
  accepts-allowed s is = record { wnd = window-first is; shift = shift-first s.config is }

  pub allowed-judgement : (s : State) (src dst : List ℕ) → IsAllowed e s → IsAllowed E (after_judgement (judgement s src dst v) s src v)
  allowed-judgement s src dst h =
      let J : Judgement → Type 0 = λ j. IsAllowed E (after_judgement j s src v) in
      let same : J Foreign = allowed-more s h in
      let gone : J PeerResets = record { wnd = omega (arith, h.wnd); shift = omega (arith, h.shift) } in
      let opens : IsSyn v → J PeerOpens = λ is. opens-allowed s src is h in
      let accepts : IsSyn v → J PeerAccepts = λ is. accepts-allowed s is in
      let taken : IsTaken s v → J Taken = λ is. taking-allowed s is.ack_only h in
      let shut : IsAckOnly v → J TakenShut = λ only. shut-allowed s only h in
      judged s v J (record {
        foreign = same;
        reset_ignored = same;
        stray = record { wnd = same.wnd; shift = same.shift };
        ack_of_listen = record { wnd = same.wnd; shift = same.shift };
        no_syn = same;
        peer_opens = λ _ is. opens is;
        ack_of_no_syn = record { wnd = same.wnd; shift = same.shift };
        peer_refuses = gone;
        peer_accepts = λ _ is. accepts is;
        unacceptable = λ _. record { wnd = same.wnd; shift = same.shift };
        peer_resets = gone;
        reset_elsewhere = λ _. record { wnd = same.wnd; shift = same.shift };
        syn_in_window = λ _. record { wnd = same.wnd; shift = same.shift };
        no_ack = same;
        acks_unsent = λ _. record { wnd = same.wnd; shift = same.shift };
        handshake_refused = record { wnd = same.wnd; shift = same.shift };
        handshake_refused_shut = λ _. record { wnd = same.wnd; shift = same.shift };
        taken = λ _ is. taken is;
        taken_shut = λ _ only. shut only;
      }) src dst

-- ---- SND.UNA stays, or moves on to what is acknowledged
pub record MovesTo (s : State) (v : Content) (n : ℕ) : Type 0 where
  pub near : position_near s v.ack ≡ n
  pub inside : n ≤ s.sending.snd_nxt
  pub more : s.sending.snd_una < n
  pub told : has ack v.flags ≡ true
  pub plain : has rst v.flags ≡ false

abbrev pub Moves : State → Content → ℕ → Type 0
Moves s v n = (n ≤ s.sending.snd_una) ⊎ MovesTo s v n

module _ (s : State) (v : Content) where
  own-moves : s.sending.snd_una < s.sending.snd_nxt → AcksOwnSyn s v → Moves s v s.sending.snd_nxt
  own-moves more own = inr (record {
    near = eqb-true (position_near s v.ack) s.sending.snd_nxt own.is;
    inside = omega arith;
    more = more;
    told = own.told;
    plain = own.plain;
  })

  second-moves : IsAckOnly v → (is_syn_received s.phase ≡ true → (s.sending.snd_una < s.sending.snd_nxt) × AcksOwnSyn s v)
      → Moves s v (after_acked_text (after_own_syn s v) v).sending.snd_una
  unfolding after_own_syn after_acked_text after_ack
  second-moves only own =
      let d = s.sending in
      let told = window_from s.link v.window in
      let x = after_own_syn s v in
      let a = position_near x v.ack in
      by_test (is_syn_received s.phase)
      (λ b.
      let d' = if b then with_window (with_syn_acked d) v.seq v.ack told else d in
      let p = position_of s.config.isn.0 d'.snd_una v.ack in
      (is_syn_received s.phase ≡ b) → Moves s v (if acks_more d' p then with_acked d' p else d').snd_una)
      (λ _ is.
      let d' = with_window (with_syn_acked d) v.seq v.ack told in
      let p = position_of s.config.isn.0 d'.snd_una v.ack in
      let at = own is in
      cond_both (acks_more d' p) (with_acked d' p) d' (λ (y : Sending). Moves s v y.snd_una)
      (λ e. let parts = and_parts (nat_lt d'.snd_una p) (nat_le p d'.snd_nxt) e in
      absurd (omega (arith, ltb-true d'.snd_una p parts.0, leb-true p d'.snd_nxt parts.1)))
      (λ _. own-moves at.0 at.1))
      (λ _ _.
      let p = position_near s v.ack in
      cond_both (acks_more d p) (with_acked d p) d (λ (y : Sending). Moves s v y.snd_una)
      (λ e. let parts = and_parts (nat_lt d.snd_una p) (nat_le p d.snd_nxt) e in
      inr (record {
        near = refl;
        inside = leb-true p d.snd_nxt parts.1;
        more = ltb-true d.snd_una p parts.0;
        told = only.is_ack;
        plain = only.plain;
      }))
      (λ _. inl (omega arith))) refl

  its_ack-moves : IsAckOnly v → (is_syn_received s.phase ≡ true → (s.sending.snd_una < s.sending.snd_nxt) × AcksOwnSyn s v)
      → Moves s v (after_its_ack s v).sending.snd_una
  unfolding after_its_ack
  its_ack-moves only own =
      let second = after_acked_text (after_own_syn s v) v in
      let third : Moves s v (after_window_and_blocks second v).sending.snd_una =
      window_and_blocks-cases (λ (d : Sending). Moves s v d.snd_una) second v (λ _ k. k) (λ _ _ _ _ k. k) (second-moves only own) in
      own_fin-cases (after_window_and_blocks second v) (λ (x : State). Moves s v x.sending.snd_una) (λ _ _. third) (λ _ _. third) (λ _. third)

  taking-moves : IsAckOnly v → (is_syn_received s.phase ≡ true → (s.sending.snd_una < s.sending.snd_nxt) × AcksOwnSyn s v)
      → Moves s v (after_taking s v).sending.snd_una
  unfolding after_taking after_its_text after_fin
  taking-moves only own = its_ack-moves only own

  shut-moves : IsAckOnly v → (is_syn_received s.phase ≡ true → (s.sending.snd_una < s.sending.snd_nxt) × AcksOwnSyn s v)
      → Moves s v (after_taking_shut s v).sending.snd_una
  unfolding after_taking_shut
  shut-moves only own = its_ack-moves only own

  opens-moves : (src : List ℕ) → Moves s v (after_peer_opens s src v).sending.snd_una
  unfolding after_peer_opens
  opens-moves src = inl (omega arith)

  accepts-moves : s.sending.snd_una < s.sending.snd_nxt → AcksOwnSyn s v → Moves s v (after_peer_accepts s v).sending.snd_una
  unfolding after_peer_accepts
  accepts-moves more own = own-moves more own

  pub moves-judgement : (src dst : List ℕ) → (is_handshake s.phase ≡ true → s.sending.snd_una < s.sending.snd_nxt)
      → Moves s v (after_judgement (judgement s src dst v) s src v).sending.snd_una
  moves-judgement src dst hand =
      let J : Judgement → Type 0 = λ j. (is_handshake s.phase ≡ true → Acks s v j) → Moves s v (after_judgement j s src v).sending.snd_una in
      let same : J Foreign = λ _. inl (omega arith) in
      let gone : J PeerResets = λ _. inl (omega arith) in
      let received : (j : Judgement) → takes_ack j ≡ true → (is_handshake s.phase ≡ true → Acks s v j) → is_syn_received s.phase ≡ true
      → (s.sending.snd_una < s.sending.snd_nxt) × AcksOwnSyn s v =
      λ j takes acks is. let h = received-handshake s.phase is in (hand h, acks h takes) in
      judged s v J (record {
        foreign = same;
        reset_ignored = same;
        stray = same;
        ack_of_listen = same;
        no_syn = same;
        peer_opens = λ _ _ _. opens-moves src;
        ack_of_no_syn = same;
        peer_refuses = gone;
        peer_accepts = λ sent _ acks. let h = sent-handshake s.phase sent in accepts-moves (hand h) (acks h refl);
        unacceptable = λ _. same;
        peer_resets = gone;
        reset_elsewhere = λ _. same;
        syn_in_window = λ _. same;
        no_ack = same;
        acks_unsent = λ _. same;
        handshake_refused = same;
        handshake_refused_shut = λ _. same;
        taken = λ _ is acks. taking-moves is.ack_only (received Taken refl acks);
        taken_shut = λ _ only acks. shut-moves only (received TakenShut refl acks);
      }) src dst (λ h. acks-judgement s v src dst h)

-- the number of a position that is further ahead
near-number : (isn una w n : ℕ) → isn < 2 ^ 32 → w < 2 ^ 32 → position_of isn una w ≡ n → una < n → w ≡ number isn n
near-number isn una w n small fits e more =
    let less : distance (number isn una) w < 2 ^ 32 = omega arith in
    ⊎_elim
    (λ (close : distance (number isn una) w < 2 ^ 31). omega (arith, e, position_of_ahead isn una w small fits close))
    (λ (far : 2 ^ 31 ≤ distance (number isn una) w). absurd (omega (arith, e, more, less, position_of_behind isn una w small fits far)))
    (cases_lt (distance (number isn una) w) (2 ^ 31))

-- A JUDGE sees the position that is acknowledged
pub sees-position : (s : State) (v : Content) (n : ℕ) (first : Seq) (count next : ℕ) → MovesTo s v n → first.0 ≡ s.config.isn.0 → s.config.isn.0 < 2 ^ 32 → v.ack < 2 ^ 32
    → s.sending.snd_nxt ≤ next → next < 2 ^ 31 → count < 2 ^ 31 → acked_position_by (Some first) count next v ≡ n
sees-position s v n first count next moves same small fits inside short few =
    let isn = s.config.isn.0 in
    let is : v.ack ≡ number isn n = near-number isn s.sending.snd_una v.ack n small fits moves.near moves.more in
    let near : position_of isn count (number isn n) ≡ n =
    position_of_number isn count n small (omega (arith, moves.inside, inside, short)) (omega (arith, moves.inside, inside, few)) in
    let there : position_of first.0 count v.ack ≡ n = ap (λ i. position_of i count v.ack) same ∙ ap (position_of isn count) is ∙ near in
    let carries : carries_ack v ≡ true = rw (moves.told, moves.plain) refl in
    let before : nat_le (position_of first.0 count v.ack) next ≡ true = le-leb (position_of first.0 count v.ack) next (omega (arith, there, moves.inside, inside)) in
    ap (λ (b : Bool). if b && nat_le (position_of first.0 count v.ack) next then position_of first.0 count v.ack else 0) carries
    ∙ ap (λ (b : Bool). if b then position_of first.0 count v.ack else 0) before ∙ there
