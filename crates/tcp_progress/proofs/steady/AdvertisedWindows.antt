-- WINDOW SCALING is what both Configs say (RFC 7323, 2.2), whoever opened: each SYN offers its own shift, and an answer offers it where the peer's did.
use Rattle.tcp_replay.proofs.Words.{◌&&◌, ◌*◌, ◌++◌, ◌/◌, ◌^◌, Aborted, address_of, after_acked_text, after_discarding, after_own_syn, after_peer_accepts}
use Rattle.tcp_replay.proofs.Words.{after_peer_opens, after_text, after_window_and_blocks, ap, arith, Bool, Config, Content, div-mul-le_self, Due, false}
use Rattle.tcp_replay.proofs.Words.{false≢true, has, HasGoodShift, HoldsWithin, if◌then◌else◌, Inbox, is_sack_offered, is_some, IsSoundPair, Link, link_of}
use Rattle.tcp_replay.proofs.Words.{max_shift, max_window, min, min_mss, mul-le, party_with_runs, None, not, Option, own_shift, PartyState, permission_options}
use Rattle.tcp_replay.proofs.Words.{plain_segment, receive_refusal, refl, Reset, rst, scale_options, segment_of, SentSegment, shift_offered, shift_option}
use Rattle.tcp_replay.proofs.Words.{State, subst, sym, Syn, syn, syn_options, syn_segment, true, unwrap_or, whole_empty, window, window_field}
use Rattle.tcp_replay.proofs.Words.{with_bytes_received, ℕ, ◌∙◌, ◌≡◌, ◌≤◌}
use Rattle.tcp_replay.proofs.Lemmas.{after_segment, AllSaid, Arrives, Both, both-swapped, GoesOutAlone, kept-same, KeptByCalls, Moved, on-arrival, PairKept}
use Rattle.tcp_replay.proofs.Lemmas.{due-bits, said-after, said-back, Speaks, syn-bits}
use Rattle.tcp_replay.proofs.one_end.Room.{within-discarded, within-fin, within-read, within-text}
use Rattle.tcp_progress.proofs.{Words.AdvertisesWithin}
use Rattle.tcp_replay.proofs.Lemmas.{waiting-bit}

-- the shift of an end that may scale by `mine`, towards one that may by `yours`
abbrev pub agreed_shift : Option ℕ → Option ℕ → ℕ
agreed_shift mine yours = if is_some yours && is_some mine then unwrap_or mine 0 else 0

-- WHAT A LINK SAYS of scaling is what both Configs, of its own end and of the peer's, say
pub record AgreesOn (mine yours : Config) (link : Link) : Type 0 where
  pub scaling : link.scaling ≡ (is_some mine.window_shift && is_some yours.window_shift)
  pub shift : link.peer_shift ≡ agreed_shift yours.window_shift mine.window_shift

-- its own shift is the one that the peer's link has
own-agreed : (mine yours : Option ℕ) (scaling : Bool) → scaling ≡ (is_some mine && is_some yours)
    → (if scaling then unwrap_or mine 0 else 0) ≡ agreed_shift mine yours
own-agreed mine yours scaling e = grind (arith, e)

-- THE OPTION OF A SYN is what is offered
option-offered : (offered : Option ℕ) (sack : Bool) → shift_option (scale_options offered ++ permission_options sack) ≡ offered
option-offered offered sack = grind arith

-- what comes of an offer at the other end: scaling, and the shift
offer-scaling : (mine yours : Option ℕ) (opened scaling : Bool) → (opened ≡ true → scaling ≡ (is_some mine && is_some yours))
    → (is_some yours && is_some (if opened && not scaling then None else mine)) ≡ (is_some yours && is_some mine)
offer-scaling mine yours opened scaling h = grind (arith, h)

offer-shift : (mine yours : Option ℕ) (opened scaling : Bool) → unwrap_or mine 0 ≤ max_shift → (opened ≡ true → scaling ≡ (is_some mine && is_some yours))
    → (if is_some yours then min max_shift (unwrap_or (if opened && not scaling then None else mine) 0) else 0) ≡ agreed_shift mine yours
offer-shift mine yours opened scaling fits h = grind (arith, fits, h)

-- A SYN that such an end emits makes such a link at the other
pub syn-agrees : (s : State) (mine yours : Config) → s.config ≡ mine → HasGoodShift mine → (s.receiving.opened ≡ true → AgreesOn mine yours s.link)
    → AgreesOn yours mine (link_of yours (syn_options s))
unfolding link_of
syn-agrees s mine yours config fits h =
    let offered : shift_option (syn_options s) ≡ (if s.receiving.opened && not s.link.scaling then None else mine.window_shift) =
    option-offered (shift_offered s) (is_sack_offered s) ∙ ap (λ (c : Config). if s.receiving.opened && not s.link.scaling then None else c.window_shift)
    config in
    let scales = λ (e : s.receiving.opened ≡ true). (h e).scaling in
    record {
      scaling = ap (λ (o : Option ℕ). is_some yours.window_shift && is_some o) offered ∙ offer-scaling mine.window_shift yours.window_shift s.receiving.opened
          s.link.scaling scales;
      shift = ap (λ (o : Option ℕ). if is_some yours.window_shift then min max_shift (unwrap_or o 0) else 0) offered
          ∙ offer-shift mine.window_shift yours.window_shift s.receiving.opened s.link.scaling fits scales;
    }

-- a scaled field is at most the window that it advertises
pub field-within : (shift window : ℕ) → window_field shift window * 2 ^ shift ≤ window
field-within shift window = omega (
  arith,
  mul-le (min max_window (window / 2 ^ shift)) (2 ^ shift) (window / 2 ^ shift) (2 ^ shift) (omega arith) (omega arith),
  div-mul-le_self window (2 ^ shift),
)

-- ---- ADVERTISED WINDOWS, on the definitions: every event keeps the window that each end advertises within its room.
pub window-within : (capacity : ℕ) (q : Inbox) → HoldsWithin capacity q → window q ≤ capacity
window-within capacity q h = omega (arith, h.size)

-- ---- THE END made from one Config has this buffer and link, its peer being made from the other
pub record KeepsRoom (mine yours : Config) (inbox : Inbox) (link : Link) (opened : Bool) : Type 0 where
  pub within : HoldsWithin mine.recv_capacity inbox
  -- the peer's maximum segment size is never less than the least
  pub mss : min_mss ≤ link.peer_mss
  -- once the peer's SYN was taken, scaling is what both Configs say
  pub agreed : opened ≡ true → AgreesOn mine yours link

-- party p's end may be in this state
abbrev pub InRoom : PartyState → PartyState → State → Type 0
InRoom p q s = KeepsRoom p.endpoint.config q.endpoint.config s.receiving.inbox s.link s.receiving.opened

-- THE CALLS, the timers and the emissions
pub room-calls : (p q : PartyState) → InRoom p q p.endpoint → KeptByCalls (address_of q) p (λ p'. InRoom p q p'.endpoint)
room-calls p q h =
    let r = p.endpoint.receiving in
    let capacity = p.endpoint.config.recv_capacity in
    let gone : InRoom p q (after_discarding p.endpoint Aborted) = record { within = within-discarded capacity r h.within; mss = h.mss; agreed = h.agreed } in
    let reads : (room : ℕ) → receive_refusal p.endpoint ≡ None → InRoom p q (with_bytes_received p.endpoint room) =
    λ room _. record { within = within-read capacity r room h.within; mss = h.mss; agreed = h.agreed } in
    assumption

-- a SYN makes the link
least-mss : (c : Config) (v : Content) → min_mss ≤ (link_of c v.options).peer_mss
unfolding link_of
least-mss c v = omega arith

-- ARRIVALS, where the options of a SYN are those that both Configs make
pub room-arrives : (p q : PartyState) (g : SentSegment) (v : Content) → IsSoundPair p q → Arrives p q g v
    → (has rst v.flags ≡ false → has syn v.flags ≡ true → AgreesOn p.endpoint.config q.endpoint.config (link_of p.endpoint.config v.options))
    → InRoom p q p.endpoint → InRoom p q (after_segment p q v)
unfolding after_own_syn after_acked_text after_window_and_blocks after_peer_opens after_peer_accepts after_text
room-arrives p q g v pair a offers h =
    let c = p.endpoint.config in
    let capacity = c.recv_capacity in
    on-arrival p q v g.position g.wanted (InRoom p q) (InRoom p q) a.comes (kept-same p q pair) (record {
      same = h;
      has_pending = λ _ _. h;
      gone = record { within = within-discarded capacity p.endpoint.receiving h.within; mss = h.mss; agreed = h.agreed };
      opens = λ _ is. record { within = h.within; mss = least-mss c v; agreed = λ _. offers is.plain is.is_syn };
      accepts = λ _ is. record { within = h.within; mss = least-mss c v; agreed = λ _. offers is.plain is.is_syn };
      own_syn = λ _ _. h;
      acked_text = λ _ _ _ _ b. b;
      window_and_blocks = λ _ _ _ _ b. b;
      last = λ _ _ _ _ b. b;
      passes = λ _ _ _ _ b. b;
      stays = λ _ _ _ b. b;
      text = λ x _ _ _ _ _ b. record { within = within-text capacity x.receiving v.seq v.text b.within; mss = b.mss; agreed = b.agreed };
      fin = λ x _ _ _ _ _ b. record { within = within-fin capacity x.receiving b.within; mss = b.mss; agreed = b.agreed };
      adds_pending = λ _ _ b. b;
    }) c.addr.0

-- WHAT A SEGMENT TELLS of the receive window of the end made from `mine`, the other being made from `yours` (RFC 7323, 2.2 and 2.3): a SYN the field as it
-- is, and a shift by which the other's link agrees; any other segment the field scaled by the shift that both Configs make
pub record IsAdvertised (mine yours : Config) (v : Content) : Type 0 where
  pub field : has syn v.flags ≡ true → v.window ≤ mine.recv_capacity
  pub offers : has syn v.flags ≡ true → AgreesOn yours mine (link_of yours v.options)
  pub scaled : has syn v.flags ≡ false → v.window * 2 ^ agreed_shift mine.window_shift yours.window_shift ≤ mine.recv_capacity

-- in each segment that x emitted, but resets, and x keeps its room
pub record KeepsAdvertised (x y : PartyState) : Type 0 where
  pub room : InRoom x y x.endpoint
  pub emitted : AllSaid x y (λ g v. has rst v.flags ≡ false → IsAdvertised x.endpoint.config y.endpoint.config v)

-- WHAT IS PROMISED OF IT
advertises-one : (y x : PartyState) → KeepsAdvertised y x → KeepsAdvertised x y → AdvertisesWithin y x
advertises-one y x told takes = record {
  plain = λ k g v is read plain no_syn opened.
      let at = told.emitted k g v is read plain in
      subst (λ (n : ℕ). v.window * 2 ^ n ≤ y.endpoint.config.recv_capacity) (sym (takes.room.agreed opened).shift) (at.scaled no_syn);
  syn = λ k g v is read plain is_syn. (told.emitted k g v is read plain).field is_syn;
}

pub advertises-within : (p q : PartyState) → Both KeepsAdvertised p q → AdvertisesWithin p q × AdvertisesWithin q p
advertises-within p q h = (advertises-one p q h.there h.back, advertises-one q p h.back h.there)

-- ---- EMIT: the window is advertised as it is in a SYN, and scaled by its own shift once the peer's SYN was taken
syn-advertised : (s : State) (mine yours : Config) → HasGoodShift mine → KeepsRoom mine yours s.receiving.inbox s.link s.receiving.opened → s.config ≡ mine
    → IsAdvertised mine yours (syn_segment s)
syn-advertised s mine yours fits h config = record {
  field = λ _. omega (arith, window-within mine.recv_capacity s.receiving.inbox h.within);
  offers = λ _. syn-agrees s mine yours config fits h.agreed;
  scaled = λ no_syn. absurd (false≢true (sym no_syn ∙ (syn-bits s.receiving.opened).0));
}

plain-advertised : (s : State) (mine yours : Config) (due : Due) → s.receiving.opened ≡ true → KeepsRoom mine yours s.receiving.inbox s.link s.receiving.opened
    → s.config ≡ mine → IsAdvertised mine yours (plain_segment s due)
plain-advertised s mine yours due opened h config =
    let bits = due-bits s.sending due in
    let shift : own_shift s.config s.link ≡ agreed_shift mine.window_shift yours.window_shift = ap (λ (c : Config). own_shift c s.link) config ∙
    own-agreed mine.window_shift yours.window_shift s.link.scaling (h.agreed opened).scaling in
    let n = own_shift s.config s.link in
    let scaled : window_field n (window s.receiving.inbox) * 2 ^ n ≤ window s.receiving.inbox = field-within n (window s.receiving.inbox) in
    let all : window_field n (window s.receiving.inbox) * 2 ^ n ≤ mine.recv_capacity = omega (arith, scaled) in
    record {
      field = λ is_syn. absurd (false≢true (sym bits.0 ∙ is_syn));
      offers = λ is_syn. absurd (false≢true (sym bits.0 ∙ is_syn));
      scaled = λ _. subst (λ (k : ℕ). window_field n (window s.receiving.inbox) * 2 ^ k ≤ mine.recv_capacity) shift all;
    }

due-advertised : (p q : PartyState) (due : Due) → IsSoundPair p q → GoesOutAlone p.endpoint p.accepted p.closed due → InRoom p q p.endpoint
    → has rst (segment_of p.endpoint due).flags ≡ false → IsAdvertised p.endpoint.config q.endpoint.config (segment_of p.endpoint due)
unfolding segment_of
due-advertised p q Reset pair out h plain = absurd (false≢true (sym plain ∙ waiting-bit p.endpoint p.endpoint.pending.reset out.kind))
due-advertised p q Syn pair out h plain = syn-advertised p.endpoint p.endpoint.config q.endpoint.config pair.there.alone.config.good.2 h refl
due-advertised p q other pair out h plain = plain-advertised p.endpoint _ _ other out.kind.opened h refl

-- p became p', and emitted what is due
advertised-moved : (p p' q : PartyState) → IsSoundPair p q → Moved p p' q → Speaks p p' q → InRoom p q p'.endpoint → Both KeepsAdvertised p q → Both KeepsAdvertised p' q
advertised-moved p p' q pair moved out room h =
    let r = p'.endpoint.receiving in
    let mine = q.endpoint.config in
    let s = q.endpoint in
    record {
      there = record {
        room = subst (λ (c : Config). KeepsRoom c mine r.inbox p'.endpoint.link r.opened) (sym moved.config) room;
        emitted = said-after p p' q (λ g v. has rst v.flags ≡ false → IsAdvertised p'.endpoint.config mine v) moved.config out
            (λ k g v is read plain. subst (λ (c : Config). IsAdvertised c mine v) (sym moved.config) (h.there.emitted k g v is read plain))
            (λ due goes alone _ plain. subst (λ (c : Config). IsAdvertised c mine (segment_of p.endpoint due)) (sym moved.config)
            (due-advertised p q due pair alone h.there.room plain));
      };
      back = record {
        room = subst (λ (c : Config). KeepsRoom mine c s.receiving.inbox s.link s.receiving.opened) (sym moved.config) h.back.room;
        emitted = said-back p p' q (λ g v. has rst v.flags ≡ false → IsAdvertised mine p'.endpoint.config v) moved.config
            (λ k g v is read plain. subst (λ (c : Config). IsAdvertised mine c v) (sym moved.config) (h.back.emitted k g v is read plain));
      };
    }

pub advertised-kept : PairKept (λ _ _. Unit {0}) (Both KeepsAdvertised) (λ p q s _. InRoom p q s)
advertised-kept = record {
  swapped = both-swapped KeepsAdvertised;
  calls = λ p q _ h. room-calls p q h.there.room;
  has_pending = λ p q ack reset pair h. h.there.room;
  arrives = λ p q g v _ pair a h. room-arrives p q g v pair a (λ plain is_syn. (h.back.emitted a.place g v a.sent a.read plain).offers is_syn) h.there.room;
  moved = advertised-moved;
}

-- ---- NEW ENDS
pub new-advertised : (a b : Config) (runs_a runs_b : ℕ) → KeepsAdvertised (party_with_runs a runs_a) (party_with_runs b runs_b)
new-advertised a b runs_a runs_b = record {
  room = record { within = record { size = refl; received = whole_empty a.recv_capacity }; mss = omega arith; agreed = λ never. absurd (cc) };
  emitted = λ k g v never. absurd (cc);
}
