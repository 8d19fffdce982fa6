-- RUNS of a world that asks, happening by happening, and its headline.
use Rattle.tcp_replay.proofs.Words.{◌&&◌, ◌++◌, ◌<◌, ◌==◌, [], ack, AllByRecursion, and_parts, ap, arith, both, cond_both, Config, Content, decode_answer}
use Rattle.tcp_replay.proofs.Words.{effect_of, encoded_bytes, eqb-true, EventContent, false, flags_in, has, has_peer, HasBytes, IsConfig, IsSound, IsSoundPair, KeepBothHints, length, List, ltb-true, max_life, nat_lt, None, number, Ok, Option, option_map}
use Rattle.tcp_replay.proofs.Words.{other, party_of, PartyState, rcv_position_of, refl, refusal_of, rst, SentSegment, side_of, slice_get, Some, State, subst, sym, true, world_from, world_with_effect, world_with_runs, WorldState}
use Rattle.tcp_replay.proofs.Words.{ℕ, ◌∙◌, ◌∷◌, ◌≡◌, ◌≤◌, ⊎_elim, after_judgement, judgement, IsWire, IsWire_encoded, decoded_encoded}
use Rattle.tcp_replay.specs.declared.event.Side.{Side}
use Rattle.tcp_replay.specs.declared.event.Side.TheVariants.{A, B}
use Rattle.tcp_conn.specs.declared.phase.Phase.{Phase}
use Rattle.tcp_conn.specs.Endpoint.{FitsFields}
use Rattle.tcp_replay.proofs.Words.{AreBytes, bit_xor, decoded_damaged, differs_set, DiffersInOnePlace, eqb-false, Err, not, not-true, slice_index, xor_assoc, xor_of_8, xor_self, xor_zero_l, ◌≢◌, BadChecksum}
use Rattle.tcp_replay.specs.World.{bytes_with_damage, is_expired}
use Rattle.tcp_conn.specs.Guard.{after_intake_of, guarded}
unfoldable use Rattle.tcp_conn.specs.Guard.{after_intake}
use Rattle.tcp_replay.proofs.Lists.{one_if-most}
use Rattle.tcp_replay.proofs.hints.Hints.{hints-kept}
use Rattle.tcp_replay.proofs.pair.Calls.{with_end}
use Rattle.tcp_replay.proofs.pair.Emissions.{rcv_position-is}
use Rattle.tcp_replay.proofs.pair.Events.{some-is, speaks-nothing, young-both}
use Rattle.tcp_replay.proofs.pair.Steps.{Moved, pair-swapped, slice_get-more}
use Rattle.tcp_replay.proofs.run.Worlds.{damage-sound, hints-sound, kept-after, safe-sound, sound-after, sound-kept, sound-new}
use Rattle.tcp_keep_alive.specs.Asking.{is_asking_phase, keep_alive_bytes, keep_alive_due, keep_alive_of, knows_peer, has_sent_all, may_ask}
use Rattle.tcp_keep_alive.proofs.Answered.{keep_alive-only, keep_alive-valid}
use Rattle.tcp_kept_alive.proofs.Asks.{Asks, asks-event, asks-moved, asks-swapped, IsAsk}
use Rattle.tcp_kept_alive.proofs.Bare.{ComesBare, kept-bare, keeps-bare}
use Rattle.tcp_kept_alive.specs.Asked.{after_asking, after_happening, after_happenings, AskingWorld, asked_by, asking_world, asks_in, asks_of, EveryRunThatAsksIsSafe, Happening, Happens, is_change, IsOfBytes, Reaches, ReachesDamaged, with_damage, by_guard, world_damaged_by, world_reached_by, world_with_arrival}
unfoldable use Rattle.tcp_kept_alive.specs.Asked.{party_after_ask}
use Rattle.tcp_kept_alive.specs.Asked.{Asks as AsksOf}

-- ---- AN END ASKS: what it sends is a keep-alive
due-is : (s : State) (bytes : List ℕ) → keep_alive_due s ≡ Some bytes → (may_ask s ≡ true) × (keep_alive_bytes s ≡ bytes)
due-is s bytes =
    cond_both (may_ask s) (Some (keep_alive_bytes s)) None (λ (o : Option (List ℕ)). o ≡ Some bytes → (may_ask s ≡ true) × (keep_alive_bytes s ≡ bytes))
    (λ e is. (e, cc)) (λ _ never. absurd (cc))

asking-knows : (phase : Phase) → is_asking_phase phase ≡ true → has_peer phase ≡ true
asking-knows phase e = grind (arith, e)

fits-fields : (p q : PartyState) → IsSoundPair p q → has_peer p.endpoint.phase ≡ true → FitsFields p.endpoint
fits-fields p q h knows =
    let config = h.there.alone.config in
    record {
      port = config.port;
      peer_port = h.there.alone.port knows;
      next = h.there.alone.next;
      mss = config.good.1.1;
      shift = config.good.2;
    }

-- what an end sends where it may ask
asked-is : (p q : PartyState) (bytes : List ℕ) → IsSoundPair p q → may_ask p.endpoint ≡ true → keep_alive_bytes p.endpoint ≡ bytes
    → IsAsk p q (asked_by p.endpoint bytes)
asked-is p q bytes pair may is =
    let s = p.endpoint in
    let first = and_parts (is_asking_phase s.phase) (knows_peer s && has_sent_all s.sending) may in
    let rest = and_parts (knows_peer s) (has_sent_all s.sending) first.1 in
    let syns = and_parts (nat_lt 0 s.sending.snd_nxt) s.receiving.opened rest.0 in
    let sent = and_parts (s.sending.snd_una == s.sending.snd_nxt) (length s.sending.queue.bytes == 0) rest.1 in
    let knows : has_peer s.phase ≡ true = asking-knows s.phase first.0 in
    let some : 0 < s.sending.snd_nxt = ltb-true 0 s.sending.snd_nxt syns.0 in
    let all : s.sending.snd_una ≡ s.sending.snd_nxt = eqb-true s.sending.snd_una s.sending.snd_nxt sent.0 in
    let addr : s.peer.addr.0 ≡ q.endpoint.config.addr.0 = pair.there.speaks.peer knows in
    record {
      content = keep_alive_of s;
      only = keep_alive-only s;
      bare = refl;
      valid = keep_alive-valid s (fits-fields p q pair knows);
      spelled = sym is ∙ ap (λ (dst : List ℕ). encoded_bytes s.config.addr.0 dst (keep_alive_of s)) addr;
      seq = refl;
      had = omega (arith, some, all, pair.there.between);
      acks = record {
        opened = syns.1;
        position = rcv_position_of p;
        least = omega arith;
        most = omega arith;
        number = pair.there.takes.next syns.1;
      };
      wanted = sym (rcv_position-is p q pair);
    }

mapped : (s : State) (o : Option (List ℕ)) (g : SentSegment) → option_map (asked_by s) o ≡ Some g → (bytes : List ℕ) × (o ≡ Some bytes) × (asked_by s bytes ≡ g)
mapped s None g e = absurd (cc)
mapped s (Some bytes) g e = (bytes, refl, some-is e)

asks-more : (p q : PartyState) (mine yours : List SentSegment) → IsSoundPair p q → Asks p q mine yours
    → Asks p q (mine ++ asks_of p.endpoint) yours
asks-more p q mine yours pair h =
    let new = option_map (asked_by p.endpoint) (keep_alive_due p.endpoint) in
    record {
      there = λ k g is. ⊎_elim (λ (old : slice_get mine k ≡ Some g). h.there k g old)
          (λ (last : new ≡ Some g).
          let m = mapped p.endpoint (keep_alive_due p.endpoint) g last in
          let due = due-is p.endpoint m.0 m.1 in
          subst (IsAsk p q) m.2 (asked-is p q m.0 pair due.0 due.1))
          (slice_get-more mine new k g is);
      back = h.back;
    }

-- ---- IT REACHES the other end
pub read-as : (p q : PartyState) (g : SentSegment) → (ask : IsAsk p q g)
    → decode_answer p.endpoint.config.addr.0 q.endpoint.config.addr.0 g.bytes ≡ Ok ask.content
read-as p q g ask =
    ap (decode_answer p.endpoint.config.addr.0 q.endpoint.config.addr.0) ask.spelled
    ∙ decoded_encoded p.endpoint.config.addr.0 q.endpoint.config.addr.0 ask.content ask.valid

pub flags-of : (p q : PartyState) (g : SentSegment) → (ask : IsAsk p q g) → ask.content.flags ≡ flags_in g.bytes
flags-of p q g ask =
    let src = p.endpoint.config.addr.0 in
    let dst = q.endpoint.config.addr.0 in
    let wire : IsWire src dst ask.content g.bytes = subst (λ (sent : List ℕ). IsWire src dst ask.content sent) (sym ask.spelled)
    (IsWire_encoded src dst ask.content ask.valid) in
    wire.header.flags

pub bytes-of : (p q : PartyState) (g : SentSegment) → IsAsk p q g → AreBytes g.bytes
bytes-of p q g ask =
    let src = p.endpoint.config.addr.0 in
    let dst = q.endpoint.config.addr.0 in
    let wire : IsWire src dst ask.content g.bytes = subst (λ (sent : List ℕ). IsWire src dst ask.content sent) (sym ask.spelled)
    (IsWire_encoded src dst ask.content ask.valid) in
    wire.are_bytes

-- with an acknowledgement that isn't too old
pub comes-bare : (life : ℕ) (p q : PartyState) (g : SentSegment) → life ≤ max_life → IsSoundPair p q → (ask : IsAsk p q g) → is_expired life q.endpoint g ≡ false
    → ComesBare q p ask.content g.wanted
comes-bare life p q g most pair ask fresh =
    let flags = flags-of p q g ask in
    let young = young-both life q.endpoint g fresh (ap (has rst) (sym flags) ∙ ask.only.no_rst) in
    let acks_young = young.acks_young (ap (has ack) (sym flags) ∙ ask.only.acks) in
    record {
      only = ask.only;
      bare = ask.bare;
      valid = ask.valid;
      is = record {
        number = ask.acks.number ∙ ap (number q.endpoint.config.isn.0) ask.wanted;
        behind = omega (arith, most, acks_young);
      };
      had = omega (arith, ask.acks.most, ask.wanted);
      near = omega (arith, one_if-most p.endpoint.receiving.finished, pair.there.takes.order);
    }

-- both ends, and what they sent and asked
pub record AreSound (p q : PartyState) (mine yours : List SentSegment) : Type 0 where
  pub pair : IsSoundPair p q
  pub hints : KeepBothHints p q
  pub asks : Asks p q mine yours

pub swapped : (p q : PartyState) (mine yours : List SentSegment) → AreSound p q mine yours → AreSound q p yours mine
swapped p q mine yours h = record {
  pair = pair-swapped p q h.pair;
  hints = hints-kept.swapped p q h.hints;
  asks = asks-swapped p q mine yours h.asks;
}

-- read, it arrives past the guard
pub ask-ok : (guard : Option ℕ) (s : State) (src dst bytes : List ℕ) (v : Content) → decode_answer src dst bytes ≡ Ok v
    → after_intake (by_guard guard) s src dst bytes ≡ after_judgement (guarded guard (judgement s src dst v) s v) s src v
unfolding after_intake
ask-ok guard s src dst bytes v e = ap (after_intake_of (by_guard guard) s src dst) e

arrived : (life : ℕ) (p q : PartyState) (mine yours : List SentSegment) (guard : Option ℕ) (g : SentSegment) → life ≤ max_life → AreSound p q mine yours → IsAsk p q g
    → is_expired life q.endpoint g ≡ false → AreSound q p yours mine → AreSound (party_after_ask guard q p g.bytes) p yours mine
unfolding party_after_ask
arrived life p q mine yours guard g most h ask fresh back =
    let src = p.endpoint.config.addr.0 in
    let dst = q.endpoint.config.addr.0 in
    let v = ask.content in
    let c = comes-bare life p q g most h.pair ask fresh in
    let s = after_judgement (guarded guard (judgement q.endpoint src dst v) q.endpoint v) q.endpoint src v in
    let moved : Moved q (with_end q s) p = kept-bare q p v g.wanted guard dst back.pair c in
    let out = speaks-nothing q (with_end q s) p refl in
    let sound : AreSound (with_end q s) p yours mine = record {
      pair = sound-kept.moved q (with_end q s) p back.pair moved out tt back.pair;
      hints = hints-kept.moved q (with_end q s) p back.pair moved out (keeps-bare q p v g.wanted guard dst back.pair c back.hints) back.hints;
      asks = asks-moved q (with_end q s) p yours mine moved back.asks;
    } in
    subst (λ (s : State). AreSound (with_end q s) p yours mine) (sym (ask-ok guard q.endpoint src dst g.bytes v (read-as p q g ask))) sound

-- ---- A WORLD stays sound
pub record IsSoundAsking (w : WorldState) (of_a of_b : List SentSegment) : Type 0 where
  pub sound : IsSound w
  pub asks : Asks w.a w.b of_a of_b

asks-from : (w : WorldState) (of_a of_b : List SentSegment) (side : Side) (event : EventContent) → HasBytes event
    → (effect_of w.life (party_of w side) (party_of w (other side)) event).refusal ≡ None → IsSoundAsking w of_a of_b
    → Asks (world_from w.life side (effect_of w.life (party_of w side) (party_of w (other side)) event).here
    (effect_of w.life (party_of w side) (party_of w (other side)) event).there).a
    (world_from w.life side (effect_of w.life (party_of w side) (party_of w (other side)) event).here
    (effect_of w.life (party_of w side) (party_of w (other side)) event).there).b of_a of_b
asks-from w of_a of_b A event fits e h = asks-event w.a w.b of_a of_b h.sound.ends h.asks w.life event fits e h.sound.life
asks-from w of_a of_b B event fits e h =
    asks-swapped _ _ of_b of_a
    (asks-event w.b w.a of_b of_a (pair-swapped w.a w.b h.sound.ends) (asks-swapped w.a w.b of_a of_b h.asks) w.life event fits e h.sound.life)

after-event : (of_a of_b : List SentSegment) (w : WorldState) (event : EventContent) → HasBytes event → refusal_of w event ≡ None → IsSoundAsking w of_a of_b
    → IsSoundAsking (world_with_effect w event) of_a of_b
after-event of_a of_b w event fits e h =
    record { sound = sound-after w event fits e h.sound; asks = asks-from w of_a of_b (side_of event) event fits e h }

-- over the arrival of a keep-alive
of-parties : (life : ℕ) (p q : PartyState) (mine yours : List SentSegment) → life ≤ max_life → AreSound p q mine yours → IsSoundAsking (both life p q) mine yours
of-parties life p q mine yours most h = record { sound = record { ends = h.pair; hints = h.hints; life = most }; asks = h.asks }

after-arrival : (w : WorldState) (of_a of_b : List SentSegment) (side : Side) (guard : Option ℕ) (g : SentSegment) → IsSoundAsking w of_a of_b
    → IsAsk (party_of w side) (party_of w (other side)) g → is_expired w.life (party_of w (other side)).endpoint g ≡ false
    → IsSoundAsking (world_with_arrival w side guard g) of_a of_b
after-arrival w of_a of_b A guard g h ask fresh =
    let here : AreSound w.a w.b of_a of_b = record { pair = h.sound.ends; hints = h.sound.hints; asks = h.asks } in
    let b = arrived w.life w.a w.b of_a of_b guard g h.sound.life here ask fresh (swapped w.a w.b of_a of_b here) in
    of-parties w.life w.a (party_after_ask guard w.b w.a g.bytes) of_a of_b h.sound.life (swapped _ _ of_b of_a b)
after-arrival w of_a of_b B guard g h ask fresh =
    let here : AreSound w.a w.b of_a of_b = record { pair = h.sound.ends; hints = h.sound.hints; asks = h.asks } in
    let a = arrived w.life w.b w.a of_b of_a guard g h.sound.life (swapped w.a w.b of_a of_b here) ask fresh here in
    of-parties w.life (party_after_ask guard w.a w.b g.bytes) w.b of_a of_b h.sound.life a

after-reaching : (w : WorldState) (of_a of_b : List SentSegment) (side : Side) (guard : Option ℕ) (found : Option SentSegment) → IsSoundAsking w of_a of_b
    → ((g : SentSegment) → found ≡ Some g → IsAsk (party_of w side) (party_of w (other side)) g)
    → IsSoundAsking (world_reached_by w side guard found) of_a of_b
after-reaching w of_a of_b side guard None h asks = h
after-reaching w of_a of_b side guard (Some g) h asks =
    cond_both (is_expired w.life (party_of w (other side)).endpoint g) w (world_with_arrival w side guard g) (λ (x : WorldState). IsSoundAsking x of_a of_b)
    (λ _. h) (λ fresh. after-arrival w of_a of_b side guard g h (asks g refl) fresh)

-- ---- DAMAGE is found, and changes nothing
xor-changes : (x value : ℕ) → value ≢ 0 → bit_xor x value ≢ x
xor-changes x value some e =
    some (sym (xor_zero_l value) ∙ ap (λ z. bit_xor z value) (sym (xor_self x)) ∙ xor_assoc x x value ∙ ap (bit_xor x) e ∙ xor_self x)

damage-read : (p q : PartyState) (g : SentSegment) (place value : ℕ) → IsAsk p q g → value < 256 → is_change g place value ≡ true
    → decode_answer p.endpoint.config.addr.0 q.endpoint.config.addr.0 (bytes_with_damage g.bytes place value) ≡ Err BadChecksum
damage-read p q g place value ask fits e =
    let src = p.endpoint.config.addr.0 in
    let dst = q.endpoint.config.addr.0 in
    let bytes = g.bytes in
    let parts = and_parts (not (value == 0)) (nat_lt place (length bytes)) e in
    let wire : IsWire src dst ask.content bytes = subst (λ (sent : List ℕ). IsWire src dst ask.content sent) (sym ask.spelled)
    (IsWire_encoded src dst ask.content ask.valid) in
    let differs : DiffersInOnePlace bytes (bytes_with_damage bytes place value) =
    differs_set bytes place (bit_xor (slice_index bytes place) value) wire.are_bytes (ltb-true place (length bytes) parts.1)
    (xor_of_8 (slice_index bytes place) value (wire.are_bytes place) fits)
    (λ same. xor-changes (slice_index bytes place) value (eqb-false value 0 (not-true (value == 0) parts.0)) (sym same)) in
    decoded_damaged src dst ask.content bytes (bytes_with_damage bytes place value) wire differs

damage-same : (p q : PartyState) (guard : Option ℕ) (g : SentSegment) (place value : ℕ) → IsAsk p q g → value < 256 → is_change g place value ≡ true
    → party_after_ask guard q p (bytes_with_damage g.bytes place value) ≡ q
unfolding party_after_ask after_intake
damage-same p q guard g place value ask fits e =
    let src = p.endpoint.config.addr.0 in
    let dst = q.endpoint.config.addr.0 in
    ap (λ (s : State). with_end q s) (ap (after_intake_of (by_guard guard) q.endpoint src dst) (damage-read p q g place value ask fits e))

damage-nothing : (w : WorldState) (side : Side) (guard : Option ℕ) (g : SentSegment) (place value : ℕ) → IsAsk (party_of w side) (party_of w (other side)) g → value < 256
    → is_change g place value ≡ true → world_with_arrival w side guard (with_damage g place value) ≡ w
damage-nothing w A guard g place value ask fits e = ap (both w.life w.a) (damage-same w.a w.b guard g place value ask fits e)
damage-nothing w B guard g place value ask fits e = ap (λ (a : PartyState). both w.life a w.b) (damage-same w.b w.a guard g place value ask fits e)

pub damaged-same : (w : WorldState) (side : Side) (guard : Option ℕ) (place value : ℕ) (found : Option SentSegment) → value < 256
    → ((g : SentSegment) → found ≡ Some g → IsAsk (party_of w side) (party_of w (other side)) g)
    → world_damaged_by w side guard place value found ≡ w
damaged-same w side guard place value None fits asks = refl
damaged-same w side guard place value (Some g) fits asks =
    cond_both (is_change g place value) (world_with_arrival w side guard (with_damage g place value)) w (λ (x : WorldState). x ≡ w)
    (λ e. damage-nothing w side guard g place value (asks g refl) fits e) (λ _. refl)

abbrev pub IsSoundAsker : AskingWorld → Type 0
IsSoundAsker w = IsSoundAsking w.world w.of_a w.of_b

pub is-ask : (w : AskingWorld) (side : Side) (k : ℕ) (g : SentSegment) → IsSoundAsker w → slice_get (asks_in w side) k ≡ Some g
    → IsAsk (party_of w.world side) (party_of w.world (other side)) g
is-ask w A k g h e = h.asks.there k g e
is-ask w B k g h e = h.asks.back k g e

after-asking : (w : AskingWorld) (side : Side) → IsSoundAsker w → IsSoundAsker (after_asking w side)
after-asking w A h = record { sound = h.sound; asks = asks-more w.world.a w.world.b w.of_a w.of_b h.sound.ends h.asks }
after-asking w B h =
    let more = asks-more w.world.b w.world.a w.of_b w.of_a (pair-swapped _ _ h.sound.ends) (asks-swapped _ _ w.of_a w.of_b h.asks) in
    record { sound = h.sound; asks = asks-swapped w.world.b w.world.a _ w.of_a more }

-- ---- ANY LIST of what happens
sound-happening : (w : AskingWorld) (happening : Happening) → IsOfBytes happening → IsSoundAsker w → IsSoundAsker (after_happening w happening)
sound-happening w (Happens event) fits h =
    kept-after (λ (x : WorldState). IsSoundAsking x w.of_a w.of_b) (after-event w.of_a w.of_b) w.world event fits h
sound-happening w (AsksOf side) fits h = after-asking w side h
sound-happening w (Reaches side guard k) fits h =
    after-reaching w.world w.of_a w.of_b side guard (slice_get (asks_in w side) k) h (λ g e. is-ask w side k g h e)
sound-happening w (ReachesDamaged side guard k place value) fits h =
    subst (λ (x : WorldState). IsSoundAsking x w.of_a w.of_b)
    (sym (damaged-same w.world side guard place value (slice_get (asks_in w side) k) fits (λ g e. is-ask w side k g h e))) h

pub sound-happenings : (w : AskingWorld) (list : List Happening) → AllByRecursion IsOfBytes list → IsSoundAsker w → IsSoundAsker (after_happenings w list)
unfolding after_happenings
sound-happenings w [] fits h = h
sound-happenings w (happening ∷ list) fits h = sound-happenings (after_happening w happening) list fits.1 (sound-happening w happening fits.0 h)

pub sound-start : (life : ℕ) (a b : Config) (runs_a runs_b : ℕ) → life ≤ max_life → IsConfig a → IsConfig b
    → IsSoundAsker (asking_world (world_with_runs life a b runs_a runs_b))
sound-start life a b runs_a runs_b most one two = record {
  sound = sound-new life a b runs_a runs_b most one two;
  asks = record { there = λ k g never. absurd (cc); back = λ k g never. absurd (cc) };
}

pub every_run_that_asks_lem : EveryRunThatAsksIsSafe
every_run_that_asks_lem life a b runs_a runs_b list most one two fits =
    let w = after_happenings (asking_world (world_with_runs life a b runs_a runs_b)) list in
    let end : IsSoundAsker w = sound-happenings (asking_world (world_with_runs life a b runs_a runs_b)) list fits (sound-start life a b runs_a runs_b most one two) in (
      safe-sound _ end.sound,
      hints-sound _ end.sound,
      damage-sound _ end.sound,
      λ side guard k place value fits. damaged-same w.world side guard place value (slice_get (asks_in w side) k) fits (λ g e. is-ask w side k g end e),
    )
