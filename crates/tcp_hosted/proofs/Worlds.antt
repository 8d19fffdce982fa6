-- WHAT A HOST HANDS TO AN END is of the peer's address, so that what it answers goes there, and both ends stay sound.
use Rattle.tcp_replay.proofs.Words.{after_judgement, after_reading, Bool, Content, decode_answer, DecodeError, Err, false, IfSome, if◌then◌else◌}
use Rattle.tcp_replay.proofs.Words.{IsSound, IsSoundPair, Judgement, judgement, List, Ok, Option, other, party_of, PartyState, refl, Result, State}
use Rattle.tcp_replay.proofs.Words.{subst, sym, true, WaitingReset, WorldState, ℕ, ◌≡◌, ◌∷◌, [], ◌∙◌, ap, world_with_runs}
use Rattle.tcp_conn.specs.declared.arrive.judgement.Judgement.TheVariants.{Foreign, ResetIgnored, Stray, AckOfListen, OpensNothing, PeerOpens, AckOfNoSyn}
use Rattle.tcp_conn.specs.declared.arrive.judgement.Judgement.TheVariants.{PeerRefuses, PeerAccepts, Unacceptable, PeerResets, ResetElsewhere, SynInWindow, NoAck}
use Rattle.tcp_conn.specs.declared.arrive.judgement.Judgement.TheVariants.{AcksUnsent, HandshakeRefused, HandshakeRefusedShut, Taken, TakenShut}
unfoldable use Rattle.tcp_conn.specs.Arrival.{after_arrival}
use Rattle.tcp_host.specs.declared.pair.Pair.{Pair}
use Rattle.tcp_host.specs.Pair.{pair_of}
use Rattle.tcp_replay.specs.declared.event.Side.{Side}
use Rattle.tcp_replay.specs.declared.event.Side.TheVariants.{A, B}
use Rattle.tcp_wire.specs.Checksum.{AreBytes}
use Rattle.tcp_replay.specs.Among.{Happening, Happens, Injection, Injects, IsBlind, after_injection, is_injection_let_in, is_reading_let_in, lets_in, party_after_injection, world_with_injection}
unfoldable use Rattle.tcp_replay.specs.Among.{AreFair, after_happenings}
use Rattle.tcp_replay.specs.World.{world_after, world_from}
use Rattle.tcp_replay.proofs.one_end.Alone.{first_reset-keeps}
use Rattle.tcp_replay.proofs.pair.Steps.{pair-swapped}
use Rattle.tcp_replay.proofs.run.Injections.{sound-injected}
use Rattle.tcp_replay.proofs.run.Worlds.{damage-sound, hints-sound, kept-after, safe-sound, sound-after, sound-new}
use Rattle.tcp_hosted.specs.Coming.{is_pair}
use Rattle.tcp_hosted.specs.Worlds.{EveryRunAtHostsIsSafe, IsBlindAtHost, IsFairAtHosts, after_at_hosts, is_handed, pair_between}
unfoldable use Rattle.tcp_hosted.specs.Worlds.{AreFairAtHosts, after_all_at_hosts}
use Rattle.tcp_hosted.proofs.Coming.{pair-decides}

-- ---- IT COMES FROM THE PEER
from-option : (p q : PartyState) (src dst : List ℕ) (bytes : List ℕ) (o : Option Pair) → pair_of src dst bytes ≡ o → is_pair (pair_between p q) o ≡ true
    → src ≡ q.endpoint.config.addr.0
from-option p q src dst (a ∷ b ∷ c ∷ d ∷ rest) o e is = ap (λ (pair : Pair). pair.peer.addr) ((pair-decides (pair_between p q) _).0 (ap (is_pair (pair_between p q)) e ∙ is))
from-option p q src dst [] o e is = absurd (cc (e, is))
from-option p q src dst (a ∷ []) o e is = absurd (cc (e, is))
from-option p q src dst (a ∷ b ∷ []) o e is = absurd (cc (e, is))
from-option p q src dst (a ∷ b ∷ c ∷ []) o e is = absurd (cc (e, is))

pub from_peer : (p q : PartyState) (i : Injection) → is_handed p q i ≡ true → i.src ≡ q.endpoint.config.addr.0
from_peer p q i is = from-option p q i.src i.dst i.bytes (pair_of i.src i.dst i.bytes) refl is

-- ---- AND WHAT IS ANSWERED GOES THERE
abbrev pub GoesTo : List ℕ → WaitingReset → Type 0
GoesTo addr reset = reset.to.addr.0 ≡ addr

abbrev pub Waits : List ℕ → State → Type 0
Waits addr s = IfSome s.pending.reset (GoesTo addr)

module _ (s : State) (src : List ℕ) (v : Content) (h : Waits src s) where
  pub waits-judged : (j : Judgement) → lets_in j ≡ false → Waits src (after_judgement j s src v)
  waits-judged Foreign e = h
  waits-judged ResetIgnored e = h
  waits-judged Stray e = first_reset-keeps (GoesTo src) s.pending.reset _ h refl
  waits-judged AckOfListen e = first_reset-keeps (GoesTo src) s.pending.reset _ h refl
  waits-judged OpensNothing e = h
  waits-judged PeerOpens e = absurd (cc)
  waits-judged AckOfNoSyn e = first_reset-keeps (GoesTo src) s.pending.reset _ h refl
  waits-judged PeerRefuses e = absurd (cc)
  waits-judged PeerAccepts e = absurd (cc)
  waits-judged Unacceptable e = h
  waits-judged PeerResets e = absurd (cc)
  waits-judged ResetElsewhere e = h
  waits-judged SynInWindow e = h
  waits-judged NoAck e = h
  waits-judged AcksUnsent e = h
  waits-judged HandshakeRefused e = first_reset-keeps (GoesTo src) s.pending.reset _ h refl
  waits-judged HandshakeRefusedShut e = first_reset-keeps (GoesTo src) s.pending.reset _ h refl
  waits-judged Taken e = absurd (cc)
  waits-judged TakenShut e = absurd (cc)

module _ (p q : PartyState) (i : Injection) (h : Waits q.endpoint.config.addr.0 p.endpoint) where
  waits-reading : (r : Result Content DecodeError) → Waits i.src p.endpoint → is_reading_let_in p.endpoint i.src i.dst r ≡ false
      → Waits i.src (after_reading p.endpoint i.src i.dst r)
  waits-reading (Ok v) waits e = waits-judged p.endpoint i.src v waits (judgement p.endpoint i.src i.dst v) e
  waits-reading (Err fault) waits e = waits

  waits-after : i.src ≡ q.endpoint.config.addr.0 → is_injection_let_in p.endpoint i ≡ false → Waits q.endpoint.config.addr.0 (after_injection p.endpoint i)
  unfolding after_arrival
  waits-after from e =
      subst (λ (addr : List ℕ). Waits addr (after_injection p.endpoint i)) from
      (waits-reading (decode_answer i.src i.dst i.bytes) (subst (λ (addr : List ℕ). Waits addr p.endpoint) (sym from) h) e)

-- WHAT IS HANDED TO AN END is blind
pub blind : (p q : PartyState) (i : Injection) → IsSoundPair p q → is_handed p q i ≡ true → AreBytes i.bytes → is_injection_let_in p.endpoint i ≡ false
    → IsBlind p q i
blind p q i pair is are out =
    record { are_bytes = are; kept_out = out; to_peer = waits-after p q i pair.there.speaks.reset (from_peer p q i is) out }

-- ---- BOTH ENDS STAY SOUND
pub pair-at : (w : WorldState) (side : Side) → IsSound w → IsSoundPair (party_of w side) (party_of w (other side))
pair-at w A h = h.ends
pair-at w B h = pair-swapped _ _ h.ends

same-party : (w : WorldState) (side : Side) → world_from w.life side (party_of w side) (party_of w (other side)) ≡ w
same-party w A = refl
same-party w B = refl

sound-handed : (w : WorldState) (side : Side) (i : Injection) (handed : Bool) → is_handed (party_of w side) (party_of w (other side)) i ≡ handed
    → IsBlindAtHost (party_of w side) (party_of w (other side)) i → IsSound w
    → IsSound (world_from w.life side (if handed then party_after_injection (party_of w side) i else party_of w side) (party_of w (other side)))
sound-handed w side i true is fair h =
    let p = party_of w side in
    let q = party_of w (other side) in
    sound-injected w side i (blind p q i (pair-at w side h) is fair.are_bytes (fair.kept_out is)) h
sound-handed w side i false is fair h = subst IsSound (sym (same-party w side)) h

sound-at-hosts : (w : WorldState) (happening : Happening) → IsFairAtHosts w happening → IsSound w → IsSound (after_at_hosts w happening)
sound-at-hosts w (Happens event) fits h = kept-after IsSound sound-after w event fits h
sound-at-hosts w (Injects side i) fair h = sound-handed w side i (is_handed (party_of w side) (party_of w (other side)) i) refl fair h

sound-all : (w : WorldState) (list : List Happening) → AreFairAtHosts w list → IsSound w → IsSound (after_all_at_hosts w list)
unfolding after_all_at_hosts AreFairAtHosts
sound-all w [] fair h = h
sound-all w (happening ∷ list) fair h = sound-all (after_at_hosts w happening) list fair.1 (sound-at-hosts w happening fair.0 h)

pub every_run_lem : EveryRunAtHostsIsSafe
every_run_lem life a b runs_a runs_b list most one two fair =
    let end = sound-all (world_with_runs life a b runs_a runs_b) list fair (sound-new life a b runs_a runs_b most one two) in
    (safe-sound _ end, hints-sound _ end, damage-sound _ end)

-- ---- WHAT HAPPENS TO TWO NEW ENDS leaves them sound
pub sound-happened : (w : WorldState) (list : List Happening) → AreFair w list → IsSound w → IsSound (after_happenings w list)
unfolding after_happenings AreFair
sound-happened w [] fair h = h
sound-happened w (Happens event ∷ list) fair h = sound-happened (world_after w event) list fair.1 (kept-after IsSound sound-after w event fair.0 h)
sound-happened w (Injects side i ∷ list) fair h = sound-happened (world_with_injection w side i) list fair.1 (sound-injected w side i fair.0 h)
