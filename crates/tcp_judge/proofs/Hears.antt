-- WHAT A JUDGE HEARD, against one end by itself: each number from the last one that was told on is known to have come.
use Rattle.std.proofs.Common.{◌≡◌, ℕ, zero, suc, ◌+◌, ◌^◌, ◌<◌, ◌≤◌, List, [], ◌∷◌, ◌++◌, length, refl, sym, ◌∙◌, ap, subst, arith}
use Rattle.std.proofs.Common.{slice_get}
use Rattle.std.specs.Prelude.{Bool, true, false, Option, Some, None, if◌then◌else◌}
use Rattle.std.proofs.lemmas.Bool.{false≢true}
use Rattle.tcp_numbers.specs.declared.seq.Seq.{Seq}
use Rattle.tcp_wire.specs.Decoded.{decode_answer}
use Rattle.tcp_wire.specs.Position.{number, distance}
use Rattle.tcp_reasm.specs.Reassembly.{Cell, max_capacity}
use Rattle.tcp_halves.specs.declared.config.Config.{Config}
use Rattle.tcp_halves.specs.Config.{IsConfig}
use Rattle.tcp_halves.proofs.Placing.{whole_empty}
use Rattle.tcp_conn.specs.Phase.{discards}
use Rattle.tcp_conn.specs.State.{State, Receiving}
use Rattle.tcp_replay.specs.Alone.{IsAlone}
use Rattle.tcp_replay.specs.Solo.{SoloState, solo_with_runs, end_after, bytes_put_out}
use Rattle.tcp_replay.specs.SoloEvents.{SoloContent, HasRanges, Arrive}
use Rattle.tcp_replay.proofs.Lists.{by_test, one_if}
use Rattle.tcp_replay.proofs.one_end.AloneCalls.{IsAloneIn}
use Rattle.tcp_replay.proofs.one_end.AloneFeeds.{Feeds}
use Rattle.tcp_replay.proofs.one_end.Feeds.{AllText, AllHeld, ByNumber, IsFed, fed-new}
use Rattle.tcp_replay.proofs.one_end.SoloRuns.{party_in, next_irs, seq_read, BringsSyn}
use Rattle.tcp_judge.specs.Heard.{Heard, nothing_heard, has_come}
use Rattle.tcp_judge.proofs.Blocks.{KeptCame}
use Rattle.tcp_judge.proofs.Hearing.{feeds-by}
use Rattle.tcp_judge.proofs.Links.{Offered}
use Rattle.tcp_judge.proofs.Numbers.{HasSyn}
use Rattle.tcp_judge.proofs.Rooms.{HasRoom}

-- WHAT WAS TOLD is the number of a position up to the next one that is wanted; before anything is, the first position
pub record IsAckedPosition (r : Receiving) (irs k position a : ℕ) : Type 0 where
  pub opened : r.opened ≡ true
  pub least : 1 ≤ position
  pub most : position ≤ 1 + k + one_if r.finished
  pub number_is : a ≡ number irs position

abbrev pub IsSince : Option Seq → Receiving → ℕ → ℕ → ℕ → Type 0
IsSince None r irs k since = since ≡ 1
IsSince (Some a) r irs k since = IsAckedPosition r irs k since a.0

pub since-least : (acked_number : Option Seq) (r : Receiving) (irs k since : ℕ) → IsSince acked_number r irs k since → 1 ≤ since
since-least None r irs k since h = omega (arith, h)
since-least (Some a) r irs k since h = h.least

pub since-most : (acked_number : Option Seq) (r : Receiving) (irs k since : ℕ) → IsSince acked_number r irs k since → since ≤ 1 + k + one_if r.finished
since-most None r irs k since h = omega (arith, h)
since-most (Some a) r irs k since h = h.most

pub since-opened : (acked_number : Option Seq) (r : Receiving) (irs k since : ℕ) → IsSince acked_number r irs k since → 1 < since → r.opened ≡ true
since-opened None r irs k since h more = absurd (omega (arith, h))
since-opened (Some a) r irs k since h more = h.opened

pub one_if-more : (a b : Bool) → (a ≡ true → b ≡ true) → one_if a ≤ one_if b
one_if-more true b h = let same : one_if b ≡ 1 = ap one_if (h refl) in omega (arith, same)
one_if-more false b h = omega arith

pub since-kept : (acked_number : Option Seq) (r r' : Receiving) (irs irs' k k' since : ℕ) → (r.opened ≡ true → (r'.opened ≡ true) × (irs' ≡ irs)) → k ≤ k'
    → one_if r.finished ≤ one_if r'.finished → IsSince acked_number r irs k since → IsSince acked_number r' irs' k' since
since-kept None r r' irs irs' k k' since stays grows more h = h
since-kept (Some a) r r' irs irs' k k' since stays grows more h =
    let open_ = stays h.opened in
    record {
      opened = open_.0;
      least = h.least;
      most = omega (arith, h.most, grows, more);
      number_is = h.number_is ∙ ap (λ i. number i since) (sym open_.1);
    }

-- WHAT CAME FROM A POSITION ON, in order and out of order
pub record Comes (spans : List (Seq × ℕ)) (r : Receiving) (irs k since : ℕ) : Type 0 where
  pub text : (p : ℕ) → since ≤ p → p < 1 + k → has_come spans (number irs p) ≡ true
  pub held : KeptCame spans r.rcv_nxt r.inbox.held

abbrev pub Anything : ℕ → ℕ → Type 0
Anything n byte = Unit {0}

pub record Hears (h : Heard) (x : SoloState) (irs k : ℕ) : Type 0 where
  pub since : ℕ
  pub acked_number : IsSince h.acked_number x.endpoint.receiving irs k since
  pub fed : IsFed Anything x.endpoint.receiving irs k x.delivered (discards x.endpoint.ending)
  pub comes : discards x.endpoint.ending ≡ false → Comes h.spans x.endpoint.receiving irs k since
  pub syn : h.acked_number ≡ None → x.endpoint.receiving.opened ≡ true → HasSyn h.syns irs
  pub fin : x.endpoint.receiving.finished ≡ true → since ≤ 1 + k → has_come h.spans (number irs (1 + k)) ≡ true
  pub capacity : ℕ
  pub small : capacity ≤ max_capacity
  pub room : HasRoom capacity x.endpoint.receiving
  pub offered : Offered h.scaling h.sack x.endpoint.link

pub hears-new : (c : Config) (runs : ℕ) → IsConfig c → Hears nothing_heard (solo_with_runs c runs) 0 0
hears-new c runs is =
    let came = fed-new (λ n byte. has_come [] n ≡ true) c.recv_capacity runs 0 in
    record {
      since = 1;
      acked_number = refl;
      fed = fed-new Anything c.recv_capacity runs 0;
      comes = λ _. record { text = λ p from below. absurd (omega arith); held = came.held };
      syn = λ _ never. absurd (cc);
      fin = λ never. absurd (cc);
      capacity = c.recv_capacity;
      small = is.good.0.1.1;
      room = record { size = refl; received = whole_empty c.recv_capacity };
      offered = record { scaling_is = λ e. e; sack_is = λ e. e };
    }

-- THE STRUCTURE of what is received, whatever the bytes
anything-comes : (seq place : ℕ) (text : List ℕ) → AllText (ByNumber Anything seq) place text
anything-comes seq place [] = tt
anything-comes seq place (byte ∷ text) = (tt, anything-comes seq (suc place) text)

pub takes : (x : SoloState) (e : SoloContent) (irs k : ℕ) → HasRanges e → IsAloneIn (party_in x)
    → IsFed Anything x.endpoint.receiving irs k x.delivered (discards x.endpoint.ending)
    → Feeds Anything (BringsSyn e) x.endpoint (end_after x.endpoint e) (next_irs x.endpoint irs e) k (x.delivered ++ bytes_put_out x.endpoint e)
takes x e irs k fits alone fed = feeds-by (λ _. Anything) (λ src dst bytes v _ _ _. anything-comes v.seq 0 v.text) x e irs k fits alone fed

-- an end that gave up doesn't go on: else its count would be two numbers
further : (r : Receiving) (irs k : ℕ) (delivered : List ℕ) → r.opened ≡ true → IsFed Anything r irs k delivered true
    → IsFed Anything r irs (k + 4294967296) delivered true
further r irs k delivered opened fed = record {
  next = λ _. fed.next opened ∙ omega arith;
  unopened = λ shut. absurd (false≢true (sym shut ∙ opened));
  bare = fed.bare;
  held = fed.held;
  text = fed.text;
  whole = λ never. absurd (false≢true (sym never));
}

pub stays-going : (x : SoloState) (e : SoloContent) (irs k : ℕ) → HasRanges e → IsAloneIn (party_in x)
    → IsFed Anything x.endpoint.receiving irs k x.delivered (discards x.endpoint.ending) → x.endpoint.receiving.opened ≡ true
    → discards (end_after x.endpoint e).ending ≡ false → discards x.endpoint.ending ≡ false
stays-going x e irs k fits alone fed opened going =
    let r = x.endpoint.receiving in
    by_test (discards x.endpoint.ending) (λ b. b ≡ false)
    (λ gone.
    let same : IsFed Anything r irs k x.delivered true = subst (IsFed Anything r irs k x.delivered) gone fed in
    let other : IsFed Anything r irs (k + 4294967296) x.delivered (discards x.endpoint.ending) =
    subst (IsFed Anything r irs (k + 4294967296) x.delivered) (sym gone) (further r irs k x.delivered opened same) in
    let one = (takes x e irs k fits alone fed).fed.whole going in
    let two = (takes x e irs (k + 4294967296) fits alone other).fed.whole going in
    absurd (omega (arith, one, two)))
    (λ _. refl)

-- COUNTED FROM THE FIRST BYTE that isn't handed over yet, numbers are exact: no two positions of the buffer have the same
abbrev pub FromOn : List (Seq × ℕ) → ℕ → ℕ → ℕ → ℕ → Type 0
FromOn spans first m n byte = m ≤ distance first n → has_come spans n ≡ true

pub irs-further : (s : State) (irs b j : ℕ) (e : SoloContent) → (s.receiving.opened ≡ false → b ≡ 0)
    → number (next_irs s (number irs b) e) j ≡ number (next_irs s irs e) (b + j)
irs-further s irs b j (Arrive src dst bytes) none =
    let n = seq_read (decode_answer src dst bytes) in
    by_test s.receiving.opened (λ o. number (if o then number irs b else n) j ≡ number (if o then irs else n) (b + j))
    (λ _. omega arith) (λ shut. omega (arith, none shut))
irs-further s irs b j other none = omega arith

pub get-within : (text : List ℕ) (i : ℕ) → i < length text → (byte : ℕ) × (slice_get text i ≡ Some byte)
get-within [] i h = absurd (omega arith)
get-within (b ∷ text) zero h = (b, refl)
get-within (b ∷ text) (suc i) h = get-within text i (omega arith)

-- of what is held, by a place that is within it
pub held-inside : (P P' : ℕ → ℕ → Type 0) (place : ℕ) (held : List (Option Cell)) → ((i byte : ℕ) → place ≤ i → i < place + length held → P i byte → P' i byte)
    → AllHeld P place held → AllHeld P' place held
held-inside P P' place [] more h = tt
held-inside P P' place (None ∷ places) more h = held-inside P P' (suc place) places (λ i byte from below. more i byte (omega arith) (omega arith)) h
held-inside P P' place (Some cell ∷ places) more h = (
  more place cell.byte (omega arith) (omega arith) h.0,
  held-inside P P' (suc place) places (λ i byte from below. more i byte (omega arith) (omega arith)) h.1,
)

pub back-one : (f irs p : ℕ) → f < 2 ^ 32 → number f 1 ≡ number irs (p + 1) → f ≡ number irs p
back-one f irs p small e = omega arith

pub has-opened : (s : State) (accepted : List ℕ) (closed : Bool) → IsAlone s accepted closed → s.receiving.finished ≡ true → s.receiving.opened ≡ true
has-opened s accepted closed a e = by_test s.receiving.opened (λ b. b ≡ true) (λ _. refl) (λ shut. absurd (false≢true (sym (a.unopened shut) ∙ e)))
