-- A keep-alive is answered as the call `acknowledge` is.
use Rattle.std.proofs.Common.{◌≡◌, ℕ, ◌+◌, ◌-◌, ◌<◌, ◌≤◌, ◌^◌, Bool, true, false, ◌&&◌, ◌||◌, ◌==◌, List, arith, refl, subst, sym, ap, ◌∙◌}
use Rattle.std.specs.Prelude.{bytes_eq, Ok, pos, ◌-ℤ◌, int_le, int_lt}
use Rattle.std.proofs.lemmas.Bool.{lt-ltb}
use Rattle.std.proofs.lemmas.Bool.Decides.{nat_tests}
use Rattle.std.proofs.lemmas.Int.{ints}
use Rattle.std.proofs.lemmas.Slice.Eq.{bytes_eq-Decides}
use Rattle.tcp_wire.specs.Position.{number, distance, is_before, near, is_inside}
use Rattle.tcp_wire.specs.Decoded.{decode_answer}
use Rattle.tcp_wire.specs.Wire.{Content, IsValid}
use Rattle.tcp_wire.proofs.Lemmas.{decoded_encoded}
use Rattle.tcp_numbers.proofs.Positions.{distance_numbers, near_number_behind}
use Rattle.std.proofs.Math.Bool.{or-true, and-false}
use Rattle.tcp_reasm.specs.Reassembly.{window}
unfoldable use Rattle.tcp_halves.specs.Acceptable.{is_acceptable}
use Rattle.tcp_conn.specs.declared.arrive.judgement.Judgement.{Judgement}
use Rattle.tcp_conn.specs.declared.arrive.judgement.Judgement.TheVariants.{Unacceptable}
use Rattle.tcp_conn.specs.Arrival.{after_judgement, after_reading}
unfoldable use Rattle.tcp_conn.specs.Arrival.{after_arrival}
use Rattle.tcp_conn.specs.Judgement.{count_numbers, is_acceptable_segment}
unfoldable use Rattle.tcp_conn.specs.Judgement.{judgement, phase_judgement, judgement_after_syn, acceptable_judgement, unacceptable_judgement, ack_judgement, is_foreign}
unfoldable use Rattle.tcp_conn.specs.Judgement.{closed_judgement, listen_judgement, syn_sent_judgement}
unfoldable use Rattle.tcp_conn.specs.Calls.{after_acknowledge}
use Rattle.tcp_conn.specs.Endpoint.{FitsFields}
use Rattle.tcp_conn.specs.Phase.{has_peer, takes_text}
use Rattle.tcp_conn.specs.State.{State, with_ack_pending}
use Rattle.tcp_keep_alive.specs.Asking.{keep_alive_of, keep_alive_bytes}
use Rattle.tcp_keep_alive.specs.Answered.{OnlyAcknowledges, ComparesNumbers, ComesOld, IsAnswered, OldIsAnswered, ComesTo, KeepAliveIsAcknowledge}

-- ---- OLD isn't acceptable where the window is open, whatever the window is
before-outside : (n size back : ℕ) → back < n + 2 ^ 32 → is_inside n size (pos back -ℤ pos (2 ^ 32)) ≡ false
before-outside n size back less =
    let low : int_le (pos n) (pos back -ℤ pos (2 ^ 32)) ≡ false = grind (arith, ints) in
    ap (λ b. b && int_lt (pos back -ℤ pos (2 ^ 32)) (pos (n + size))) low

old-outside : (next size seq : ℕ) → next < 2 ^ 32 → seq < 2 ^ 32 → is_before seq next ≡ true → is_inside next size (near next seq) ≡ false
old-outside next size seq fits number old =
    let far : 2 ^ 31 ≤ distance next seq = grind (arith, nat_tests, old, fits, number) in
    ap (is_inside next size) (near_number_behind next seq fits far)
    ∙ (let below : next + distance next seq < next + 2 ^ 32 = omega arith in before-outside next size (next + distance next seq) below)

takes-nothing : (v : Content) → OnlyAcknowledges v → count_numbers v ≡ 0
takes-nothing v only = rw (only.no_text, only.no_syn, only.no_fin) refl

old-unacceptable : (s : State) (src dst : List ℕ) (v : Content) → s.receiving.rcv_nxt < 2 ^ 32 → ComesOld s src dst v → (window s.receiving.inbox == 0) ≡ false
    → is_acceptable_segment s v ≡ false
unfolding is_acceptable
old-unacceptable s src dst v fits h open_ =
    let bare : (count_numbers v == 0) ≡ true = grind (arith, nat_tests, takes-nothing v h.only) in
    rw (bare, open_) (old-outside s.receiving.rcv_nxt (window s.receiving.inbox) v.seq fits h.number h.old)

pub judged-old : (s : State) (src dst : List ℕ) (v : Content) → s.receiving.rcv_nxt < 2 ^ 32 → ComparesNumbers s → ComesOld s src dst v → 0 < window s.receiving.inbox
    → judgement s src dst v ≡ Unacceptable
unfolding judgement phase_judgement judgement_after_syn unacceptable_judgement
judged-old s src dst v fits here h some =
    let open_ : (window s.receiving.inbox == 0) ≡ false = grind (arith, nat_tests, some) in
    rw (h.mine, here.closed, here.listening, here.syn_sent, old-unacceptable s src dst v fits h open_, h.only.no_rst, open_) refl

-- ---- AS THE CALL
pub called : (s : State) → takes_text s.phase ≡ true → with_ack_pending s ≡ after_acknowledge s
unfolding after_acknowledge
called s takes =
    let always : (s.pending.ack || takes_text s.phase) ≡ true = rw takes (or-true s.pending.ack) in
    ap (λ (b : Bool). record s { pending = record s.pending { ack = b } }) (sym always)

pub answered : (s s' : State) → s' ≡ with_ack_pending s → IsAnswered s s'
answered s s' e = record { pending = e; called = λ takes. e ∙ called s takes }

pub old_lem : OldIsAnswered
old_lem s src dst v fits here h some =
    answered s _ (ap (λ (j : Judgement). after_judgement j s src v) (judged-old s src dst v fits here h some))

-- ---- THE KEEP-ALIVE of an end
pub keep_alive-only : (a : State) → OnlyAcknowledges (keep_alive_of a)
keep_alive-only a = record { acks = refl; no_syn = refl; no_fin = refl; no_rst = refl; no_text = refl }

-- it is a segment
pub keep_alive-valid : (a : State) → FitsFields a → IsValid (keep_alive_of a)
keep_alive-valid a fits =
    let port = fits.port in
    let peer_port = fits.peer_port in
    let next = fits.next in
    record {
      src_port = port;
      dst_port = peer_port;
      seq = omega arith;
      ack = next;
      reserved = omega arith;
      flags = omega arith;
      window = omega arith;
      urgent = omega arith;
      options = tt;
      whole_words = refl;
      room = omega arith;
      text = λ i. omega arith;
      most = omega arith;
    }

-- the number of a position lies before that of a later one
pub before-number : (initial position next : ℕ) → position < next → next < position + 2 ^ 31 → is_before (number initial position) (number initial next) ≡ true
before-number initial position next less near_ =
    let d : distance (number initial position) (number initial next) ≡ next - position = distance_numbers initial position next (omega arith) (omega arith) in
    let least : 1 ≤ next - position = omega arith in
    let most : next - position < 2 ^ 31 = omega arith in
    rw d (rw (lt-ltb 0 (next - position) least, lt-ltb (next - position) (2 ^ 31) most) refl)

mine : (p : State) (src : List ℕ) (v : Content) → v.dst_port ≡ p.config.port → p.peer.addr.0 ≡ src → v.src_port ≡ p.peer.port
    → is_foreign p src p.config.addr.0 v ≡ false
unfolding is_foreign
mine p src v to_port from_addr from_port =
    let dst = p.config.addr.0 in
    let to : bytes_eq dst dst ≡ true = (bytes_eq-Decides dst dst).1 refl in
    let at : (v.dst_port == p.config.port) ≡ true = grind (arith, nat_tests, to_port) in
    let from : bytes_eq src p.peer.addr.0 ≡ true = (bytes_eq-Decides src p.peer.addr.0).1 (sym from_addr) in
    let of : (v.src_port == p.peer.port) ≡ true = grind (arith, nat_tests, from_port) in
    rw (to, at, from, of) (and-false (has_peer p.phase))

comes-old : (a p : State) (next : ℕ) → ComesTo a p next → ComesOld p a.config.addr.0 p.config.addr.0 (keep_alive_of a)
comes-old a p next h = record {
  mine = mine p a.config.addr.0 (keep_alive_of a) h.to_port h.from_addr (sym h.from_port);
  only = keep_alive-only a;
  number = omega arith;
  old = rw h.next_is (before-number a.config.isn.0 (a.sending.snd_nxt - 1) next (omega (arith, h.sent, h.had)) (omega (arith, h.sent, h.young)));
}

-- and it is read as what it is
pub keep_alive-read : (a : State) (dst : List ℕ) → FitsFields a → a.peer.addr.0 ≡ dst → decode_answer a.config.addr.0 dst (keep_alive_bytes a) ≡ Ok (keep_alive_of a)
keep_alive-read a dst fits to =
    subst (λ (dst : List ℕ). decode_answer a.config.addr.0 dst (keep_alive_bytes a) ≡ Ok (keep_alive_of a)) to
    (decoded_encoded a.config.addr.0 a.peer.addr.0 (keep_alive_of a) (keep_alive-valid a fits))

pub keep_alive_lem : KeepAliveIsAcknowledge
unfolding after_arrival
keep_alive_lem a p next fits fits_next here h some =
    let src = a.config.addr.0 in
    let dst = p.config.addr.0 in
    let v = keep_alive_of a in
    let read = keep_alive-read a dst fits h.to_addr in
    let judged = judged-old p src dst v fits_next here (comes-old a p next h) some in
    answered p _ (ap (after_reading p src dst) read ∙ ap (λ (j : Judgement). after_judgement j p src v) judged)
