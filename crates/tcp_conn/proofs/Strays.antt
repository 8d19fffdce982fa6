-- An end in CLOSED answers a segment by the bytes that answer it where there is no end.
use Rattle.std.proofs.Common.{◌≡◌, ℕ, List, refl, ap}
use Rattle.std.specs.Prelude.{Bool, true, false, if◌then◌else◌, Ok}
use Rattle.std.proofs.lemmas.Bool.Decides.{Decides-eqb}
use Rattle.std.proofs.lemmas.Slice.Eq.{bytes_eq-Decides}
use Rattle.tcp_wire.specs.Flags.{has, rst}
use Rattle.tcp_wire.specs.Wire.{Content}
use Rattle.tcp_halves.specs.declared.config.Config.{Config}
use Rattle.tcp_conn.specs.declared.arrive.judgement.Judgement.TheVariants.{Foreign, ResetIgnored, Stray}
use Rattle.tcp_conn.specs.Arrival.{after_arrival, after_judgement}
use Rattle.tcp_conn.specs.Due.{due_of}
use Rattle.tcp_conn.specs.Emission.{emitted_bytes}
use Rattle.tcp_conn.specs.Forms.{segment_of}
use Rattle.tcp_conn.specs.Judgement.{closed_judgement, is_foreign, judgement, phase_judgement}
use Rattle.tcp_conn.specs.NewEnd.{new_end}
use Rattle.tcp_conn.specs.Stray.{AnswersAsClosed, bytes_for_stray, stray_reset}
use Rattle.tcp_conn.specs.Writing.{bytes_of}

-- the segment is for this end
own : (c : Config) (src : List ℕ) (v : Content) → v.dst_port ≡ c.port → is_foreign (new_end c) src c.addr.0 v ≡ false
unfolding is_foreign
own c src v port = rw (port, (bytes_eq-Decides c.addr.0 c.addr.0).1 refl, (Decides-eqb c.port c.port).1 refl) refl

judged : (c : Config) (src : List ℕ) (v : Content) → v.dst_port ≡ c.port → judgement (new_end c) src c.addr.0 v ≡ (if has rst v.flags then ResetIgnored else Stray)
unfolding judgement phase_judgement closed_judgement
judged c src v port = ap (λ b. if b then Foreign else (if has rst v.flags then ResetIgnored else Stray)) (own c src v port)

-- what is emitted then
emitted : (c : Config) (src : List ℕ) (v : Content) (resets : Bool) → v.dst_port ≡ c.port → has rst v.flags ≡ resets
    → emitted_bytes (after_judgement (if resets then ResetIgnored else Stray) (new_end c) src v) ≡ bytes_for_stray src c.addr.0 (Ok v)
unfolding emitted_bytes due_of bytes_of segment_of
emitted c src v true port is = rw is refl
emitted c src v false port is = rw (is, port) refl

pub strays_lem : AnswersAsClosed
unfolding after_arrival stray_reset
strays_lem c src bytes v read port =
    rw (read, judged c src v port) (emitted c src v (has rst v.flags) port refl)
