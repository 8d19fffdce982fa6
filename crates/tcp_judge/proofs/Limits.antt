-- WHAT A USER SENT stays within the limit of its Config, after every list of events.
use Rattle.std.proofs.Common.{◌≡◌, ℕ, ◌+◌, ◌^◌, ◌<◌, ◌≤◌, List, [], ◌∷◌, ◌++◌, length, take, sym}
use Rattle.std.proofs.Common.{subst, arith}
use Rattle.std.specs.Prelude.{None}
use Rattle.std.specs.List.{AllByRecursion}
use Rattle.tcp_halves.specs.declared.config.Config.{Config}
use Rattle.tcp_halves.specs.declared.link.Peer.{Peer}
use Rattle.tcp_halves.specs.Config.{IsConfig, default_limit}
use Rattle.tcp_halves.specs.Sender.{count_sendable}
use Rattle.tcp_replay.specs.Solo.{SoloState, solo_with_runs, solo_run, alone_with_runs, after_solo, end_after}
use Rattle.tcp_replay.specs.SoloEvents.{SoloContent, HasRanges}
use Rattle.tcp_replay.specs.World.{PartyState}
use Rattle.tcp_replay.proofs.one_end.Alone.{alone-new}
use Rattle.tcp_replay.proofs.one_end.AloneCalls.{IsAloneIn, send-open}
use Rattle.tcp_replay.proofs.pair.Calls.{KeptByCalls}
use Rattle.tcp_replay.proofs.one_end.Phases.{discards-not_ended}
use Rattle.tcp_replay.proofs.one_end.SoloRuns.{party_in, solo-step, alone-step}
use Rattle.tcp_judge.specs.Heard.{Heard, nothing_heard}
use Rattle.tcp_judge.proofs.Hearing.{heard_past}
use Rattle.tcp_judge.proofs.Hears.{Hears, hears-new}
use Rattle.tcp_judge.proofs.Hearings.{hears-step, address-step}
use Rattle.tcp_wire.specs.Checksum.{AreBytes}
use Rattle.tcp_conn.specs.Calls.{send_refusal}
use Rattle.tcp_replay.proofs.pair.Halves.{accepted-limit}

limit-calls : (peer : Peer) (p : PartyState) → IsAloneIn p → length p.accepted ≤ p.endpoint.config.limit
    → KeptByCalls peer p (λ p'. length p'.accepted ≤ p.endpoint.config.limit)
limit-calls peer p a h =
    let s = p.endpoint in
    let sends : (text : List ℕ) → AreBytes text → send_refusal s text ≡ None
    → length (p.accepted ++ take (count_sendable s.sending s.config.limit text) text) ≤ s.config.limit =
    λ text bytes e. accepted-limit s.sending s.config.limit p.accepted text p.closed h (rw (discards-not_ended s.ending (send-open s text e).0) at a.sends) in
    assumption

limit-step : (x : SoloState) (e : SoloContent) → HasRanges e → IsAloneIn (party_in x) → length x.accepted ≤ x.endpoint.config.limit
    → length (after_solo x e).accepted ≤ x.endpoint.config.limit
limit-step x e fits a h =
    solo-step x (λ p. length p.accepted ≤ x.endpoint.config.limit) a (λ peer _. limit-calls peer (party_in x) a h) e fits (λ src dst bytes is. h)

limit-run : (x : SoloState) (list : List SoloContent) (h : Heard) (irs k : ℕ) → AllByRecursion HasRanges list → IsAloneIn (party_in x) → Hears h x irs k
    → length x.accepted ≤ x.endpoint.config.limit → length (solo_run x list).accepted ≤ x.endpoint.config.limit
unfolding solo_run
limit-run x [] h irs k fits a hears inside = inside
limit-run x (e ∷ list) h irs k fits a hears inside =
    let same = address-step x e h irs k fits.0 a hears in
    let next : length (after_solo x e).accepted ≤ (end_after x.endpoint e).config.limit =
    subst (λ (c : Config). length (after_solo x e).accepted ≤ c.limit) (sym same) (limit-step x e fits.0 a inside) in
    subst (λ (c : Config). length (solo_run (after_solo x e) list).accepted ≤ c.limit) same
    (limit-run (after_solo x e) list (heard_past h e) _ _ fits.1 (alone-step x e fits.0 a) (hears-step x e h irs k fits.0 a hears) next)

-- with a limit of at most the default each position lies below 2^31
pub positions-short : (c : Config) (runs : ℕ) (list : List SoloContent) → IsConfig c → AllByRecursion HasRanges list → c.limit ≤ default_limit
    → 2 + length (alone_with_runs c runs list).accepted < 2 ^ 31
positions-short c runs list is fits short =
    let inside = limit-run (solo_with_runs c runs) list nothing_heard 0 0 fits (alone-new c runs is) (hears-new c runs is) (omega arith) in
    omega (arith, inside, short)
