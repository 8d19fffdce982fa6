-- One probe for a tail, and none before a measurement.
use Rattle.std.proofs.Common.{◌≡◌, ℕ, ◌<◌, Bool, true, false, List, [], ◌∷◌, Option, Some, None, arith, refl}
use Rattle.std.specs.Prelude.{◌==◌, ◌&&◌, ◌||◌, not, nat_lt, is_some, if◌then◌else◌}
use Rattle.std.proofs.lemmas.Bool.Decides.{nat_tests}
use Rattle.tcp_recovery.specs.declared.probe.Probe.{Probe}
use Rattle.tcp_recovery.specs.Probe.{after_probe, end_after, new_probe}
use Rattle.tcp_recovery.specs.Laws.{ProbeCall, Starts, Stops, Recovers, Measures, Acks, AllLeaveOut, AreUnmeasured, OneProbeATail, ProbesAreMeasured, probe_after}

-- it is out
record IsProbing (p : Probe) (end : ℕ) : Type 0 where
  at : p.at ≡ None
  end_seq : p.end_seq ≡ Some end

no-start : (end_seq : Option ℕ) (end : ℕ) (b : Bool) (at : Option ℕ) → end_seq ≡ Some end → (if is_some end_seq || b then None else at) ≡ None
no-start None end b at e = absurd (cc)
no-start (Some end') end b at e = refl

still-by : (end una : ℕ) (a b c : Bool) → nat_lt end una ≡ a → (end == una) ≡ b → una < end → (if a || (b && c) then None else Some end) ≡ Some end
still-by end una true b c e f h = absurd (grind (arith, nat_tests, e, h))
still-by end una false true c e f h = absurd (grind (arith, nat_tests, f, h))
still-by end una false false c e f h = refl

still-out : (end_seq : Option ℕ) (end una : ℕ) (is_retrans both_came : Bool) → end_seq ≡ Some end → una < end
    → end_after end_seq is_retrans una both_came ≡ Some end
still-out None end una is_retrans both_came e h = absurd (cc)
still-out (Some end') end una is_retrans both_came e h =
    let same : end' ≡ end = cc in
    let less : una < end' = omega (arith, same, h) in
    let out : end_after (Some end') is_retrans una both_came ≡ Some end' =
    still-by end' una (nat_lt end' una) (end' == una) (not is_retrans || both_came) refl refl less in
    cc

probing : (p : Probe) (end : ℕ) (is_retrans : Bool) (calls : List ProbeCall) → AllLeaveOut end calls
    → IsProbing (probe_after (after_probe p end is_retrans) calls) end
probing p end is_retrans [] all = record { at = refl; end_seq = refl }
probing p end is_retrans (Starts now srtt is_one rto_at ∷ earlier) all =
    let h : IsProbing (probe_after (after_probe p end is_retrans) earlier) end = probing p end is_retrans earlier (all.1) in
    record { at = no-start (probe_after (after_probe p end is_retrans) earlier).end_seq end _ _ h.end_seq; end_seq = h.end_seq }
probing p end is_retrans (Stops ∷ earlier) all =
    let h : IsProbing (probe_after (after_probe p end is_retrans) earlier) end = probing p end is_retrans earlier (all.1) in
    record { at = refl; end_seq = h.end_seq }
probing p end is_retrans (Recovers ∷ earlier) all = absurd (all.0)
probing p end is_retrans (Measures ∷ earlier) all =
    let h : IsProbing (probe_after (after_probe p end is_retrans) earlier) end = probing p end is_retrans earlier (all.1) in
    record { at = h.at; end_seq = h.end_seq }
probing p end is_retrans (Acks una both_came ∷ earlier) all =
    let v : Probe = probe_after (after_probe p end is_retrans) earlier in
    let h : IsProbing v end = probing p end is_retrans earlier (all.1) in
    record { at = h.at; end_seq = still-out v.end_seq end una v.is_retrans both_came h.end_seq (all.0) }

pub probe_lem : OneProbeATail
probe_lem p end is_retrans calls all = let h : IsProbing (probe_after (after_probe p end is_retrans) calls) end = probing p end is_retrans calls all in h.at

-- none waits, and no round trip was measured
record IsUnmeasuredProbe (p : Probe) : Type 0 where
  at : p.at ≡ None
  is_measured : p.is_measured ≡ false

unmeasured-start : (a m : Bool) (at : Option ℕ) → m ≡ false → (if a || not m then None else at) ≡ None
unmeasured-start true m at e = refl
unmeasured-start false true at e = absurd (cc)
unmeasured-start false false at e = refl

unmeasured : (p : Probe) (calls : List ProbeCall) → IsUnmeasuredProbe p → AreUnmeasured calls → IsUnmeasuredProbe (probe_after p calls)
unmeasured p [] u all = u
unmeasured p (Starts now srtt is_one rto_at ∷ earlier) u all =
    let v : Probe = probe_after p earlier in
    let h : IsUnmeasuredProbe v = unmeasured p earlier u (all.1) in
    record { at = unmeasured-start (is_some v.end_seq) v.is_measured _ h.is_measured; is_measured = h.is_measured }
unmeasured p (Stops ∷ earlier) u all =
    let h : IsUnmeasuredProbe (probe_after p earlier) = unmeasured p earlier u (all.1) in
    record { at = refl; is_measured = h.is_measured }
unmeasured p (Recovers ∷ earlier) u all =
    let h : IsUnmeasuredProbe (probe_after p earlier) = unmeasured p earlier u (all.1) in
    record { at = refl; is_measured = h.is_measured }
unmeasured p (Measures ∷ earlier) u all = absurd (all.0)
unmeasured p (Acks una both_came ∷ earlier) u all =
    let h : IsUnmeasuredProbe (probe_after p earlier) = unmeasured p earlier u (all.1) in
    record { at = h.at; is_measured = h.is_measured }

pub measured_lem : ProbesAreMeasured
measured_lem calls all = (
  (unmeasured new_probe calls (record { at = refl; is_measured = refl }) all).at,
  λ p end is_retrans. (unmeasured (after_probe p end is_retrans) calls (record { at = refl; is_measured = refl }) all).at,
)
