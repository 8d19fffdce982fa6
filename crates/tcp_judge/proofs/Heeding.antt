-- WHAT A JUDGE HEARD of the end's connection: what came with other ports counts as nothing, and the end takes nothing of it.
use Rattle.std.proofs.Common.{◌≡◌, ℕ, ◌+◌, List, refl, sym, ap, subst, append-nil}
use Rattle.std.specs.Prelude.{Option, Some, None, if◌then◌else◌}
use Rattle.tcp_wire.specs.Decoded.{decode_answer}
use Rattle.tcp_wire.specs.Wire.{Content}
use Rattle.tcp_replay.specs.OneEnd.{count_come}
use Rattle.tcp_replay.specs.Solo.{SoloState, end_after, after_solo}
use Rattle.tcp_replay.specs.SoloEvents.{SoloContent, HasRanges, Arrive}
use Rattle.tcp_replay.proofs.Lists.{by_test}
use Rattle.tcp_replay.proofs.one_end.AloneCalls.{IsAloneIn}
use Rattle.tcp_replay.proofs.one_end.SoloRuns.{party_in, read-arrival, next_irs}
use Rattle.tcp_judge.specs.Heard.{Heard, is_elsewhere, after_came}
use Rattle.tcp_judge.specs.Law.{heard_read}
use Rattle.tcp_judge.specs.Taken.{taken_of}
use Rattle.tcp_judge.proofs.Hearing.{heard_from, heard_past}
use Rattle.tcp_judge.proofs.Hears.{Hears}
use Rattle.tcp_judge.proofs.Hearings.{hears-step}
use Rattle.tcp_judge.proofs.Elsewhere.{HasPorts, ports-step, ports-came, StaysPut, elsewhere-reading}

pub record Heeds (h : Heard) (x : SoloState) : Type 0 where
  pub irs : ℕ
  pub k : ℕ
  pub hears : Hears h x irs k
  pub ports : HasPorts h.ports x.endpoint

-- after an event
abbrev pub heard_next : Heard → SoloContent → Heard
heard_next h (Arrive src dst bytes) = heard_read h (taken_of src dst bytes)
heard_next h other = h

-- what leaves the end as it is
stays-heard : (h : Heard) (x x' : SoloState) (irs k : ℕ) → x'.delivered ≡ x.delivered → StaysPut x.endpoint x'.endpoint → Hears h x irs k → Hears h x' irs k
stays-heard h x x' irs k same put hears = record {
  since = hears.since;
  acked_number = rw put.receiving hears.acked_number;
  fed = rw (same, put.receiving, put.ending) hears.fed;
  comes = rw (put.receiving, put.ending) hears.comes;
  syn = rw put.receiving hears.syn;
  fin = rw put.receiving hears.fin;
  capacity = hears.capacity;
  small = hears.small;
  room = rw put.receiving hears.room;
  offered = rw put.link hears.offered;
}

module _ (x : SoloState) (h : Heard) (alone : IsAloneIn (party_in x)) (heeds : Heeds h x) where
  -- what counts wherever it came from
  heeds-all : (e : SoloContent) (h' : Heard) → HasRanges e → heard_past h e ≡ h' → HasPorts h'.ports (end_after x.endpoint e) → Heeds h' (after_solo x e)
  heeds-all e h' fits same ports = record {
    irs = next_irs x.endpoint heeds.irs e;
    k = heeds.k + count_come x.endpoint e;
    hears = subst (λ (g : Heard). Hears g (after_solo x e) (next_irs x.endpoint heeds.irs e) (heeds.k + count_come x.endpoint e)) same
        (hears-step x e h heeds.irs heeds.k fits alone heeds.hears);
    ports = ports;
  }

  heeds-read : (src dst bytes : List ℕ) (taken : Option Content) → HasRanges (Arrive src dst bytes) → taken_of src dst bytes ≡ taken
      → Heeds (heard_read h taken) (after_solo x (Arrive src dst bytes))
  heeds-read src dst bytes None fits is =
      heeds-all (Arrive src dst bytes) h fits (ap (heard_from h) is) (ports-step h.ports x (Arrive src dst bytes) fits alone heeds.ports)
  heeds-read src dst bytes (Some v) fits is =
      let e = Arrive src dst bytes in
      let s = x.endpoint in
      let r = decode_answer src dst bytes in
      let ports = ports-step h.ports x e fits alone heeds.ports in
      by_test (is_elsewhere h.ports v) (λ b. Heeds (if b then h else after_came h v) (after_solo x e))
      (λ elsewhere. record {
        irs = heeds.irs;
        k = heeds.k;
        hears = stays-heard h x (after_solo x e) heeds.irs heeds.k (append-nil x.delivered)
            (subst (StaysPut s) (sym (read-arrival s src dst bytes r refl)) (elsewhere-reading h.ports s src dst bytes r v heeds.ports is elsewhere)) heeds.hears;
        ports = ports;
      })
      (λ _. heeds-all e (after_came h v) fits (ap (heard_from h) is) (ports-came h.ports v (end_after s e) ports))

  pub heeds-step : (e : SoloContent) → HasRanges e → Heeds (heard_next h e) (after_solo x e)
  heeds-step (Arrive src dst bytes) fits = heeds-read src dst bytes (taken_of src dst bytes) fits refl
  heeds-step other fits = heeds-all other h fits refl (ports-step h.ports x other fits alone heeds.ports)
