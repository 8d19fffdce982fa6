-- TWO ENDS WITH THEIR TIMES AT HOSTS: what isn't handed to an end changes nothing, and what is handed on is blind.
use Rattle.std.proofs.Common.{◌≡◌, ◌≤◌, ℕ, Bool, true, false, if◌then◌else◌, List, Option, Some, [], ◌∷◌, refl, sym, ap, subst, ◌∙◌}
use Rattle.tcp_halves.specs.Config.{IsConfig}
use Rattle.tcp_halves.specs.declared.config.Config.{Config}
use Rattle.tcp_replay.specs.declared.event.Side.{Side}
use Rattle.tcp_replay.specs.declared.event.Side.TheVariants.{A, B}
use Rattle.tcp_replay.specs.Among.{Injection}
use Rattle.tcp_replay.specs.Sound.{IsSound, IsSoundPair}
use Rattle.tcp_replay.specs.World.{max_life, other}
use Rattle.tcp_replay.proofs.run.Worlds.{sound-new}
use Rattle.tcp_ends.specs.Among.{Calls, Incident, Injects, IsFairIncident, Rests, member_after_injection}
unfoldable use Rattle.tcp_ends.specs.Among.{AreFairIncidents, pair_after_incident, pair_after_incidents}
use Rattle.tcp_ends.specs.Pair.{Pair, member_of, new_member, pair_of, party_in, with_member, world_in}
use Rattle.tcp_ends.proofs.Reached.{Reached, all-at, began, safe-at}
use Rattle.std.specs.Prelude.{IsSomeAnd}
use Rattle.tcp_driver.specs.Driver.{Driving}
use Rattle.tcp_end.specs.declared.wired.Wired.{Wired}
use Rattle.tcp_end.specs.Wired.{machine}
use Rattle.tcp_host.specs.Behaviour.{of_driver}
use Rattle.tcp_host.specs.Hosting.{Hosting, end_at}
use Rattle.tcp_hosted.specs.Coming.{HandsOn, at_host}
use Rattle.tcp_hosted.proofs.Apart.{pair_cmp}
use Rattle.tcp_hosted.specs.Ends.{ComesAsIncident, IsFairAtHosts, TwoEndsAtHostsAreSafe, pair_at_hosts}
unfoldable use Rattle.tcp_hosted.specs.Ends.{AreFairAtHosts, pair_after_all_at_hosts}
use Rattle.tcp_hosted.specs.Worlds.{is_handed, pair_between}
use Rattle.tcp_hosted.proofs.Worlds.{blind, pair-at, sound-happened}

-- ---- WHAT IS HANDED ON: a call is, and of what comes to a host what is the end's
abbrev pub handed_of : {H : Type 0} → Pair H → Incident → Bool
handed_of p (Calls call) = true
handed_of p (Injects side now i) = is_handed (party_in (member_of p side)) (party_in (member_of p (other side))) i
handed_of p (Rests side) = true

-- ---- ALL ELSE leaves the two as they are
module _ {H : Type 0} (p : Pair H) where
  same-member : (side : Side) → with_member p side (member_of p side) ≡ p
  same-member A = refl
  same-member B = refl

  injected : (side : Side) (now : ℕ) (i : Injection) (handed : Bool)
      → is_handed (party_in (member_of p side)) (party_in (member_of p (other side))) i ≡ handed
      → pair_at_hosts p (Injects side now i) ≡ (if handed then pair_after_incident p (Injects side now i) else p)
  unfolding pair_after_incident
  injected side now i true e =
      ap (λ (b : Bool). with_member p side (record (member_of p side) { driving = if b then (member_after_injection (member_of p side) now i).driving else (member_of p side).driving })) e
  injected side now i false e =
      ap (λ (b : Bool). with_member p side (record (member_of p side) { driving = if b then (member_after_injection (member_of p side) now i).driving else (member_of p side).driving })) e
      ∙ same-member side

  pub step-is : (incident : Incident) → pair_at_hosts p incident ≡ (if handed_of p incident then pair_after_incident p incident else p)
  unfolding pair_after_incident
  step-is (Calls call) = refl
  step-is (Injects side now i) = injected side now i (is_handed (party_in (member_of p side)) (party_in (member_of p (other side))) i) refl
  step-is (Rests side) = refl

  pub parties : (side : Side) → IsSound (world_in p) → IsSoundPair (party_in (member_of p side)) (party_in (member_of p (other side)))
  parties A h = pair-at (world_in p) A h
  parties B h = pair-at (world_in p) B h

-- ---- WHAT IS HANDED ON IS BLIND
fair-handed : {H : Type 0} (p : Pair H) (incident : Incident) → IsSound (world_in p) → IsFairAtHosts p incident → handed_of p incident ≡ true
    → IsFairIncident p incident
fair-handed p (Calls call) h fair e = fair
fair-handed p (Injects side now i) h fair e =
    λ lost. blind (party_in (member_of p side)) (party_in (member_of p (other side))) i (parties p side h) e fair.are_bytes (fair.kept_out e lost)
fair-handed p (Rests side) h fair e = fair

module _ {H : Type 0} (life : ℕ) (a b : Config) (runs_a runs_b : ℕ) (most : life ≤ max_life) (one : IsConfig a) (two : IsConfig b) where
  abbrev At : Pair H → Type 0
  At p = Reached life a b runs_a runs_b p

  sound-at : (p : Pair H) → At p → IsSound (world_in p)
  sound-at p r = subst IsSound r.is (sound-happened _ r.happenings r.fair (sound-new life a b runs_a runs_b most one two))

  one-at : (p : Pair H) (incident : Incident) → At p → IsFairIncident p incident → At (pair_after_incident p incident)
  unfolding AreFairIncidents pair_after_incidents
  one-at p incident r fair = (all-at life a b runs_a runs_b most one two p (incident ∷ []) r (fair, tt)).1

  next-at : (p next : Pair H) (incident : Incident) (handed : Bool) → handed_of p incident ≡ handed
      → next ≡ (if handed then pair_after_incident p incident else p) → At p → IsFairAtHosts p incident → At next
  next-at p next incident true e is r fair = subst At (sym is) (one-at p incident r (fair-handed p incident (sound-at p r) fair e))
  next-at p next incident false e is r fair = subst At (sym is) r

  pub all_at_hosts : (p : Pair H) (list : List Incident) → At p → AreFairAtHosts p list → At (pair_after_all_at_hosts p list)
  unfolding AreFairAtHosts pair_after_all_at_hosts
  all_at_hosts p [] r fair = r
  all_at_hosts p (incident ∷ list) r fair =
      all_at_hosts (pair_at_hosts p incident) list
      (next-at p (pair_at_hosts p incident) incident (handed_of p incident) refl (step-is p incident) r fair.0) fair.1

pub two_ends_lem : (H : Type 0) → TwoEndsAtHostsAreSafe H
two_ends_lem H life a b runs_a runs_b opening_a opening_b x y list most one two lets_a lets_b e f fair =
    let p = pair_of life (new_member x) (new_member y) in
    let begun = began life a b runs_a runs_b most one two x y opening_a opening_b lets_a lets_b e f in
    safe-at life a b runs_a runs_b most one two (pair_after_all_at_hosts p list) (all_at_hosts life a b runs_a runs_b most one two p list begun fair)

-- ---- WHAT COMES TO A HOST is an incident of the two
pub comes_as_incident : {H L : Type 0} (old new : Hosting (Driving (Wired H)) L) (now : ℕ) (src dst bytes : List ℕ)
    → HandsOn (of_driver machine) pair_cmp old new now src dst bytes false → ComesAsIncident pair_cmp old new now src dst bytes
comes_as_incident {H = H} old new now src dst bytes hands m peer slot has is =
    let own = pair_between (party_in m) (party_in peer) in
    let found = hands own slot has in (
      found.0,
      subst (λ (o : Option (Driving (Wired H))). IsSomeAnd o (λ end. end_at new.ends slot ≡ Some (at_host (of_driver machine) own end now src dst bytes false))) is
          found.1,
    )
