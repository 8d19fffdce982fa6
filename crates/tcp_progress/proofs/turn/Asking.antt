-- WHAT THE OTHER HAS AND DIDN'T ACKNOWLEDGE goes out again where one side is served, and is old to the other.
use Rattle.tcp_replay.proofs.Words.{◌++◌, ◌<◌, after_emission, after_retransmit, AllByRecursion, ap, arith, Content, Due, due_of, Emit, EventContent}
use Rattle.tcp_replay.proofs.Words.{false, has_peer, inl, inr, is_handshake, length, List, other, party_after_emission, party_of, PartyState}
use Rattle.tcp_replay.proofs.Words.{rcv_position_of, refl, Retransmit, sends_text, Some, start_of, State, subst, suc, sym, Syn, syn_segment, SynReceived}
use Rattle.tcp_replay.proofs.Words.{Timer, true, world_after, world_after_all, WorldState, zero, ℕ, ◌∙◌, ◌≡◌, ◌≤◌, ◌⊎◌}
use Rattle.tcp_progress.proofs.Words.{after_emissions, AllCome, Comes, CoversNext, Delivers, emissions, is_reset, IsCalm, IsIdle, IsLive, IsSteadyPair}
use Rattle.tcp_progress.proofs.Words.{NoneDiscarded, served, Side}
use Rattle.tcp_progress.proofs.Lemmas.{acked-all, again_lem, emissions-last, emit-at, emit-endpoint, emit-other, emit-party, fresh-emitted, going-live}
use Rattle.tcp_progress.proofs.Lemmas.{in-flight, IsGoing, IsOld, IsStillFrom, KeepsReady, live-in, Lowers, over-served, side-pair, steps-event, still-emission}
use Rattle.tcp_progress.proofs.Lemmas.{syn-due, syn-old, text-old, timer-endpoint}
use Rattle.tcp_replay.proofs.Lemmas.{none-some}
use Rattle.tcp_progress.proofs.turn.Serving.{cleared, comes-due, idle-stays, may-send-cleared, not-reset, uncleared}
use Rattle.tcp_progress.proofs.turn.Speaking.{old-still}

-- what is old goes out, and comes later
pub record IsPending (w : WorldState) (side : Side) (later : List EventContent) : Type 0 where
  pub place : ℕ
  pub content : Content
  pub old : IsOld (party_of w side) (party_of w (other side)) place content
  pub comes : Delivers side place later

pub past-emissions : (side from : Side) (n k : ℕ) (later : List EventContent) → Delivers from k (emissions side n ++ later) → Delivers from k later
past-emissions side from zero k later h = h
past-emissions side from (suc n) k later (inl now) = absurd (cc)
past-emissions side from (suc n) k later (inr more) = past-emissions side from n k later more

-- nothing is delivered while a side is served
pub past-served : (side from : Side) (n k : ℕ) (later : List EventContent) → Delivers from k (served side n ++ later) → Delivers from k later
past-served side from n k later (inl now) = absurd (cc)
past-served side from n k later (inr more) = past-emissions side from n k later more

-- ---- WHAT WILL GO OUT of p after so many emissions, and then is old to q: what covers SND.UNA, and SND.NXT is still what it was; or the SYN alone
pub record WillCover (p q : PartyState) (count : ℕ) : Type 0 where
  pub covers : CoversNext (after_emissions count p.endpoint) p.endpoint.sending.snd_una
  pub least : 1 ≤ p.endpoint.sending.snd_una
  pub all : (after_emission (after_emissions count p.endpoint)).sending.snd_nxt ≡ rcv_position_of q

-- its SYN
pub record WillOpen (p q : PartyState) (count : ℕ) : Type 0 where
  pub due : due_of (after_emissions count p.endpoint) ≡ Some Syn
  pub snd_una : p.endpoint.sending.snd_una ≡ 0
  pub all : rcv_position_of q ≡ 1

-- it goes out at once
old-out : (w : WorldState) (side : Side) → IsGoing w → (covers : CoversNext (party_of w side).endpoint (party_of w side).endpoint.sending.snd_una)
    → 1 ≤ (party_of w side).endpoint.sending.snd_una → (after_emission (party_of w side).endpoint).sending.snd_nxt ≡ rcv_position_of (party_of w (other side))
    → IsOld (party_after_emission (party_of w side)) (party_of w (other side)) (length (party_of w side).sent) covers.segment
unfolding party_after_emission
old-out w side h covers least all =
    let p = party_of w side in
    let q = party_of w (other side) in
    let p' = party_after_emission p in
    let pair = side-pair w side h.kept in
    let still = still-emission p in
    let snd_nxt' : p'.endpoint.sending.snd_nxt ≡ rcv_position_of q = all in
    let snd_nxt : p.endpoint.sending.snd_nxt ≡ rcv_position_of q = omega (arith, still.snd_nxt, snd_nxt', pair.there.sent.taken (going-live w side h).1.opened) in
    let goes = fresh-emitted p q pair covers.due covers.is_due covers.segment covers.form covers.no_rst covers.no_syn in
    let pair' = subst (λ (x : PartyState). IsSteadyPair x q) (emit-party w side) (subst (IsSteadyPair (party_of (world_after w (Emit side)) side))
    (emit-other w side) (side-pair (world_after w (Emit side)) side (steps-event w (Emit side) tt h.kept).kept)) in
    text-old p p' q (length p.sent) (start_of p.endpoint.sending covers.due) covers.segment pair pair' still (snd_nxt' ∙ sym snd_nxt) goes
    (omega (arith, covers.starts, covers.begins)) (omega (arith, covers.starts, covers.ends)) (sym snd_nxt) least

-- ---- WHOSE SYN ISN'T ACKNOWLEDGED is in SYN-RECEIVED, and has sent nothing else
pub syn-alone : (p q : PartyState) → IsSteadyPair p q → IsLive p → p.endpoint.sending.snd_una ≡ 0 → (p.endpoint.phase ≡ SynReceived) × (p.endpoint.sending.snd_nxt ≡ 1)
syn-alone p q h live snd_una =
    elim (live-in p q h live) [ inl first ↦ (first.0, first.2) | inr rest ↦ absurd (omega (arith, snd_una, rest.0)) ]

-- ---- WHO ASKS: what is old goes out, or it is pending already
module _ (side : Side) (later : List EventContent) where
  -- at one of so many emissions
  abbrev pub Asks : WorldState → Type 0
  Asks w = IsPending w side later ⊎ ((count : ℕ) × (WillCover (party_of w side) (party_of w (other side)) count
      ⊎ WillOpen (party_of w side) (party_of w (other side)) count))

  goes-out : (w : WorldState) (n : ℕ) (due : Due) (v : Content) → due_of (party_of w side).endpoint ≡ Some due → is_reset due ≡ false
      → IsOld (party_after_emission (party_of w side)) (party_of w (other side)) (length (party_of w side).sent) v
      → Comes w (Emit side) (emissions side n ++ later) → Asks (world_after w (Emit side))
  goes-out w n due v is plain old come =
      let k = length (party_of w side).sent in
      let comes = past-emissions side side n k later (comes-due w side (emissions side n ++ later) due is plain come) in
      inl (record { place = k; content = v; old = emit-at (λ x y. IsOld x y k v) w side old; comes = comes })

  asks-on : (w : WorldState) (n : ℕ) → IsGoing w → Asks w → Comes w (Emit side) (emissions side n ++ later) → IsStillFrom w (world_after w (Emit side))
      → Asks (world_after w (Emit side))
  asks-on w n h (inl pending) come still =
      let old = old-still _ _ _ _ pending.place pending.content (still side) pending.old in
      inl (record { place = pending.place; content = pending.content; old = old; comes = pending.comes })
  asks-on w n h (inr (zero, inl will)) come still =
      let covers = will.covers in
      let plain = not-reset (party_of w side).endpoint covers.due covers.segment covers.is_due covers.form covers.no_rst in
      goes-out w n covers.due covers.segment covers.is_due plain (old-out w side h covers will.least will.all) come
  asks-on w n h (inr (zero, inr will)) come still =
      let p = party_of w side in
      let pair = side-pair w side h.kept in
      let live = (going-live w side h).0 in
      let knows = ap has_peer (syn-alone p (party_of w (other side)) pair live will.snd_una).0 in
      goes-out w n Syn (syn_segment p.endpoint) will.due refl (syn-old p (party_of w (other side)) pair will.due live.opened knows will.snd_una will.all) come
  asks-on w n h (inr (suc count, inl will)) come still =
      let is = still side in
      let same = emit-endpoint w side in
      let covers = subst (λ (t : State). CoversNext (after_emissions count t) (party_of w side).endpoint.sending.snd_una) (sym same) will.covers in
      inr (
        count,
        inl (record {
          covers = rw is.snd_una_of_x covers;
          least = omega (arith, will.least, is.snd_una_of_x);
          all = ap (λ (t : State). (after_emission (after_emissions count t)).sending.snd_nxt) same ∙ will.all ∙ sym is.rcv_position_of_y;
        }),
      )
  asks-on w n h (inr (suc count, inr will)) come still =
      let is = still side in
      let due = ap (λ (t : State). due_of (after_emissions count t)) (emit-endpoint w side) ∙ will.due in
      inr (count, inr (record { due = due; snd_una = is.snd_una_of_x ∙ will.snd_una; all = is.rcv_position_of_y ∙ will.all }))

  -- once nothing is due, it is pending
  asks-idle : (w : WorldState) → IsIdle w side → Asks w → IsPending w side later
  asks-idle w idle (inl pending) = pending
  asks-idle w idle (inr (count, inl will)) =
      absurd (none-some will.covers.due (sym idle ∙ ap due_of (sym (idle-stays count (party_of w side).endpoint idle)) ∙ will.covers.is_due))
  asks-idle w idle (inr (count, inr will)) =
      absurd (none-some Syn (sym idle ∙ ap due_of (sym (idle-stays count (party_of w side).endpoint idle)) ∙ will.due))

-- ---- AFTER THE TIMEOUT, and a waiting reset: the SYN goes out, or what is in flight
pub syn-after : (s : State) → is_handshake s.phase ≡ true → (n : ℕ) × (n ≤ 1) × (due_of (after_emissions n (after_retransmit s)) ≡ Some Syn)
syn-after s shakes = uncleared (λ t. due_of t ≡ Some Syn) s 0 (syn-due (cleared s) shakes refl)

covers-after : (p q : PartyState) → IsSteadyPair p q → IsLive p → sends_text p.endpoint.phase ≡ true → p.endpoint.sending.snd_una < p.endpoint.sending.snd_nxt
    → (n : ℕ) × CoversNext (after_emissions n (after_retransmit p.endpoint)) p.endpoint.sending.snd_una
    × ((after_emission (after_emissions n (after_retransmit p.endpoint))).sending.snd_nxt ≡ p.endpoint.sending.snd_nxt)
covers-after p q h live sends some =
    let s = p.endpoint in
    let snd_una = s.sending.snd_una in
    let again = again_lem (cleared s) snd_una (may-send-cleared p q h sends) (in-flight p q snd_una h live sends (omega arith) some) in
    let count = again.1.count in
    let last = ap (λ (t : State). t.sending.snd_nxt) (sym (emissions-last count (after_retransmit (cleared s)))) in
    let keeps = last ∙ (again.1.keeps (suc count) (omega arith)).snd_nxt ∙ again.0.snd_nxt in
    let out = uncleared (λ t. CoversNext t snd_una × ((after_emission t).sending.snd_nxt ≡ s.sending.snd_nxt)) s count (again.1.covers, keeps) in
    (out.0, out.2.0, out.2.1)

-- ---- ONE SIDE IS SERVED: what is old to the other goes out, and comes later; or something is brought on
pub asks : (n : ℕ) (w : WorldState) (side : Side) (later : List EventContent) → AllByRecursion IsCalm later → IsGoing w
    → (party_of w side).endpoint.sending.snd_una < rcv_position_of (party_of w (other side))
    → rcv_position_of (party_of w (other side)) ≡ (party_of w side).endpoint.sending.snd_nxt → IsIdle (world_after_all w (served side n)) side
    → AllCome w (served side n) later → NoneDiscarded (world_after_all (world_after_all w (served side n)) later)
    → Lowers w (world_after_all (world_after_all w (served side n)) later) (IsPending (world_after_all w (served side n)) side later)
asks n w side later calm h behind one idle come up =
    let p = party_of w side in
    let q = party_of w (other side) in
    let s = p.endpoint in
    let v = world_after w (Timer side Retransmit) in
    let pair = side-pair w side h.kept in
    let live = (going-live w side h).0 in
    let same = timer-endpoint w side in
    let first : IsGoing v → IsStillFrom w v → Asks side later v = λ _ still.
    let is = still side in
    elim (live-in p q pair live) [
      | inl opens ↦
          let out = syn-after s (ap is_handshake opens.0) in
          inr (
            out.0,
            inr (record {
              due = ap (λ (t : State). due_of (after_emissions out.0 t)) same ∙ out.2;
              snd_una = is.snd_una_of_x ∙ opens.1;
              all = is.rcv_position_of_y ∙ one ∙ opens.2;
            }),
          )
      | inr rest ↦ elim rest.1 [
        | inr acked ↦ absurd (omega (arith, behind, one, acked-all s acked))
        | inl sends ↦
            let out = covers-after p q pair live sends (omega (arith, behind, one)) in
            let covers = subst (λ (t : State). CoversNext (after_emissions out.0 t) s.sending.snd_una) (sym same) out.1 in
            inr (
              out.0,
              inl (record {
                covers = rw is.snd_una_of_x covers;
                least = omega (arith, rest.0, is.snd_una_of_x);
                all = ap (λ (t : State). (after_emission (after_emissions out.0 t)).sending.snd_nxt) same ∙ out.2 ∙ sym one ∙ sym is.rcv_position_of_y;
              }),
            )
      ]
    ] in
    let on : KeepsReady side later calm (Asks side later) = λ u k hu ready comes _. inr (λ _ still. asks-on side later u k hu ready comes still) in
    elim (over-served side later calm (Asks side later) on n w h first come up) [
      | inl less ↦ inl less
      | inr ready ↦ inr (asks-idle side later (world_after_all w (served side n)) idle ready)
    ]
