-- WHAT THE TWO SYNS AGREED ON, at one end by itself: it changes only with a SYN that came, by the options of that.
use Rattle.std.proofs.Common.{◌≡◌, ℕ, List, [], ◌∷◌, refl, sym, subst, inl, inr}
use Rattle.std.specs.Prelude.{◌⊎◌, Bool, true, is_some}
use Rattle.std.proofs.lemmas.Bool.{and_parts, false≢true}
use Rattle.tcp_wire.specs.Options.{OptionContent, Nop, Mss, WindowScale, SackPermitted, Sack, Unknown}
use Rattle.tcp_wire.specs.Wire.{Content}
use Rattle.tcp_conn.specs.declared.arrive.judgement.Judgement.{Judgement}
use Rattle.tcp_conn.specs.declared.arrive.judgement.Judgement.TheVariants.{Foreign, PeerOpens, PeerAccepts, Taken, TakenShut}
use Rattle.tcp_halves.specs.Options.{shift_option, permits_sack, link_of}
use Rattle.tcp_halves.specs.declared.config.Config.{Config}
use Rattle.tcp_halves.specs.declared.link.Link.{Link}
use Rattle.tcp_halves.specs.declared.link.Peer.{Peer}
use Rattle.tcp_conn.specs.State.{State}
use Rattle.tcp_conn.specs.Judgement.{judgement}
use Rattle.tcp_conn.specs.Arrival.{after_peer_opens, after_peer_accepts, after_own_syn, after_acked_text, after_window_and_blocks, after_own_fin, after_its_ack}
use Rattle.tcp_conn.specs.Arrival.{after_its_text, after_fin, after_taking, after_taking_shut, after_judgement}
use Rattle.tcp_replay.specs.World.{PartyState}
use Rattle.tcp_replay.proofs.one_end.Judgements.{IsSyn, judged}
use Rattle.tcp_replay.proofs.pair.Calls.{KeptByCalls}
use Rattle.tcp_judge.specs.Heard.{any_scale, any_permission}
use Rattle.tcp_replay.proofs.Cases.{own_fin-cases}

-- it stays, or Q holds of it
abbrev pub Links : (Link → Type 0) → State → State → Type 0
Links Q s s' = (s'.link ≡ s.link) ⊎ Q s'.link

pub links-calls : (Q : Link → Type 0) (peer : Peer) (p : PartyState) → KeptByCalls peer p (λ p'. Links Q p.endpoint p'.endpoint)
links-calls Q peer p = let same : Links Q p.endpoint p.endpoint = inl refl in assumption

own_fin-link : (s : State) → (after_own_fin s).link ≡ s.link
own_fin-link s = own_fin-cases s (λ (x : State). x.link ≡ s.link) (λ _ _. refl) (λ _ _. refl) (λ _. refl)

its_ack-link : (s : State) (v : Content) → (after_its_ack s v).link ≡ s.link
unfolding after_its_ack after_window_and_blocks after_acked_text after_own_syn
its_ack-link s v = own_fin-link (after_window_and_blocks (after_acked_text (after_own_syn s v) v) v)

taking-link : (s : State) (v : Content) → (after_taking s v).link ≡ s.link
unfolding after_taking after_its_text after_fin
taking-link s v = its_ack-link s v

shut-link : (s : State) (v : Content) → (after_taking_shut s v).link ≡ s.link
unfolding after_taking_shut
shut-link s v = its_ack-link s v

opens-link : (s : State) (src : List ℕ) (v : Content) → (after_peer_opens s src v).link ≡ link_of s.config v.options
unfolding after_peer_opens
opens-link s src v = refl

accepts-link : (s : State) (v : Content) → (after_peer_accepts s v).link ≡ link_of s.config v.options
unfolding after_peer_accepts
accepts-link s v = refl

-- A SEGMENT ARRIVES
pub links-judgement : (Q : Link → Type 0) (s : State) (src dst : List ℕ) (v : Content) → (IsSyn v → Q (link_of s.config v.options))
    → Links Q s (after_judgement (judgement s src dst v) s src v)
links-judgement Q s src dst v came =
    let J : Judgement → Type 0 = λ j. Links Q s (after_judgement j s src v) in
    let same : J Foreign = inl refl in
    let opens : IsSyn v → J PeerOpens = λ is. inr (subst Q (sym (opens-link s src v)) (came is)) in
    let accepts : IsSyn v → J PeerAccepts = λ is. inr (subst Q (sym (accepts-link s v)) (came is)) in
    let taken : J Taken = inl (taking-link s v) in
    let shut : J TakenShut = inl (shut-link s v) in
    judged s v J (assumption) src dst

-- WHAT IS IN USE was among the options of the peer's SYN
shift-came : (options : List OptionContent) → is_some (shift_option options) ≡ true → any_scale options ≡ true
shift-came [] e = absurd (false≢true e)
shift-came (Nop ∷ options) e = shift-came options e
shift-came (Mss size ∷ options) e = shift-came options e
shift-came (WindowScale shift ∷ options) e = refl
shift-came (SackPermitted ∷ options) e = shift-came options e
shift-came (Sack blocks ∷ options) e = shift-came options e
shift-came (Unknown kind body ∷ options) e = shift-came options e

sack-came : (options : List OptionContent) → permits_sack options ≡ true → any_permission options ≡ true
sack-came [] e = absurd (false≢true e)
sack-came (Nop ∷ options) e = sack-came options e
sack-came (Mss size ∷ options) e = sack-came options e
sack-came (WindowScale shift ∷ options) e = sack-came options e
sack-came (SackPermitted ∷ options) e = refl
sack-came (Sack blocks ∷ options) e = sack-came options e
sack-came (Unknown kind body ∷ options) e = sack-came options e

-- against what was offered
pub record Offered (scaling sack : Bool) (link : Link) : Type 0 where
  pub scaling_is : link.scaling ≡ true → scaling ≡ true
  pub sack_is : link.sack ≡ true → sack ≡ true

pub offered-link : (c : Config) (options : List OptionContent) → Offered (any_scale options) (any_permission options) (link_of c options)
unfolding link_of
offered-link c options = record {
  scaling_is = λ e. shift-came options (and_parts (is_some c.window_shift) (is_some (shift_option options)) e).1;
  sack_is = λ e. sack-came options (and_parts c.sack (permits_sack options) e).1;
}
