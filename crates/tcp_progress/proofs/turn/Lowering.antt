-- EACH TURN LEAVES LESS, while something is left.
use Rattle.tcp_replay.proofs.Words.{◌++◌, ◌<◌, ap, arith, cases_lt, EventContent, inl, inr, length, List, other, party_of, PartyState, subst, world_after_all}
use Rattle.tcp_replay.proofs.Words.{WorldState, ℕ, ◌∙◌, ◌≡◌, ◌⊎◌}
use Rattle.tcp_progress.proofs.Words.{AllCome, both_served, IsIdle, IsLive, IsSteadyPair, IsTurn, left_in, left_of_both, NoneDiscarded, reads, served, Side}
use Rattle.tcp_progress.proofs.Lemmas.{after-append, among-behind, among-left, AreStill, calm-append, calm-served, come-after, come-among, come-first}
use Rattle.tcp_progress.proofs.Lemmas.{going-live, have-read, IsGoing, reads-calm, side-left, side-pair, steps-all, steps-left, tail-calm, turn-same}
use Rattle.tcp_progress.proofs.Lemmas.{turn-tail, TurnLowers, twice}
use Rattle.tcp_progress.proofs.turn.Behind.{after_both, after_first, AreIdle, asked-first, asked-then, IsBehind, IsServed, later-calm, over-first}
use Rattle.tcp_replay.proofs.Lemmas.{one_if}
use Rattle.tcp_progress.proofs.turn.Serving.{HasMore, served-lowers}

-- ---- WHERE SOMETHING IS LEFT: one has more for the other, or what one sent is taken and not acknowledged, and nothing is on its way
abbrev What : PartyState → PartyState → Type 0
What p q = (HasMore p q ⊎ HasMore q p) ⊎ (IsBehind p q ⊎ IsBehind q p)

what-left : (p q : PartyState) → IsSteadyPair p q → IsLive p → IsLive q → 0 < left_of_both p q → What p q
what-left p q pair here there some =
    grind (arith, pair.there.sent.taken there.opened, pair.back.sent.taken here.opened, pair.pair.there.between, pair.pair.back.between, some)

-- who has more still has
more-still : (p q p' q' : PartyState) → AreStill p q p' q' → HasMore q p → HasMore q' p'
more-still p q p' q' still more =
    grind (arith, still.rcv_position_of_x, still.snd_una_of_y, still.back.snd_nxt, ap length still.back.accepted, ap one_if still.back.closed, more)

-- ---- FROM THE READS ON
module _ (first : Side) (n m : ℕ) (w : WorldState) (there back : List EventContent) (g : IsServed first n m w there back) (h : IsGoing w)
    (up : NoneDiscarded (world_after_all (after_both first n m w) (there ++ back))) where
  served-first : HasMore (party_of w first) (party_of w (other first)) → left_in (world_after_all (after_both first n m w) (there ++ back)) < left_in w
  served-first more =
      let second = served (other first) m in
      let later = there ++ back in
      let calm = calm-append second later (calm-served (other first) m) (later-calm first n m w there back g h up) in
      let joined = after-append (after_first first n w) second later in
      let come = come-among w (served first n) (second ++ there) (second ++ later) (among-behind second there later (among-left there back)) g.comes in
      subst (λ (x : WorldState). left_in x < left_in w) joined (served-lowers n w first (second ++ later) calm h more g.out come (rw joined up))

  served-then : HasMore (party_of w (other first)) (party_of w first) → left_in (world_after_all (after_both first n m w) (there ++ back)) < left_in w
  served-then more =
      let u = after_first first n w in
      let come = come-among u (served (other first) m) there (there ++ back) (among-left there back) g.then_comes in
      over-first first n m w there back g h up (λ hu still.
      let more' = more-still (party_of w first) (party_of w (other first)) (party_of u first) (party_of u (other first)) (still first) more in
      inl (served-lowers m u (other first) (there ++ back) (later-calm first n m w there back g h up) hu (rw (twice first) more') g.then_out come up))

  from-reads : left_in (world_after_all (after_both first n m w) (there ++ back)) < left_in w
  from-reads =
      let live = going-live w first h in
      elim (what-left (party_of w first) (party_of w (other first)) (side-pair w first h.kept) live.0 live.1 (omega (arith, h.some, side-left w first))) [
        | inl more ↦ elim more [ inl here ↦ served-first here | inr then ↦ served-then then ]
        | inr behind ↦ elim behind [
          | inl here ↦ asked-first first n m w there back g h up here
          | inr then ↦ asked-then first n m w there back g h up then
        ]
      ]

-- ---- A TURN, from its reads on
pub turn-served : (w : WorldState) (turn : List EventContent) (t : IsTurn w turn)
    → IsServed t.first t.count t.then_count (world_after_all w reads) t.there t.back
turn-served w turn t =
    let v = world_after_all w reads in
    let one = served t.first t.count in
    let two = served (other t.first) t.then_count in
    let both = both_served t.first t.count t.then_count in
    let after : world_after_all w (reads ++ both) ≡ after_both t.first t.count t.then_count v = after-append w reads both ∙ after-append v one two in
    let answered : world_after_all w (reads ++ (both ++ t.there)) ≡ world_after_all (after_both t.first t.count t.then_count v) t.there =
    after-append w reads (both ++ t.there) ∙ after-append v both t.there ∙ ap (λ (u : WorldState). world_after_all u t.there) (after-append v one two) in
    record {
      untimed = t.untimed;
      calm = t.calm;
      out = subst (λ (u : WorldState). IsIdle u t.first) (after-append w reads one) t.first_out;
      then_out = subst (λ (u : WorldState). IsIdle u (other t.first)) after t.then_out;
      answered = subst AreIdle answered (t.answered_a, t.answered_b);
      comes = come-first v one two t.there t.comes_there;
      then_comes = come-after v one two t.there t.comes_there;
      comes_back = subst (λ (u : WorldState). AllCome u t.there t.back) after t.comes_back;
    }

-- from the reads to the end
pub lowers_lem : TurnLowers
lowers_lem w turn h on t up some =
    let v = world_after_all w reads in
    let tail = turn-tail w turn t in
    let later = t.there ++ t.back in
    let same = turn-same w turn t in
    let end : world_after_all v tail ≡ world_after_all (after_both t.first t.count t.then_count v) later =
    after-append v (both_served t.first t.count t.then_count) later ∙ ap (λ (u : WorldState). world_after_all u later)
    (after-append v (served t.first t.count) (served (other t.first) t.then_count)) in
    let up' = subst NoneDiscarded same up in
    let steps = steps-all w reads reads-calm h in
    let rest = steps-all v tail (tail-calm w turn t) steps.kept in
    let on' = steps.on on (rest.stays up') in
    let read = have-read w h on in
    elim (cases_lt (left_in v) (left_in w)) [
      | inl less ↦ omega (arith, less, steps-left v (world_after_all v tail) rest, ap left_in same)
      | inr as_much ↦
          let going : IsGoing v = record { kept = steps.kept; on = on'; some = omega (arith, some, as_much); read = λ side. (read side).all } in
          let less = from-reads t.first t.count t.then_count v t.there t.back (turn-served w turn t) going (subst NoneDiscarded end up') in
          omega (arith, less, steps-left w v steps, ap left_in same, ap left_in end)
    ]
