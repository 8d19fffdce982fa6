-- WHO IS SERVED OPENS THE CONNECTION: after a turn the SYN of who calls is taken, after another that of who answers; and so all gets through.
use Rattle.tcp_replay.proofs.Words.{◌++◌, ◌+◌, ap, append_assoc, arith, EventContent, false≢true, inl, inr, List, other, party_of, subst, suc, sym}
use Rattle.tcp_replay.proofs.Words.{world_after_all, WorldState, zero, ℕ, ◌∙◌, ◌≡◌, ◌≤◌}
use Rattle.tcp_progress.proofs.Words.{A, B, GotThrough, HasTurns, HaveSyns, IsTurn, left_in, NoneDiscarded, OpensAndGetsThrough, reads, served, Side}
use Rattle.tcp_progress.proofs.Words.{WhoIsServedOpens}
use Rattle.tcp_progress.proofs.Lemmas.{after-append, all-untimed, among-behind, among-left, calm-append, calm-served, come-among, either-side, GoOn, got-through}
use Rattle.tcp_progress.proofs.Lemmas.{in-every-world, IsKept, reads-calm, side-pair, steady-back, steps-all, steps-left, steps-streams, steps-then, tail-calm}
use Rattle.tcp_progress.proofs.Lemmas.{turn-calm, turn-same, turns-calm, twice}
use Rattle.tcp_progress.proofs.handshake.KeepsOpening.{caller, IsOn, IsPassive, IsShaking, on-all}
use Rattle.tcp_progress.proofs.handshake.SynServed.{IsHeard, served-heard}
use Rattle.tcp_progress.proofs.handshake.SynTaken.{answering, unopened-listen}
use Rattle.tcp_progress.proofs.turn.Behind.{IsServed}
use Rattle.tcp_progress.proofs.turn.Lowering.{lowers_lem, turn-served}

-- ---- IN A TURN the SYN of each side that has sent it is taken: from the reads on
served-in : (first : Side) (n m : ℕ) (w : WorldState) (there back : List EventContent) (from side : Side) → IsServed first n m w there back → IsKept w
    → IsOn from w → 1 ≤ (party_of w side).endpoint.sending.snd_nxt
    → NoneDiscarded (world_after_all w (served first n ++ (served (other first) m ++ (there ++ back))))
    → IsHeard (world_after_all w (served first n ++ (served (other first) m ++ (there ++ back)))) side
served-in first n m w there back from side g h on sent up =
    let one = served first n in
    let two = served (other first) m in
    let later = there ++ back in
    let v = world_after_all w one in
    let calm = calm-append there back (all-untimed there g.untimed) g.calm in
    let calm' = calm-append two later (calm-served (other first) m) calm in
    let among = among-left there back in
    let same = after-append w one (two ++ later) in
    let up' = subst NoneDiscarded same up in
    let steps = steps-all w one (calm-served first n) h in
    let on' = on-all w one from (calm-served first n) h on ((steps-all v (two ++ later) calm' steps.kept).stays up') in
    let Taken : Side → Type 0 = λ side.
    1 ≤ (party_of w side).endpoint.sending.snd_nxt → IsHeard (world_after_all w (one ++ (two ++ later))) side in
    let then_sent = λ (sent : 1 ≤ (party_of w (other first)).endpoint.sending.snd_nxt).
    served-heard m v from (other first) later calm steps.kept on' (omega (arith, sent, (steps.grows (other first)).snd_nxt)) g.then_out
    (come-among v two there later among g.then_comes) up' in
    either-side first side Taken
    (λ sent. served-heard n w from first (two ++ later) calm' h on sent g.out (come-among w one (two ++ there) (two ++ later) (among-behind two there later among)
    g.comes) up)
    (λ sent. rw same (then_sent sent)) sent

turn-heard : (w : WorldState) (turn : List EventContent) (from side : Side) → IsTurn w turn → IsKept w → IsOn from w
    → 1 ≤ (party_of w side).endpoint.sending.snd_nxt → NoneDiscarded (world_after_all w turn) → IsHeard (world_after_all w turn) side
turn-heard w turn from side t h on sent up =
    let one = served t.first t.count in
    let two = served (other t.first) t.then_count in
    let v = world_after_all w reads in
    let form = append_assoc one two (t.there ++ t.back) in
    let same : world_after_all w turn ≡ world_after_all v (one ++ (two ++ (t.there ++ t.back))) = turn-same w turn t ∙ ap (world_after_all v) form in
    let up' = subst NoneDiscarded (turn-same w turn t) up in
    let steps = steps-all w reads reads-calm h in
    let on' = on-all w reads from reads-calm h on ((steps-all v _ (tail-calm w turn t) steps.kept).stays up') in
    subst (λ (x : WorldState). IsHeard x side) (sym same) (served-in t.first t.count t.then_count v t.there t.back from side (turn-served w turn t) steps.kept
    on' (omega (arith, sent, (steps.grows side).snd_nxt)) (subst NoneDiscarded same up))

-- ---- AND SO ALL GETS THROUGH
abbrev Through : WorldState → WorldState → Type 0
Through w end = HaveSyns end × GotThrough w end

on-through : (k : ℕ) (w : WorldState) (events : List EventContent) → IsKept w → GoOn w.a w.b → left_in w ≤ k → HasTurns (suc k) w events
    → NoneDiscarded (world_after_all w events) → Through w (world_after_all w events)
on-through k w events h on most turns up =
    let steps = steps-all w events (turns-calm (suc k) w events turns) h in (
      record { a = (steps.grows A).opened on.there.opened; b = (steps.grows B).opened on.back.opened },
      got-through lowers_lem k w events most h on turns up,
    )

-- what is known where so many turns more open the connection
abbrev IsKnown : ℕ → Side → WorldState → Type 0
IsKnown zero from w = IsShaking w from → ⊥
IsKnown (suc zero) from w = IsHeard w from
IsKnown (suc (suc m)) from w = Unit {0}

-- of who answers the SYN is sent once it has heard
answers-sent : (w : WorldState) (from : Side) → IsKept w → IsPassive (party_of w (other from)).endpoint.phase → IsHeard w from
    → 1 ≤ (party_of w (other from)).endpoint.sending.snd_nxt
answers-sent w from h (inl listens) heard =
    let unused = unopened-listen _ _ (steady-back _ _ (side-pair w from h)) listens in
    absurd (false≢true (sym unused.1.not_opened ∙ heard))
answers-sent w from h (inr received) heard = omega (arith, (answering _ _ (steady-back _ _ (side-pair w from h)) received).1.snd_nxt_is)

-- who speaks in the first of them, and what is known then
record SpeaksFirst (m : ℕ) (w : WorldState) (from : Side) : Type 0 where
  side : Side
  sent : 1 ≤ (party_of w side).endpoint.sending.snd_nxt
  known : (v : WorldState) → IsHeard v side → IsKnown m from v

speaks-first : (m : ℕ) (w : WorldState) (from : Side) → IsShaking w from → IsKnown (suc m) from w → SpeaksFirst m w from
speaks-first zero w from h heard = record {
  side = other from;
  sent = answers-sent w from h.kept h.answers heard;
  known = λ v had shakes. false≢true (sym (caller v from shakes).1 ∙ rw (twice from) at had);
}
speaks-first (suc zero) w from h known = record { side = from; sent = omega (arith, (caller w from h).2); known = λ v had. had }
speaks-first (suc (suc m)) w from h known = record { side = from; sent = omega (arith, (caller w from h).2); known = λ v had. tt }

opens-through : (m n : ℕ) (w : WorldState) (events : List EventContent) (from : Side) → IsKept w → IsOn from w → IsKnown m from w → m + left_in w ≤ n
    → HasTurns (suc n) w events → NoneDiscarded (world_after_all w events) → Through w (world_after_all w events)
opens-through m n w events from h (inl on) known most turns up = on-through n w events h on (omega (arith, most)) turns up
opens-through zero n w events from h (inr shakes) known most turns up = absurd (known shakes)
opens-through (suc m) zero w events from h (inr shakes) known most turns up = absurd (omega (arith, most))
opens-through (suc m) (suc n) w events from h (inr shakes) known most turns up =
    let before = turns.0 in
    let turn = turns.1 in
    let after = turns.2 in
    let t = turns.5 in
    let v = world_after_all w before in
    let u = world_after_all v turn in
    let same : world_after_all w events ≡ world_after_all u after =
    ap (world_after_all w) turns.3 ∙ after-append w before (turn ++ after) ∙ after-append v turn after in
    let steps = steps-all w before turns.4 h in
    let steps' = steps-all v turn (turn-calm v turn t) steps.kept in
    let rest = steps-all u after (turns-calm (suc n) u after turns.6) steps'.kept in
    let end = subst NoneDiscarded same up in
    let up' = rest.stays end in
    let on_v = on-all w before from turns.4 h (inr shakes) (steps'.stays up') in
    let on_u = on-all v turn from (turn-calm v turn t) steps.kept on_v up' in
    let first = speaks-first m w from shakes known in
    let heard = turn-heard v turn from first.side t steps.kept on_v (omega (arith, first.sent, (steps.grows first.side).snd_nxt)) up' in
    let both = steps-then w v u steps steps' in
    let through = opens-through m n u after from steps'.kept on_u (first.known u heard) (omega (arith, most, steps-left w u both)) turns.6 end in
    let streams = steps-streams w _ (steps-then w u _ both rest) in
    subst (Through w) (sym same) (through.0, record { there = through.1.there; back = through.1.back; streams = streams; settles = through.1.settles })

pub opens-and : (w : WorldState) → IsKept w → OpensAndGetsThrough w
opens-and w h (inl opening) events turns up =
    let shakes : IsShaking w A = record { kept = h; calls = opening.calls; answers = opening.answers } in
    opens-through 2 (suc (suc (left_in w))) w events A h (inr shakes) tt (omega arith) turns up
opens-and w h (inr opening) events turns up =
    let shakes : IsShaking w B = record { kept = h; calls = opening.calls; answers = opening.answers } in
    opens-through 2 (suc (suc (left_in w))) w events B h (inr shakes) tt (omega arith) turns up

-- in every world
pub opens_lem : WhoIsServedOpens
opens_lem = in-every-world OpensAndGetsThrough opens-and
