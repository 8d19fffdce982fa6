-- WHAT AN END REPORTS came: each byte that it keeps out of order did.
use Rattle.std.proofs.Common.{◌≡◌, ℕ, zero, suc, ◌+◌, ◌-◌, ◌^◌, ◌<◌, ◌≤◌, length, List, [], ◌∷◌, ◌++◌, refl, ap, subst, arith, Option, Some, None, Bool}
use Rattle.std.proofs.Common.{true, false, not, map}
use Rattle.std.specs.Prelude.{◌&&◌, ◌||◌, if◌then◌else◌, is_some}
use Rattle.std.specs.List.{AllByRecursion}
use Rattle.std.proofs.lemmas.Bool.{and_from, cond_both, false≢true, lt-ltb, or_right}
use Rattle.tcp_numbers.specs.declared.seq.Seq.{Seq}
use Rattle.tcp_wire.specs.Options.{Mss}
use Rattle.tcp_wire.specs.Position.{number, distance}
use Rattle.tcp_reasm.specs.Reassembly.{Cell, Run, max_capacity, blocks}
use Rattle.tcp_reasm.specs.Laws.{IsHeld, IsMaximal}
use Rattle.tcp_conn.specs.declared.emit.due.Due.{Due}
use Rattle.tcp_conn.specs.declared.emit.due.Due.TheVariants.{Reset, Syn}
use Rattle.tcp_conn.specs.State.{State}
use Rattle.tcp_conn.specs.Blocks.{block_numbers, blocks_to_report, sack_options}
use Rattle.tcp_halves.specs.declared.link.WaitingReset.{WaitingReset}
use Rattle.tcp_conn.specs.Forms.{segment_of, plain_segment, syn_segment, shift_offered, is_sack_offered, scale_options, permission_options}
use Rattle.tcp_conn.specs.Forms.{waiting_segment}
use Rattle.tcp_wire.specs.Wire.{Content}
use Rattle.tcp_conn.specs.Phase.{discards}
use Rattle.tcp_replay.specs.Alone.{IsAlone}
use Rattle.tcp_replay.proofs.one_end.AloneEmissions.{GoesOutAlone}
use Rattle.tcp_replay.proofs.one_end.Feeds.{AllHeld, ByNumber}
use Rattle.tcp_replay.proofs.hints.Hints.{blocks-all}
use Rattle.tcp_judge.proofs.PeerNotDiscarded.{not-gone}
use Rattle.tcp_judge.specs.Heard.{Heard, has_come, goes_on, is_from, acked_number_after}
use Rattle.tcp_judge.specs.Reports.{is_ahead, any_report, lacks_permission, block_finding, options_finding}
use Rattle.tcp_judge.specs.Rules.{report_finding}
use Rattle.tcp_judge.specs.declared.finding.Finding.TheVariants.{Unpermitted}
use Rattle.tcp_judge.proofs.Numbers.{positions-came}
use Rattle.tcp_judge.proofs.Streams.{none-found, unless}
use Rattle.tcp_judge.proofs.Links.{Offered}

-- what is kept out of order came, by its numbers
abbrev pub KeptCame : List (Seq × ℕ) → ℕ → List (Option Cell) → Type 0
KeptCame spans next held = AllHeld (ByNumber (λ n byte. has_come spans n ≡ true) next) 0 held

held-at : (P : ℕ → ℕ → Type 0) (from place n : ℕ) (held : List (Option Cell)) → n ≡ from + place → IsHeld held place → AllHeld P from held
    → (byte : ℕ) × P n byte
held-at P from place n [] e is h = absurd (cc)
held-at P from zero n (None ∷ held) e is h = absurd (cc)
held-at P from zero n (Some cell ∷ held) e is h = (cell.byte, subst (λ (k : ℕ). P k cell.byte) (omega (arith, e)) h.0)
held-at P from (suc place) n (None ∷ held) e is h = held-at P (suc from) place n held (omega (arith, e)) is h
held-at P from (suc place) n (Some cell ∷ held) e is h = held-at P (suc from) place n held (omega (arith, e)) is h.1

-- A RUN is of numbers that came, and within what is held
abbrev BlockCame : List (Seq × ℕ) → ℕ × ℕ → Type 0
BlockCame spans block = (is_from block.0 block.1 ≡ true) × (goes_on spans block.0 block.1 ≡ true)

held-within : (held : List (Option Cell)) (place : ℕ) → IsHeld held place → place < length held
held-within [] place is = absurd (cc)
held-within (first ∷ held) zero is = omega arith
held-within (None ∷ held) (suc place) is = omega (arith, held-within held place is)
held-within (Some cell ∷ held) (suc place) is = omega (arith, held-within held place is)

run-came : (spans : List (Seq × ℕ)) (next : ℕ) (held : List (Option Cell)) (run : Run) → length held ≤ max_capacity → KeptCame spans next held
    → IsMaximal held run → BlockCame spans (number next run.from, number next run.to)
run-came spans next held run small came is =
    let last : run.to - 1 < length held = held-within held (run.to - 1) (is.inside (run.to - 1) (omega (arith, is.some)) (omega (arith, is.some))) in
    let size : distance (number next run.from) (number next run.to) < 2 ^ 31 = omega (arith, is.some, last, small) in (
      lt-ltb (distance (number next run.from) (number next run.to)) (2 ^ 31) size,
      positions-came spans next run.from run.to (omega (arith, is.some))
          (λ p from below. (held-at (ByNumber (λ n byte. has_come spans n ≡ true) next) 0 p p held (omega arith) (is.inside p from below) came).1),
    )

-- AND THE RUNS that are reported
blocks-came : (s : State) (spans : List (Seq × ℕ)) → length s.receiving.inbox.held ≤ max_capacity → KeptCame spans s.receiving.rcv_nxt s.receiving.inbox.held
    → AllByRecursion (BlockCame spans) (map (block_numbers s.receiving.rcv_nxt) (blocks s.receiving.inbox))
blocks-came s spans small came =
    blocks-all (BlockCame spans) s.receiving (λ run is. run-came spans s.receiving.rcv_nxt s.receiving.inbox.held run small came is)

none-beyond : (acked_number : Option Seq) (spans : List (Seq × ℕ)) (list : List (ℕ × ℕ)) → AllByRecursion (BlockCame spans) list
    → block_finding acked_number spans list ≡ None
none-beyond acked_number spans [] h = refl
none-beyond acked_number spans (block ∷ list) h =
    let acked_or_came = or_right (not (is_ahead acked_number block)) (goes_on spans block.0 block.1) h.0.1 in
    rw (and_from (is_from block.0 block.1) (not (is_ahead acked_number block) || goes_on spans block.0 block.1) h.0.0 acked_or_came) (none-beyond acked_number spans list h.1)

none-in_options : (acked_number : Option Seq) (spans : List (Seq × ℕ)) (list : List (ℕ × ℕ)) → block_finding acked_number spans list ≡ None
    → options_finding acked_number spans (sack_options list) ≡ None
none-in_options acked_number spans [] h = refl
none-in_options acked_number spans (block ∷ list) h = rw h refl

-- they are reported where it was agreed
in-use : (sack : Bool) (list : List (ℕ × ℕ)) → any_report (sack_options (if sack then list else [])) ≡ true → sack ≡ true
in-use true list e = refl
in-use false list e = absurd (false≢true e)

syn-reports : (mss : ℕ) (shift : Option ℕ) (sack : Bool) → any_report (Mss mss ∷ (scale_options shift ++ permission_options sack)) ≡ false
syn-reports mss None true = refl
syn-reports mss None false = refl
syn-reports mss (Some n) true = refl
syn-reports mss (Some n) false = refl

syn-beyond : (acked_number : Option Seq) (spans : List (Seq × ℕ)) (mss : ℕ) (shift : Option ℕ) (sack : Bool)
    → options_finding acked_number spans (Mss mss ∷ (scale_options shift ++ permission_options sack)) ≡ None
syn-beyond acked_number spans mss None true = refl
syn-beyond acked_number spans mss None false = refl
syn-beyond acked_number spans mss (Some n) true = refl
syn-beyond acked_number spans mss (Some n) false = refl

report-none : (h : Heard) (v : Content) → lacks_permission h v ≡ false → options_finding (acked_number_after h v) h.spans v.options ≡ None
    → report_finding h v ≡ None
report-none h v permitted came = rw (none-found (lacks_permission h v) Unpermitted permitted) came

plain-report : (s : State) (h : Heard) (due : Due) → Offered h.scaling h.sack s.link → length s.receiving.inbox.held ≤ max_capacity
    → KeptCame h.spans s.receiving.rcv_nxt s.receiving.inbox.held → report_finding h (plain_segment s due) ≡ None
plain-report s h due offered small came =
    let list = map (block_numbers s.receiving.rcv_nxt) (blocks s.receiving.inbox) in
    let acked_number = acked_number_after h (plain_segment s due) in
    report-none h (plain_segment s due)
    (unless (any_report (sack_options (blocks_to_report s))) (not h.sack) (λ is. ap not (offered.sack_is (in-use s.link.sack list is))))
    (none-in_options acked_number h.spans (blocks_to_report s)
    (cond_both s.link.sack list [] (λ (list : List (ℕ × ℕ)). block_finding acked_number h.spans list ≡ None)
    (λ _. none-beyond acked_number h.spans list (blocks-came s h.spans small came)) (λ _. refl)))

waiting-report : (s : State) (h : Heard) (waiting : Option WaitingReset) → is_some waiting ≡ true → report_finding h (waiting_segment s waiting) ≡ None
waiting-report s h None e = absurd (cc)
waiting-report s h (Some reset) e = refl

-- an end that gave up reports nothing
pub due-report : (s : State) (accepted : List ℕ) (closed : Bool) (h : Heard) (due : Due) → GoesOutAlone s accepted closed due → IsAlone s accepted closed
    → Offered h.scaling h.sack s.link → length s.receiving.inbox.held ≤ max_capacity
    → (discards s.ending ≡ false → KeptCame h.spans s.receiving.rcv_nxt s.receiving.inbox.held)
    → report_finding h (segment_of s due) ≡ None
unfolding segment_of
due-report s accepted closed h Reset out a offered small came = waiting-report s h s.pending.reset out.kind
due-report s accepted closed h Syn out a offered small came =
    report-none h (syn_segment s)
    (ap (λ b. b && not h.sack) (syn-reports s.config.mss (shift_offered s) (is_sack_offered s)))
    (syn-beyond (acked_number_after h (syn_segment s)) h.spans s.config.mss (shift_offered s) (is_sack_offered s))
due-report s accepted closed h other out a offered small came = plain-report s h other offered small (came (not-gone s accepted closed out.kind.knows a))
