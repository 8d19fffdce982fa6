-- The TIME-WAIT record in the place of an end does as the end does.
use Rattle.std.proofs.Common.{◌≡◌, ℕ, ◌-◌, ◌%◌, ◌^◌, ◌<◌, List, [], ◌∷◌, refl, ap, ◌∙◌, arith}
use Rattle.std.specs.Prelude.{Bool, true, false, ◌||◌, ◌&&◌, not, if◌then◌else◌, nat_lt, nat_le}
use Rattle.std.proofs.lemmas.Bool.Decides.{nat_tests}
use Rattle.tcp_numbers.specs.Position.{number, distance, is_before, near, natural_of, position_of}
use Rattle.tcp_numbers.proofs.Positions.{position_of_later}
use Rattle.tcp_wire.specs.Wire.{Content}
use Rattle.tcp_conn.specs.declared.phase.Phase.TheVariants as phases
use Rattle.tcp_conn.specs.Arrival.{after_acked_text, after_fin, after_its_ack, after_its_text, after_own_fin, after_own_syn, after_taking, after_taking_shut, after_window_and_blocks, blocks_used, is_current, with_ack_pending_unless_closed, with_window_and_blocks}
use Rattle.tcp_halves.specs.Marks.{after_block, after_blocks, marks_text}
use Rattle.tcp_conn.specs.Judgement.{position_near}
use Rattle.tcp_conn.specs.Phase.{is_closed}
use Rattle.tcp_conn.specs.TimeWait.{TimeWaitRecord, as_state, time_wait_of}
use Rattle.tcp_halves.specs.Sender.{after_ack, after_window_update, is_fin_acked, is_newer, with_acked}
use Rattle.tcp_halves.specs.Sender.{Sending}
use Rattle.tcp_conn.specs.State.{State}
use Rattle.tcp_conn.specs.Windows.{window_from}

-- NUMBERS
pub number-kept : (n : ℕ) → n < 2 ^ 32 → number n 0 ≡ n
number-kept n fits = omega arith

pub window-kept : (n : ℕ) → n - 0 ≡ n
window-kept n = omega arith

pub kept : (r : TimeWaitRecord) → r.snd_nxt < 2 ^ 32 → time_wait_of (as_state r) ≡ r
kept r fits = rw (number-kept r.snd_nxt fits, window-kept r.window) refl

-- where all that was sent is acknowledged, an acknowledgement is of what wasn't sent exactly where its number is after
-- SND.NXT
pub unsent-number : (iss snd_nxt w : ℕ) → iss < 2 ^ 32 → nat_lt snd_nxt (position_of iss snd_nxt w) ≡ is_before (number iss snd_nxt) w
unfolding position_of
unsent-number iss snd_nxt w fits =
    let same : distance iss w ≡ distance iss (w % 2 ^ 32) = omega arith in
    let from : distance (number iss snd_nxt) (w % 2 ^ 32) ≡ distance (number iss snd_nxt) w = omega arith in
    ap (λ d. nat_lt snd_nxt (natural_of (near snd_nxt d))) same ∙ position_of_later iss snd_nxt (w % 2 ^ 32) fits (omega arith)
    ∙ ap (λ d. nat_lt 0 d && nat_lt d (2 ^ 31)) from

-- AN ACKNOWLEDGEMENT IN TIME-WAIT changes nothing that the record keeps
pub if-same : {A : Type 0} (b : Bool) (x : A) → (if b then x else x) ≡ x
if-same true x = refl
if-same false x = refl

pub or-false : (b : Bool) → b || false ≡ b
or-false true = refl
or-false false = refl

and-true : (b : Bool) → b && true ≡ b
and-true true = refl
and-true false = refl

-- the positions that the sending half keeps
abbrev pub Keeps : Sending → Sending → Type 0
Keeps s s' = (s'.snd_una ≡ s.snd_una) × (s'.snd_nxt ≡ s.snd_nxt)

keeps-if : (b : Bool) (s x y : Sending) → Keeps s x → Keeps s y → Keeps s (if b then x else y)
keeps-if true s x y hx hy = hx
keeps-if false s x y hx hy = hy

block-keeps : (s : Sending) (left right : ℕ) → Keeps s (after_block s left right)
unfolding after_block
block-keeps s left right = keeps-if (marks_text s left right) s _ s (refl, refl) (refl, refl)

blocks-keep : (iss : ℕ) (s : Sending) (blocks : List (ℕ × ℕ)) → Keeps s (after_blocks iss s blocks)
blocks-keep iss s [] = (refl, refl)
blocks-keep iss s (block ∷ blocks) =
    let one = block-keeps s (position_of iss s.snd_una block.0) (position_of iss s.snd_una block.1) in
    let rest = blocks-keep iss (after_block s (position_of iss s.snd_una block.0) (position_of iss s.snd_una block.1)) blocks in
    (rest.0 ∙ one.0, rest.1 ∙ one.1)

window-keeps : (s : Sending) (seq ack window : ℕ) → Keeps s (after_window_update s seq ack window)
unfolding after_window_update
window-keeps s seq ack window = keeps-if (is_newer s seq ack) s _ s (refl, refl) (refl, refl)

pub window_and_blocks-keep : (s : State) (v : Content) → Keeps s.sending (after_window_and_blocks s v).sending
unfolding after_window_and_blocks
window_and_blocks-keep s v =
    let update = after_window_update s.sending v.seq v.ack (window_from s.link v.window) in
    let updated = window-keeps s.sending v.seq v.ack (window_from s.link v.window) in
    let marked = blocks-keep s.config.isn.0 update (blocks_used s v) in
    keeps-if (is_current s v) s.sending (with_window_and_blocks s v) s.sending (marked.0 ∙ updated.0, marked.1 ∙ updated.1) (refl, refl)

none-more : (snd_una snd_nxt ack : ℕ) → snd_una ≡ snd_nxt → nat_lt snd_una ack && nat_le ack snd_nxt ≡ false
none-more snd_una snd_nxt ack e = grind (arith, nat_tests, e)

-- where all that was sent is acknowledged nothing is released
acked-text : (s : State) (v : Content) → s.sending.snd_una ≡ s.sending.snd_nxt → after_acked_text s v ≡ s
unfolding after_acked_text after_ack
acked-text s v e = ap (λ b. record s { sending = if b then with_acked s.sending (position_near s v.ack) else s.sending }) (none-more s.sending.snd_una s.sending.snd_nxt (position_near s v.ack) e)

own-syn : (s : State) (v : Content) → s.phase ≡ phases.TimeWait → after_own_syn s v ≡ s
unfolding after_own_syn
own-syn s v waits = rw (waits, and-true s.pending.syn) refl

own-fin : (s : State) → s.phase ≡ phases.TimeWait → after_own_fin s ≡ s
unfolding after_own_fin
own-fin s waits = rw waits (if-same (is_fin_acked s.sending) (record s { phase = phases.TimeWait }))

its-text : (s : State) (v : Content) → s.phase ≡ phases.TimeWait → after_its_text s v ≡ s
unfolding after_its_text
its-text s v waits = rw (waits, or-false s.pending.ack) refl

its-fin : (s : State) (v : Content) → s.phase ≡ phases.TimeWait → after_fin s v ≡ s
unfolding after_fin
its-fin s v waits = rw (waits, or-false s.pending.ack) refl

pub window_and_blocks-phase : (s : State) (v : Content) → (after_window_and_blocks s v).phase ≡ s.phase
unfolding after_window_and_blocks
window_and_blocks-phase s v = refl

pub its-ack : (s : State) (v : Content) → s.phase ≡ phases.TimeWait → s.sending.snd_una ≡ s.sending.snd_nxt → after_its_ack s v ≡ after_window_and_blocks s v
unfolding after_its_ack
its-ack s v waits acked =
    ap (λ s'. after_own_fin (after_window_and_blocks (after_acked_text s' v) v)) (own-syn s v waits)
    ∙ ap (λ s'. after_own_fin (after_window_and_blocks s' v)) (acked-text s v acked)
    ∙ own-fin (after_window_and_blocks s v) (window_and_blocks-phase s v ∙ waits)

pub taking : (s : State) (v : Content) → s.phase ≡ phases.TimeWait → s.sending.snd_una ≡ s.sending.snd_nxt → after_taking s v ≡ after_window_and_blocks s v
unfolding after_taking
taking s v waits acked =
    ap (λ s'. after_fin (after_its_text s' v) v) (its-ack s v waits acked)
    ∙ ap (λ s'. after_fin s' v) (its-text (after_window_and_blocks s v) v (window_and_blocks-phase s v ∙ waits))
    ∙ its-fin (after_window_and_blocks s v) v (window_and_blocks-phase s v ∙ waits)

pub window_and_blocks-time_wait : (s : State) (v : Content) → time_wait_of (after_window_and_blocks s v) ≡ time_wait_of s
unfolding after_window_and_blocks
window_and_blocks-time_wait s v = ap (λ n. record (time_wait_of s) { snd_nxt = number s.config.isn.0 n }) (window_and_blocks-keep s v).1

pub taken : (s : State) (v : Content) → s.phase ≡ phases.TimeWait → s.sending.snd_una ≡ s.sending.snd_nxt → time_wait_of (after_taking s v) ≡ time_wait_of s
taken s v waits acked = ap time_wait_of (taking s v waits acked) ∙ window_and_blocks-time_wait s v

abbrev pub with-ack : TimeWaitRecord → TimeWaitRecord
with-ack r = record r { ack = true }

or-true : (b : Bool) → b || true ≡ true
or-true true = refl
or-true false = refl

pub taken-shut : (s : State) (v : Content) → s.phase ≡ phases.TimeWait → s.sending.snd_una ≡ s.sending.snd_nxt
    → time_wait_of (after_taking_shut s v) ≡ with-ack (time_wait_of s)
unfolding after_taking_shut
taken-shut s v waits acked =
    ap (λ s'. time_wait_of (with_ack_pending_unless_closed s')) (its-ack s v waits acked)
    ∙ ap (λ b. record (time_wait_of (after_window_and_blocks s v)) { ack = b }) (ap (λ phase. (after_window_and_blocks s v).pending.ack || not (is_closed phase)) (window_and_blocks-phase s v ∙ waits) ∙ or-true (after_window_and_blocks s v).pending.ack)
    ∙ ap with-ack (window_and_blocks-time_wait s v)
