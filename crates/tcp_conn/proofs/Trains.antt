-- So many segments of new text as one: the device makes of them what so many emissions would have written.
use Rattle.std.proofs.Common.{◌≡◌, ℕ, zero, suc, ◌+◌, ◌-◌, ◌*◌, ◌/◌, ◌<◌, ◌≤◌, ◌⊎◌, inl, inr, min, max, refl, sym, ◌∙◌, ap, subst, arith}
use Rattle.std.proofs.Common.{List, [], ◌∷◌, length, take, drop, map, length-take, length-take-le, length-drop, take-take, drop-drop}
use Rattle.std.proofs.Common.{mul-le-mul_right, div-mul-le_self}
use Rattle.std.proofs.lemmas.Bool.{cases_lt}
use Rattle.std.proofs.lemmas.Bool.Decides.{nat_tests}
use Rattle.std.proofs.lemmas.List.{drop-take}
use Rattle.std.proofs.lemmas.Nat.{div-mul-add}
use Rattle.std.specs.Prelude.{Bool, true, false, ◌==◌, if◌then◌else◌, Option, Some, None, option_map}
use Rattle.std.specs.Option.{option_or}
use Rattle.std.specs.declared.ops.Range.{Range}
use Rattle.tcp_wire.specs.Flags.{ack, fin, psh}
use Rattle.tcp_wire.specs.Position.{number}
use Rattle.tcp_wire.specs.Wire.{Content, encoded_bytes}
use Rattle.tcp_sendq.specs.SendQueue.{next_unmarked}
use Rattle.tcp_halves.specs.declared.link.WaitingReset.{WaitingReset}
use Rattle.tcp_halves.specs.declared.sent.Sent.{Sent}
use Rattle.tcp_halves.specs.declared.sent.Sent.TheVariants.{NewText, Resend, Fin, ResentFin}
use Rattle.tcp_halves.specs.Sender.{Sending, count_unsent, place_of}
use Rattle.tcp_halves.specs.Sent.{count_allowed, fin_of, new_count, new_text_of, pushes, resend_of, resent_run, usable_window}
use Rattle.tcp_conn.specs.declared.emit.due.Due.{Due}
use Rattle.tcp_conn.specs.declared.emit.due.Due.TheVariants.{Reset, Syn, Text, Acknowledgement}
use Rattle.tcp_conn.specs.State.{State}
use Rattle.tcp_conn.specs.Phase.{sends_text}
use Rattle.tcp_conn.specs.Due.{ack_due, count_of, due_of, reset_due, sent_due, start_of, syn_due, text_due, text_limit}
use Rattle.tcp_conn.specs.Transmission.{kind_of}
use Rattle.tcp_conn.specs.Emission.{after_emission, emitted_bytes, state_after}
use Rattle.tcp_conn.specs.Forms.{plain_segment, segment_of, waiting_segment}
use Rattle.tcp_conn.specs.Writing.{bytes_of, destination_of}
use Rattle.tcp_conn.specs.Train.{after_emissions, as_one, behind, count_for, count_of_due, count_together, count_with_room, cut, cut_off, emissions, piece}
use Rattle.tcp_conn.specs.Train.{segments_of_due, text_allowed, train_count, train_segments, without_bit}

-- WHERE NEW TEXT IS DUE: nothing that comes before it, and so much is allowed
pub record MaySendNew (s : State) : Type 0 where
  pub reset : s.pending.reset ≡ None
  pub syn : s.pending.syn ≡ false
  pub phase : sends_text s.phase ≡ true
  pub none : resend_of s.sending (text_limit s) s.sending.resend ≡ None

pub record IsNewText (s : State) (start each : ℕ) : Type 0 where
  pub may : MaySendNew s
  pub at : start ≡ s.sending.snd_nxt
  pub count : each ≡ new_count s.sending (text_limit s) s.pending.probe
  pub some : 0 < each

-- the first of two that may be due, where the other isn't it
next-of : {A : Type 0} (o other : Option A) (x : A) → (o ≡ Some x → ⊥) → option_or o other ≡ Some x → (o ≡ None) × (other ≡ Some x)
next-of None other x not-first e = (refl, e)
next-of (Some y) other x not-first e = absurd (not-first e)

first-of : {A : Type 0} (o other : Option A) (x : A) → (other ≡ Some x → ⊥) → option_or o other ≡ Some x → o ≡ Some x
first-of None other x not-other e = absurd (not-other e)
first-of (Some y) other x not-other e = e

no-reset : (o : Option WaitingReset) → reset_due o ≡ None → o ≡ None
no-reset None e = refl
no-reset (Some reset) e = absurd (cc)

not-text : (o : Option WaitingReset) (sent : Sent) → reset_due o ≡ Some (Text sent) → ⊥
not-text None sent e = cc
not-text (Some reset) sent e = cc

if-some : {A : Type 0} (b : Bool) (o : Option A) (x : A) → (if b then o else None) ≡ Some x → (b ≡ true) × (o ≡ Some x)
if-some true o x e = (refl, e)
if-some false o x e = absurd (cc)

if-none : {A : Type 0} (b : Bool) (x : A) → (if b then Some x else None) ≡ None → b ≡ false
if-none true x e = absurd (cc)
if-none false x e = refl

no-syn : (b : Bool) (sent : Sent) → (if b then Some Syn else None) ≡ Some (Text sent) → ⊥
no-syn true sent e = cc
no-syn false sent e = cc

no-ack : (b : Bool) (sent : Sent) → (if b then Some Acknowledgement else None) ≡ Some (Text sent) → ⊥
no-ack true sent e = cc
no-ack false sent e = cc

sent-in : (o : Option Sent) (sent : Sent) → option_map Text o ≡ Some (Text sent) → o ≡ Some sent
sent-in None sent e = absurd (cc)
sent-in (Some other) sent e = cc

if-sent : (b : Bool) (x y : Sent) → (if b then Some x else None) ≡ Some y → x ≡ y
if-sent true x y e = cc
if-sent false x y e = absurd (cc)

none-again : (s : Sending) (limit start each : ℕ) (range : Option (Range ℕ)) → resend_of s limit range ≡ Some (NewText start each) → ⊥
unfolding resend_of
none-again s limit start each None e = cc
none-again s limit start each (Some range) e = in-run (next_unmarked s.queue (place_of s (max range.start s.snd_una))) e where
  in-run : (run : Option (ℕ × ℕ)) → resent_run s limit range run ≡ Some (NewText start each) → ⊥
  in-run None e = let same = if-sent _ _ _ e in cc
  in-run (Some run) e = let same = if-sent _ _ _ e in cc

no-fin : (s : Sending) (closing : Bool) (start each : ℕ) → fin_of s closing ≡ Some (NewText start each) → ⊥
no-fin s closing start each e = let same = if-sent _ _ _ e in cc

new-text : (s : Sending) (limit start each : ℕ) (probe : Bool) → new_text_of s limit probe ≡ Some (NewText start each)
    → (start ≡ s.snd_nxt) × (each ≡ new_count s limit probe) × (0 < each)
unfolding new_text_of
new-text s limit start each probe e = new-if (new_count s limit probe) e where
  new-if : (k : ℕ) → (if k == 0 then None else Some (NewText s.snd_nxt k)) ≡ Some (NewText start each) → (start ≡ s.snd_nxt) × (each ≡ k) × (0 < each)
  new-if zero e = absurd (cc)
  new-if (suc k) e =
      let test : (suc k == 0) ≡ false = grind (arith, nat_tests) in
      let is : Some (NewText s.snd_nxt (suc k)) ≡ Some (NewText start each) = rw test at e in
      let at : start ≡ s.snd_nxt = cc is in
      let count : each ≡ suc k = cc is in
      (at, count, omega arith)

pub is_new_text : (s : State) (start each : ℕ) → due_of s ≡ Some (Text (NewText start each)) → IsNewText s start each
unfolding due_of
is_new_text s start each due =
    let d = s.sending in
    let limit = text_limit s in
    let probe = s.pending.probe in
    let new = NewText start each in
    let later = option_or (new_text_of d limit probe) (fin_of d s.closing) in
    let last = option_or (text_due s) (ack_due s.pending) in
    let one = next-of (reset_due s.pending.reset) (option_or (syn_due s.pending) last) (Text new) (not-text s.pending.reset new) due in
    let two = next-of (syn_due s.pending) last (Text new) (no-syn s.pending.syn new) one.1 in
    let text = first-of (text_due s) (ack_due s.pending) (Text new) (no-ack s.pending.ack new) two.1 in
    let sends = if-some (sends_text s.phase) (option_or (resend_of d limit d.resend) later) new (sent-in (sent_due s) new text) in
    let three = next-of (resend_of d limit d.resend) later new (none-again d limit start each d.resend) sends.1 in
    let is = first-of (new_text_of d limit probe) (fin_of d s.closing) new (no-fin d s.closing start each) three.1 in
    let parts = new-text d limit start each probe is in
    record {
      may = record { reset = no-reset s.pending.reset one.0; syn = if-none s.pending.syn Syn two.0; phase = sends.0; none = three.0 };
      at = parts.0;
      count = parts.1;
      some = parts.2;
    }

-- and the other way round
pub new_text_due : (s : State) (start each : ℕ) → IsNewText s start each → due_of s ≡ Some (Text (NewText start each))
unfolding due_of new_text_of
new_text_due s start each new =
    let test : (new_count s.sending (text_limit s) s.pending.probe == 0) ≡ false = grind (arith, nat_tests, new.count, new.some) in
    rw (new.at, new.count, new.may.reset, new.may.syn, new.may.phase, new.may.none, test) refl

pub new_text_not_empty : (s : State) (start each : ℕ) → due_of s ≡ Some (Text (NewText start each)) → 0 < each
new_text_not_empty s start each due = (is_new_text s start each due).some

-- it is no longer than a segment's text may be
pub new_text_short : (s : State) (start each : ℕ) → due_of s ≡ Some (Text (NewText start each)) → each ≤ s.config.mss
new_text_short s start each due = omega (arith, (is_new_text s start each due).count)

-- A RUN: new text of so many segments, more than one, or so much as is due where it is one
pub record IsRun (s : State) (more n : ℕ) : Type 0 where
  pub may : MaySendNew s
  pub least : more * text_limit s < n
  pub text : n ≡ min (suc more * text_limit s) (min (count_unsent s.sending) (count_allowed s.sending s.pending.probe))
  pub behind : 0 < more → s.sending.released < s.sending.snd_nxt

abbrev pub new-of : State → ℕ → Due
new-of s n = Text (NewText s.sending.snd_nxt n)

-- the state after its first segment
abbrev pub after-first : State → State
after-first s = state_after s (new-of s (text_limit s))

usable-alone : (s : Sending) (probe : Bool) → 1 < count_allowed s probe → count_allowed s probe ≡ usable_window s
usable-alone s probe h = grind (arith, nat_tests, h)

usable-only : (s : Sending) → count_allowed s false ≡ usable_window s
usable-only s = grind (arith, nat_tests)

resend-same : (s : Sending) (limit n : ℕ) (range : Option (Range ℕ)) → resend_of (record s { snd_nxt = n }) limit range ≡ resend_of s limit range
unfolding resend_of
resend-same s limit n None = refl
resend-same s limit n (Some range) = refl

-- what is due of it
pub first-due : (s : State) (n : ℕ) → IsRun s 0 n → due_of s ≡ Some (new-of s n)
first-due s n h = new_text_due s s.sending.snd_nxt n (record { may = h.may; at = refl; count = omega (arith, h.text); some = omega (arith, h.least) })

pub more-due : (s : State) (more n : ℕ) → IsRun s (suc more) n → due_of s ≡ Some (new-of s (text_limit s))
more-due s more n h =
    new_text_due s s.sending.snd_nxt (text_limit s)
    (record { may = h.may; at = refl; count = omega (arith, h.text, h.least); some = omega (arith, h.text, h.least) })

-- and the rest of it is a run
pub goes-on : (s : State) (more n : ℕ) → IsRun s (suc more) n → IsRun (after-first s) more (n - text_limit s)
goes-on s more n h =
    let d = s.sending in
    let usable = usable-alone d s.pending.probe (omega (arith, h.text, h.least)) in
    let usable' = usable-only (after-first s).sending in
    let ahead = h.behind (omega arith) in
    record {
      may = record {
        reset = h.may.reset;
        syn = h.may.syn;
        phase = h.may.phase;
        none = resend-same d (text_limit s) (max d.snd_nxt (d.snd_nxt + text_limit s)) d.resend ∙ h.may.none;
      };
      least = omega (arith, h.least);
      text = omega (arith, h.text, h.least, usable, usable', ahead);
      behind = λ _. omega (arith, ahead);
    }

-- THE SEGMENTS: what isn't of its number, its flags and its text is the same in each
unfoldable formed : State → ℕ → ℕ → List ℕ → Content
formed s seq flags text = record (plain_segment s Acknowledgement) { seq = seq; flags = flags; text = text }

formed-same : (s : State) (seq seq' flags flags' : ℕ) (text text' : List ℕ) → seq ≡ seq' → flags ≡ flags' → text ≡ text'
    → formed s seq flags text ≡ formed s seq' flags' text'
formed-same s seq seq' flags flags' text text' a b c = cc

-- the text of a run lies in the queue
inside : (s : State) (more n : ℕ) → IsRun s more n → place_of s.sending s.sending.snd_nxt + n ≤ length s.sending.queue.bytes
inside s more n h = omega (arith, h.text, h.least)

cleared : (b : Bool) → without_bit psh (without_bit fin (ack + (if b then psh else 0) + 0)) ≡ ack
cleared true = refl
cleared false = refl

not-last : (place count size : ℕ) → place + count < size → ack + (if (if count == 0 then false else place + count == size) then psh else 0) + 0 ≡ ack
not-last place count size h = grind (arith, nat_tests, h)

still-last : (place place' each n size : ℕ) → each < n → place' ≡ place + each
    → (if n == 0 then false else place + n == size) ≡ (if n - each == 0 then false else place' + (n - each) == size)
still-last place place' each n size h at = grind (arith, nat_tests, h, at)

first-text : (each n : ℕ) (xs : List ℕ) → each < n → take each (take n xs) ≡ take each xs
first-text each n xs h = take-take each n xs (omega arith)

rest-text : (each n place place' : ℕ) (xs : List ℕ) → each < n → place' ≡ place + each → drop each (take n (drop place xs)) ≡ take (n - each) (drop place' xs)
rest-text each n place place' xs h at =
    let whole : n ≡ each + (n - each) = omega arith in
    ap (λ k. drop each (take k (drop place xs))) whole
    ∙ drop-take each (n - each) (drop place xs)
    ∙ ap (take (n - each)) (drop-drop each place xs ∙ ap (λ k. drop k xs) (sym at))

-- the first piece is the segment that is due
first-piece : (s : State) (more n : ℕ) → IsRun s (suc more) n → piece (text_limit s) (plain_segment s (new-of s n)) ≡ plain_segment s (new-of s (text_limit s))
unfolding formed
first-piece s more n h =
    let d = s.sending in
    let place = place_of d d.snd_nxt in
    let isn = s.config.isn.0 in
    let within = inside s (suc more) n h in
    formed-same s (number isn d.snd_nxt) (number isn d.snd_nxt) _ _ _ _ refl
    (cleared (pushes d (NewText d.snd_nxt n)) ∙ sym (not-last place (text_limit s) (length d.queue.bytes) (omega (arith, within, h.least))))
    (first-text (text_limit s) n (drop place d.queue.bytes) (omega (arith, h.least)))

-- and what lies behind it is the rest of the run
rest-piece : (s : State) (more n : ℕ) → IsRun s (suc more) n
    → behind (text_limit s) (plain_segment s (new-of s n)) ≡ plain_segment (after-first s) (new-of (after-first s) (n - text_limit s))
unfolding formed
rest-piece s more n h =
    let d = s.sending in
    let limit = text_limit s in
    let place = place_of d d.snd_nxt in
    let ahead = h.behind (omega arith) in
    let at : place_of d (max d.snd_nxt (d.snd_nxt + limit)) ≡ place + limit = omega (arith, ahead) in
    let more_left : limit < n = omega (arith, h.least) in
    formed-same s _ _ _ _ _ _ (omega arith)
    (ap (λ (b : Bool). ack + (if b then psh else 0) + 0)
    (still-last place (place_of d (max d.snd_nxt (d.snd_nxt + limit))) limit n (length d.queue.bytes) more_left at))
    (rest-text limit n place (place_of d (max d.snd_nxt (d.snd_nxt + limit))) d.queue.bytes more_left at)

-- ALL OF A RUN
abbrev enc : State → Content → List ℕ
enc s v = encoded_bytes s.config.addr.0 s.peer.addr.0 v

pub emission-is : (s : State) (more : ℕ) (due : Due) → due_of s ≡ Some due → emissions (suc more) s ≡ bytes_of s due ∷ emissions more (state_after s due)
unfolding emissions emitted_bytes after_emission
emission-is s more due e = rw e refl

pub after-is : (s : State) (more : ℕ) (due : Due) → due_of s ≡ Some due → after_emissions (suc more) s ≡ after_emissions more (state_after s due)
unfolding after_emissions after_emission
after-is s more due e = rw e refl

new-bytes : (s : State) (n : ℕ) → bytes_of s (new-of s n) ≡ enc s (plain_segment s (new-of s n))
unfolding bytes_of segment_of
new-bytes s n = refl

run-cut : (more : ℕ) (s : State) (n : ℕ) → IsRun s more n → map (enc s) (cut_off more (text_limit s) (plain_segment s (new-of s n))) ≡ emissions (suc more) s
unfolding cut_off emissions
run-cut zero s n h = ap (λ bytes. bytes ∷ []) (sym (new-bytes s n)) ∙ sym (emission-is s 0 (new-of s n) (first-due s n h))
run-cut (suc more) s n h =
    let limit = text_limit s in
    ap (λ v. enc s v ∷ map (enc s) (cut_off more limit (behind limit (plain_segment s (new-of s n))))) (first-piece s more n h)
    ∙ ap (λ v. enc s (plain_segment s (new-of s limit)) ∷ map (enc s) (cut_off more limit v)) (rest-piece s more n h)
    ∙ ap (λ others. enc s (plain_segment s (new-of s limit)) ∷ others) (run-cut more (after-first s) (n - limit) (goes-on s more n h))
    ∙ ap (λ bytes. bytes ∷ emissions (suc more) (after-first s)) (sym (new-bytes s limit))
    ∙ sym (emission-is s (suc more) (new-of s limit) (more-due s more n h))

run-after : (more : ℕ) (s : State) (n : ℕ) → IsRun s more n → state_after s (new-of s n) ≡ after_emissions (suc more) s
unfolding after_emissions
run-after zero s n h = sym (after-is s 0 (new-of s n) (first-due s n h))
run-after (suc more) s n h =
    let limit = text_limit s in
    let snd_nxt = s.sending.snd_nxt in
    let end : max snd_nxt (snd_nxt + n) ≡ max (max snd_nxt (snd_nxt + limit)) (max snd_nxt (snd_nxt + limit) + (n - limit)) = omega (arith, h.least) in
    ap (λ k. record s { sending = record s.sending { snd_nxt = k }; pending = record s.pending { ack = false; probe = false } }) end
    ∙ run-after more (after-first s) (n - limit) (goes-on s more n h)
    ∙ sym (after-is s (suc more) (new-of s limit) (more-due s more n h))

-- THE LAW where new text is due: as many segments as it has room for, or one
abbrev pub run-length : State → ℕ → ℕ → ℕ
run-length s each count = max each (min (count * each) (text_allowed s.sending))

pub record Begins (s : State) (each more : ℕ) : Type 0 where
  pub run : IsRun s more (run-length s each (suc more))
  pub same : 0 < more → each ≡ text_limit s
  pub least : more * each < run-length s each (suc more)
  pub most : run-length s each (suc more) ≤ suc more * each

pub allowed-parts : (s : Sending) → 0 < text_allowed s → (s.released < s.snd_nxt) × (text_allowed s ≡ min (count_unsent s) (usable_window s))
allowed-parts s h = grind (arith, nat_tests, h)

usable-first : (s : Sending) (probe : Bool) → 0 < usable_window s → count_allowed s probe ≡ usable_window s
usable-first s probe h = grind (arith, nat_tests, h)

-- so many segments hold less than the text that is allowed, without the last
fewer : (more text each : ℕ) → 0 < each → suc more ≤ count_for text each → more * each < text
fewer more text each some h = omega (arith, mul-le-mul_right each h, div-mul-le_self (text + (each - 1)) each)

pub begins : (s : State) (start each more : ℕ) → IsNewText s start each → (more ≡ 0) ⊎ (suc more ≤ count_for (text_allowed s.sending) each) → Begins s each more
begins s start each zero new h = record {
  run = record { may = new.may; least = omega (arith, new.some); text = omega (arith, new.count); behind = λ none. absurd (omega arith) };
  same = λ none. absurd (omega arith);
  least = omega (arith, new.some);
  most = omega arith;
}
begins s start each (suc more) new (inl none) = absurd (omega arith)
begins s start each (suc more) new (inr h) =
    let d = s.sending in
    let less = fewer (suc more) (text_allowed d) each new.some h in
    let parts = allowed-parts d (omega (arith, less)) in
    let usable = usable-first d s.pending.probe (omega (arith, less, parts.1)) in
    let same : each ≡ text_limit s = omega (arith, new.count, new.some, less, parts.1, usable) in
    let products : more * each ≡ more * text_limit s = ap (λ n. more * n) same in
    record {
      run = record {
        may = new.may;
        least = omega (arith, new.some, less, same, products);
        text = omega (arith, new.some, less, parts.1, usable, same, products);
        behind = λ _. parts.0;
      };
      same = λ _. same;
      least = omega (arith, new.some, less);
      most = omega arith;
    }

pieces-counted : (more each n : ℕ) → 0 < each → more * each < n → n ≤ suc more * each → (n - 1) / each ≡ more
pieces-counted more each n some least most =
    let rest : n - 1 ≡ more * each + (n - 1 - more * each) = omega arith in
    ap (λ k. k / each) rest ∙ div-mul-add more each (n - 1 - more * each) (omega arith)

same-pieces : (more each limit : ℕ) (v : Content) → (0 < more → each ≡ limit) → cut_off more each v ≡ cut_off more limit v
unfolding cut_off
same-pieces zero each limit v h = refl
same-pieces (suc more) each limit v h = ap (λ n. cut_off (suc more) n v) (h (omega arith))

pub new-cut : (s : State) (start each more : ℕ) → IsNewText s start each → (more ≡ 0) ⊎ (suc more ≤ count_for (text_allowed s.sending) each)
    → map (enc s) (cut each (segment_of s (as_one s (suc more) (Text (NewText start each))))) ≡ emissions (suc more) s
unfolding cut segment_of
new-cut s start each more new h =
    let b = begins s start each more new h in
    let n = run-length s each (suc more) in
    let v = plain_segment s (new-of s n) in
    let size : length v.text ≡ n =
    length-take-le n (drop (place_of s.sending s.sending.snd_nxt) s.sending.queue.bytes)
    (omega (arith, inside s more n b.run, length-drop (place_of s.sending s.sending.snd_nxt) s.sending.queue.bytes)) in
    ap (λ at. map (enc s) (cut each (plain_segment s (Text (NewText at n))))) new.at
    ∙ ap (λ k. map (enc s) (cut_off ((k - 1) / each) each v)) size
    ∙ ap (λ k. map (enc s) (cut_off k each v)) (pieces-counted more each n new.some b.least b.most)
    ∙ ap (map (enc s)) (same-pieces more each (text_limit s) v b.same)
    ∙ run-cut more s n b.run

pub new-after : (s : State) (start each more : ℕ) → IsNewText s start each → (more ≡ 0) ⊎ (suc more ≤ count_for (text_allowed s.sending) each)
    → state_after s (as_one s (suc more) (Text (NewText start each))) ≡ after_emissions (suc more) s
new-after s start each more new h =
    let n = run-length s each (suc more) in
    ap (λ at. state_after s (Text (NewText at n))) new.at ∙ run-after more s n (begins s start each more new h).run

-- ANYTHING ELSE goes alone
none-more : (each size : ℕ) → size ≤ each → (size - 1) / each ≡ 0
none-more zero size h = let none : size - 1 ≡ 0 = omega arith in ap (λ (n : ℕ). n / 0) none
none-more (suc each) size h =
    let rest : size - 1 ≡ 0 * suc each + (size - 1) = omega arith in
    ap (λ n. n / suc each) rest ∙ div-mul-add 0 (suc each) (size - 1) (omega arith)

waiting-short : (s : State) (o : Option WaitingReset) → length (waiting_segment s o).text ≤ 0
waiting-short s None = omega arith
waiting-short s (Some reset) = omega arith

pub text-short : (s : State) (due : Due) → length (segment_of s due).text ≤ count_of due
unfolding segment_of
text-short s Reset = waiting-short s s.pending.reset
text-short s Syn = omega arith
text-short s (Text sent) = simp length-take (omega arith)
text-short s Acknowledgement = omega arith

pub alone : (each : ℕ) (v : Content) → length v.text ≤ each → cut each v ≡ v ∷ []
unfolding cut cut_off
alone each v h = ap (λ k. cut_off k each v) (none-more each (length v.text) h)

lone-cut : (s : State) (due : Due) → due_of s ≡ Some due
    → map (encoded_bytes s.config.addr.0 (destination_of s due).addr.0) (cut (count_of due) (segment_of s due)) ≡ emissions 1 s
unfolding emissions bytes_of
lone-cut s due e =
    ap (map (encoded_bytes s.config.addr.0 (destination_of s due).addr.0)) (alone (count_of due) (segment_of s due) (text-short s due))
    ∙ sym (emission-is s 0 due e)

lone-after : (s : State) (due : Due) → due_of s ≡ Some due → state_after s due ≡ after_emissions 1 s
unfolding after_emissions
lone-after s due e = sym (after-is s 0 due e)

-- WHAT THE DEVICE MAKES of it is what so many emissions write, and the state is the one after them
pub few : (most room count : ℕ) → (max 1 (min most (min room count)) - 1 ≡ 0) ⊎ (suc (max 1 (min most (min room count)) - 1) ≤ count)
few most room count = elim (cases_lt (max 1 (min most (min room count))) 2) [ inl one ↦ inl (omega arith) | inr more ↦ inr (omega arith) ]

abbrev IsCut : State → ℕ → Due → Type 0
IsCut s count due = (segments_of_due s count (Some due) ≡ emissions count s) × (state_after s (as_one s count due) ≡ after_emissions count s)

is-cut : (s : State) (most room : ℕ) (due : Due) → due_of s ≡ Some due → IsCut s (count_together s most room due) due
is-cut s most room (Text (NewText start each)) e =
    let count = count_together s most room (Text (NewText start each)) in
    let whole : suc (count - 1) ≡ count = omega arith in
    let new = is_new_text s start each e in
    let fits = few most (count_with_room s room each) (count_for (text_allowed s.sending) each) in
    subst (λ k. IsCut s k (Text (NewText start each))) whole (new-cut s start each (count - 1) new fits, new-after s start each (count - 1) new fits)
is-cut s most room Reset e = (lone-cut s Reset e, lone-after s Reset e)
is-cut s most room Syn e = (lone-cut s Syn e, lone-after s Syn e)
is-cut s most room (Text (Resend start count)) e = (lone-cut s (Text (Resend start count)) e, lone-after s (Text (Resend start count)) e)
is-cut s most room (Text (Fin start)) e = (lone-cut s (Text (Fin start)) e, lone-after s (Text (Fin start)) e)
is-cut s most room (Text (ResentFin start)) e = (lone-cut s (Text (ResentFin start)) e, lone-after s (Text (ResentFin start)) e)
is-cut s most room Acknowledgement e = (lone-cut s Acknowledgement e, lone-after s Acknowledgement e)

pub train_is_cut : (s : State) (most room : ℕ) → train_segments s (train_count s most room) ≡ emissions (train_count s most room) s
unfolding train_segments train_count emissions
train_is_cut s most room = of-due (due_of s) refl where
  of-due : (o : Option Due) → due_of s ≡ o → segments_of_due s (count_of_due s most room o) o ≡ emissions (count_of_due s most room o) s
  of-due None e = refl
  of-due (Some due) e = (is-cut s most room due e).0

pub after_train : (s : State) (most room : ℕ) (due : Due) → due_of s ≡ Some due
    → state_after s (as_one s (count_together s most room due) due) ≡ after_emissions (count_together s most room due) s
after_train s most room due e = (is-cut s most room due e).1

-- as one segment it is of the same kind, begins at the same position, and goes to the same peer
pub kind_as_one : (s : State) (count : ℕ) (due : Due) → kind_of (as_one s count due) ≡ kind_of due
kind_as_one s count Reset = refl
kind_as_one s count Syn = refl
kind_as_one s count (Text (NewText start each)) = refl
kind_as_one s count (Text (Resend start each)) = refl
kind_as_one s count (Text (Fin start)) = refl
kind_as_one s count (Text (ResentFin start)) = refl
kind_as_one s count Acknowledgement = refl

pub start_as_one : (s : State) (count : ℕ) (due : Due) → start_of s.sending (as_one s count due) ≡ start_of s.sending due
start_as_one s count Reset = refl
start_as_one s count Syn = refl
start_as_one s count (Text (NewText start each)) = refl
start_as_one s count (Text (Resend start each)) = refl
start_as_one s count (Text (Fin start)) = refl
start_as_one s count (Text (ResentFin start)) = refl
start_as_one s count Acknowledgement = refl

pub destination_as_one : (s : State) (count : ℕ) (due : Due) → destination_of s (as_one s count due) ≡ destination_of s due
destination_as_one s count Reset = refl
destination_as_one s count Syn = refl
destination_as_one s count (Text (NewText start each)) = refl
destination_as_one s count (Text (Resend start each)) = refl
destination_as_one s count (Text (Fin start)) = refl
destination_as_one s count (Text (ResentFin start)) = refl
destination_as_one s count Acknowledgement = refl
