-- The segments that an end emits can be written (RFC 9293, 3.1), and how long they are.
use Rattle.std.proofs.Common.{◌≡◌, ℕ, ◌+◌, ◌*◌, ◌%◌, ◌<◌, ◌≤◌, ◌^◌, List, [], ◌∷◌, ◌++◌, length, take, map, replicate, refl, sym, ◌∙◌, ap, arith, length-append, length-take, length-drop, length-take-le, drop, ⊎_elim}
use Rattle.std.proofs.lemmas.List.{length-map}
use Rattle.std.specs.Prelude.{Bool, true, false, not, ◌&&◌, if◌then◌else◌, Option, Some, None, is_some, max, unwrap_or}
use Rattle.std.specs.List.{AllByRecursion, flat_map}
use Rattle.std.proofs.lemmas.Bool.{cond_both, cases_lt}
use Rattle.tcp_wire.specs.Flags.{fin, syn, rst, psh, ack}
use Rattle.tcp_wire.specs.Checksum.{AreBytes}
use Rattle.tcp_wire.specs.Options.{Mss, spellings, block_bytes, IsBlock, AreSpellable}
use Rattle.tcp_wire.specs.Wire.{Content, IsValid, header_len, max_len, max_text_len, option_bytes, wire_length}
use Rattle.tcp_wire.specs.View.{text_offset}
use Rattle.tcp_wire.proofs.Lemmas.{blocks_bytes_length}
use Rattle.tcp_reasm.specs.Reassembly.{Inbox, blocks}
use Rattle.tcp_conn.specs.declared.emit.due.Due.{Due}
use Rattle.tcp_conn.specs.declared.emit.due.Due.TheVariants.{Reset, Syn, Text, Acknowledgement}
use Rattle.tcp_halves.specs.Sent as half
use Rattle.tcp_halves.specs.declared.link.WaitingReset.{WaitingReset}
use Rattle.tcp_conn.specs.declared.emit.write.TheConstants.{HEADER_ROOM}
use Rattle.tcp_conn.specs.declared.emit.transmit.TheConstants.{EMIT_ROOM}
use Rattle.tcp_halves.specs.Config.{max_mss, max_shift}
use Rattle.tcp_conn.specs.State.{State, Sending, place_of}
use Rattle.tcp_conn.specs.Writing.{IsWritable}
use Rattle.tcp_conn.specs.Endpoint.{FitsFields}
use Rattle.tcp_conn.specs.Due.{IsSendable, count_of, flags_of}
use Rattle.tcp_conn.specs.Blocks.{block_numbers, blocks_to_report, sack_options, sack_length}
use Rattle.tcp_conn.specs.Forms.{reset_ack, reset_segment, shift_offered, is_sack_offered, scale_options, permission_options, syn_segment, text_of, plain_segment, segment_of, waiting_segment}

-- BLOCKS: at most four, each a pair of numbers
few-blocks : (q : Inbox) → length (blocks q) ≤ 4
unfolding blocks
few-blocks q = simp (length-map, length-take) (omega arith)

numbers-few : (next : ℕ) (bs : List (ℕ × ℕ)) → length bs ≤ 4 → length (map (block_numbers next) bs) ≤ 4
numbers-few next bs few = simp length-map few

numbers-are_blocks : (next : ℕ) (bs : List (ℕ × ℕ)) → AllByRecursion IsBlock (map (block_numbers next) bs)
numbers-are_blocks next [] = tt
numbers-are_blocks next (b ∷ bs) = ((omega arith, omega arith), numbers-are_blocks next bs)

pub blocks_to_report-few : (s : State) → length (blocks_to_report s) ≤ 4
blocks_to_report-few s = cond_both s.link.sack (map (block_numbers s.receiving.rcv_nxt) (blocks s.receiving.inbox)) [] (λ bs. length bs ≤ 4)
    (λ _. numbers-few s.receiving.rcv_nxt (blocks s.receiving.inbox) (few-blocks s.receiving.inbox)) (λ _. omega arith)

pub blocks_to_report-are_blocks : (s : State) → AllByRecursion IsBlock (blocks_to_report s)
blocks_to_report-are_blocks s = cond_both s.link.sack (map (block_numbers s.receiving.rcv_nxt) (blocks s.receiving.inbox)) [] (λ bs. AllByRecursion IsBlock bs)
    (λ _. numbers-are_blocks s.receiving.rcv_nxt (blocks s.receiving.inbox)) (λ _. tt)

-- OPTIONS that report them
sack-spellable : (bs : List (ℕ × ℕ)) → length bs ≤ 4 → AllByRecursion IsBlock bs → AreSpellable (sack_options bs)
sack-spellable [] few fits = tt
sack-spellable (b ∷ bs) few fits = (tt, (tt, ((omega arith, few, fits), tt)))

pub length-sack_options : (bs : List (ℕ × ℕ)) → length (spellings (sack_options bs)) ≡ sack_length bs
length-sack_options [] = refl
length-sack_options (b ∷ bs) =
    let inner : length (flat_map block_bytes (b ∷ bs)) ≡ 8 * length (b ∷ bs) = blocks_bytes_length (b ∷ bs) in
    omega (arith, inner, length-append (flat_map block_bytes (b ∷ bs)) [])

pub report_spellable : (s : State) → AreSpellable (sack_options (blocks_to_report s))
report_spellable s = sack-spellable (blocks_to_report s) (blocks_to_report-few s) (blocks_to_report-are_blocks s)

-- where their text begins
pub offset_of_report : (s : State) → text_offset (sack_options (blocks_to_report s)) 0 ≡ header_len + sack_length (blocks_to_report s)
offset_of_report s =
    let options = spellings (sack_options (blocks_to_report s)) in
    omega (arith, length-sack_options (blocks_to_report s), length-append options (replicate {A = ℕ} 0 0))

-- where no block is reported
no-options : (bs : List (ℕ × ℕ)) → sack_length bs ≡ 0 → sack_options bs ≡ []
no-options [] none = refl
no-options (b ∷ bs) none = absurd (omega (arith, none))

pub none_reported : (s : State) → sack_length (blocks_to_report s) ≡ 0 → sack_options (blocks_to_report s) ≡ []
none_reported s none = no-options (blocks_to_report s) none

-- without padding
length-option_bytes : (v : Content) → v.pad ≡ 0 → length (option_bytes v) ≡ length (spellings v.options)
length-option_bytes v none =
    let free : length (replicate {A = ℕ} v.pad 0) ≡ 0 = ap (λ n. length (replicate {A = ℕ} n 0)) none in
    omega (arith, free, length-append (spellings v.options) (replicate {A = ℕ} v.pad 0))

-- ANY SEGMENT with text
flags-fit : (push last : Bool) → ack + (if push then psh else 0) + (if last then fin else 0) < 2 ^ 8
flags-fit true true = omega arith
flags-fit true false = omega arith
flags-fit false true = omega arith
flags-fit false false = omega arith

flags_of-fit : (s : Sending) (due : Due) → flags_of s due < 2 ^ 8
flags_of-fit s Reset = omega arith
flags_of-fit s Syn = omega arith
flags_of-fit s (Text sent) = flags-fit (half.pushes s sent) (half.is_fin sent)
flags_of-fit s Acknowledgement = omega arith

pub sack_length-fits : (bs : List (ℕ × ℕ)) → length bs ≤ 4 → (sack_length bs ≤ 36)
sack_length-fits [] few = omega arith
sack_length-fits (b ∷ bs) few = omega arith

pub report_options_short : (s : State) → sack_length (blocks_to_report s) ≤ 36
report_options_short s = sack_length-fits (blocks_to_report s) (blocks_to_report-few s)

sack_length-whole : (bs : List (ℕ × ℕ)) → sack_length bs % 4 ≡ 0
sack_length-whole [] = refl
sack_length-whole (b ∷ bs) = omega arith

pub length_plain_segment : (s : State) (due : Due) → wire_length (plain_segment s due) ≡ header_len + sack_length (blocks_to_report s) + length (text_of s.sending due)
length_plain_segment s due =
    let area : length (option_bytes (plain_segment s due)) ≡ sack_length (blocks_to_report s) = length-option_bytes (plain_segment s due) refl ∙ length-sack_options (blocks_to_report s) in
    omega (arith, area)

text-as_long : (queue : List ℕ) (place count : ℕ) → (0 < count → place + count ≤ length queue) → length (take count (drop place queue)) ≡ count
text-as_long queue place count inside = ⊎_elim
    (λ none. let zero : count ≡ 0 = omega arith in ap (λ n. length (take n (drop place queue))) zero ∙ sym zero)
    (λ some. length-take-le count (drop place queue) (omega (arith, inside some, length-drop place queue)))
    (cases_lt count 1)

-- the text of what is due is as long as its count
pub text_as_long : (s : Sending) (limit : ℕ) (due : Due) → IsSendable s limit due → length (text_of s due) ≡ count_of due
text_as_long s limit Reset sendable = refl
text_as_long s limit Syn sendable = refl
text_as_long s limit (Text sent) sendable = text-as_long s.queue.bytes (place_of s (half.start_of sent)) (half.count_of sent) sendable.inside
text_as_long s limit Acknowledgement sendable = refl

-- and no longer than the greatest maximum segment size
pub count_short : (s : Sending) (due : Due) → IsSendable s max_mss due → count_of due ≤ max_mss
count_short s Reset sendable = omega arith
count_short s Syn sendable = omega arith
count_short s (Text sent) sendable = sendable.short
count_short s Acknowledgement sendable = omega arith

-- so that it can be the text of a segment
pub sendable_as_text : (s : Sending) (due : Due) → IsSendable s max_mss due → IsSendable s max_text_len due
sendable_as_text s Reset sendable = tt
sendable_as_text s Syn sendable = tt
sendable_as_text s (Text sent) sendable = record { inside = sendable.inside; short = omega (arith, sendable.short); most = sendable.most }
sendable_as_text s Acknowledgement sendable = tt

pub plain_segment_due : (s : State) (due : Due) → IsSendable s.sending max_mss due → wire_length (plain_segment s due) ≡ header_len + sack_length (blocks_to_report s) + count_of due
plain_segment_due s due sendable = omega (arith, length_plain_segment s due, text_as_long s.sending max_mss due sendable)

pub plain_segment_short : (s : State) (due : Due) → IsSendable s.sending max_mss due → wire_length (plain_segment s due) ≤ EMIT_ROOM
plain_segment_short s due sendable =
    omega (arith, plain_segment_due s due sendable, report_options_short s, count_short s.sending due sendable)

-- what is due alone can be written where there is room for the longest segment
pub alone_writable : (s : State) (due : Due) (room : ℕ) → IsSendable s.sending max_mss due → EMIT_ROOM ≤ room → IsWritable s due room
alone_writable s due room sendable large = record {
  least = omega (arith, large);
  sendable = sendable_as_text s.sending due sendable;
  fits = omega (arith, large, report_options_short s, count_short s.sending due sendable);
}

-- of any length that a segment may have
pub text_segment_valid : (s : State) (due : Due) → FitsFields s → AreBytes (text_of s.sending due)
    → header_len + sack_length (blocks_to_report s) + length (text_of s.sending due) ≤ max_len → IsValid (plain_segment s due)
text_segment_valid s due fits_fields bytes short =
    let area : length (option_bytes (plain_segment s due)) ≡ sack_length (blocks_to_report s) = length-option_bytes (plain_segment s due) refl ∙ length-sack_options (blocks_to_report s) in
    let fits : sack_length (blocks_to_report s) ≤ 36 = sack_length-fits (blocks_to_report s) (blocks_to_report-few s) in
    record {
      src_port = fits_fields.port;
      dst_port = fits_fields.peer_port;
      seq = omega arith;
      ack = fits_fields.next;
      reserved = omega arith;
      flags = flags_of-fit s.sending due;
      window = omega arith;
      urgent = omega arith;
      options = sack-spellable (blocks_to_report s) (blocks_to_report-few s) (blocks_to_report-are_blocks s);
      whole_words = ap (λ n. n % 4) area ∙ sack_length-whole (blocks_to_report s);
      room = omega (arith, area, fits);
      text = bytes;
      most = omega (arith, area, fits, short);
    }

-- an acknowledgement, where a reset can be
pub as_acknowledgement : (s : State) (room : ℕ) → IsWritable s Reset room → IsWritable s Acknowledgement room
as_acknowledgement s room writable = record { least = writable.least; sendable = tt; fits = writable.fits }

-- so is what has room in a buffer
pub written_segment_valid : (s : State) (due : Due) (room : ℕ) → FitsFields s → IsWritable s due room → AreBytes (text_of s.sending due) → IsValid (plain_segment s due)
written_segment_valid s due room fits_fields writable bytes =
    text_segment_valid s due fits_fields bytes (omega (arith, writable.fits, text_as_long s.sending max_text_len due writable.sendable))

-- A RESET
pub reset_segment_valid : (s : State) (r : WaitingReset) → s.config.port < 2 ^ 16 → r.to.port < 2 ^ 16 → r.seq.0 < 2 ^ 32 → reset_ack r.ack < 2 ^ 32 → IsValid (reset_segment s r)
reset_segment_valid s r port to seq told = record {
  src_port = port;
  dst_port = to;
  seq = seq;
  ack = told;
  reserved = omega arith;
  flags = cond_both (is_some r.ack) ack 0 (λ n. rst + n < 2 ^ 8) (λ _. omega arith) (λ _. omega arith);
  window = omega arith;
  urgent = omega arith;
  options = tt;
  whole_words = refl;
  room = omega arith;
  text = λ i. omega arith;
  most = omega arith;
}

-- A SYN
length-syn_area : (mss : ℕ) (shift : Option ℕ) (sack : Bool) → length (spellings (Mss mss ∷ (scale_options shift ++ permission_options sack))) ≡ 4 + (if is_some shift then 4 else 0) + (if sack then 4 else 0)
length-syn_area mss None true = refl
length-syn_area mss None false = refl
length-syn_area mss (Some shift) true = refl
length-syn_area mss (Some shift) false = refl

syn_area-fits : (shift sack : Bool) → 4 + (if shift then 4 else 0) + (if sack then 4 else 0) ≤ 12
syn_area-fits true true = omega arith
syn_area-fits true false = omega arith
syn_area-fits false true = omega arith
syn_area-fits false false = omega arith

syn_area-whole : (shift sack : Bool) → (4 + (if shift then 4 else 0) + (if sack then 4 else 0)) % 4 ≡ 0
syn_area-whole true true = refl
syn_area-whole true false = refl
syn_area-whole false true = refl
syn_area-whole false false = refl

syn-spellable : (mss : ℕ) (shift : Option ℕ) (sack : Bool) → mss < 2 ^ 16 → unwrap_or shift 0 < 2 ^ 8 → AreSpellable (Mss mss ∷ (scale_options shift ++ permission_options sack))
syn-spellable mss None true fits small = (fits, (tt, (tt, (tt, tt))))
syn-spellable mss None false fits small = (fits, tt)
syn-spellable mss (Some shift) true fits small = (fits, (tt, (small, (tt, (tt, (tt, tt))))))
syn-spellable mss (Some shift) false fits small = (fits, (tt, (small, tt)))

pub length_syn_segment : (s : State) → wire_length (syn_segment s) ≡ 24 + (if is_some (shift_offered s) then 4 else 0) + (if is_sack_offered s then 4 else 0)
length_syn_segment s =
    let area : length (option_bytes (syn_segment s)) ≡ 4 + (if is_some (shift_offered s) then 4 else 0) + (if is_sack_offered s then 4 else 0) =
    length-option_bytes (syn_segment s) refl ∙ length-syn_area s.config.mss (shift_offered s) (is_sack_offered s) in
    omega (arith, area)

shift_offered-fits : (s : State) → unwrap_or s.config.window_shift 0 ≤ max_shift → unwrap_or (shift_offered s) 0 < 2 ^ 8
shift_offered-fits s fits = cond_both (s.receiving.opened && not s.link.scaling) None s.config.window_shift (λ shift. unwrap_or shift 0 < 2 ^ 8) (λ _. omega arith) (λ _. omega (arith, fits))

pub syn_segment_valid : (s : State) → FitsFields s → IsValid (syn_segment s)
syn_segment_valid s fits_fields =
    let area : length (option_bytes (syn_segment s)) ≡ 4 + (if is_some (shift_offered s) then 4 else 0) + (if is_sack_offered s then 4 else 0) =
    length-option_bytes (syn_segment s) refl ∙ length-syn_area s.config.mss (shift_offered s) (is_sack_offered s) in
    let fits = syn_area-fits (is_some (shift_offered s)) (is_sack_offered s) in
    record {
      src_port = fits_fields.port;
      dst_port = fits_fields.peer_port;
      seq = omega arith;
      ack = cond_both s.receiving.opened s.receiving.rcv_nxt 0 (λ n. n < 2 ^ 32) (λ _. fits_fields.next) (λ _. omega arith);
      reserved = omega arith;
      flags = cond_both s.receiving.opened ack 0 (λ n. syn + n < 2 ^ 8) (λ _. omega arith) (λ _. omega arith);
      window = omega arith;
      urgent = omega arith;
      options = syn-spellable s.config.mss (shift_offered s) (is_sack_offered s) (omega (arith, fits_fields.mss)) (shift_offered-fits s fits_fields.shift);
      whole_words = ap (λ n. n % 4) area ∙ syn_area-whole (is_some (shift_offered s)) (is_sack_offered s);
      room = omega (arith, area, fits);
      text = λ i. omega arith;
      most = omega (arith, area, fits);
    }

-- THE LONGEST SEGMENT
waiting-short : (s : State) (waiting : Option WaitingReset) → wire_length (waiting_segment s waiting) ≤ EMIT_ROOM
waiting-short s None = plain_segment_short s Acknowledgement tt
waiting-short s (Some reset) = omega arith

pub syn_header_short : (s : State) → wire_length (syn_segment s) ≤ HEADER_ROOM
syn_header_short s = omega (arith, length_syn_segment s, syn_area-fits (is_some (shift_offered s)) (is_sack_offered s))

pub segment_short : (s : State) (due : Due) → IsSendable s.sending max_mss due → wire_length (segment_of s due) ≤ EMIT_ROOM
unfolding segment_of
segment_short s Reset sendable = waiting-short s s.pending.reset
segment_short s Syn sendable = omega (arith, syn_header_short s)
segment_short s (Text sent) sendable = plain_segment_short s (Text sent) sendable
segment_short s Acknowledgement sendable = plain_segment_short s Acknowledgement sendable

-- a segment that takes no number leaves SND.NXT as it is
pub nxt_of_reset : (n : ℕ) → max n 0 ≡ n
nxt_of_reset n = omega arith

pub nxt_of_acknowledgement : (n : ℕ) → max n n ≡ n
nxt_of_acknowledgement n = omega arith
