-- What is written in the pcapng form reads back: blocks and options.
use Rattle.std.specs.Prelude.{true, false, not, if◌then◌else◌}
use Rattle.std.proofs.lemmas.Bool.{and_from, and_right, eq-eqb}
use Rattle.std.proofs.lemmas.List.{append-nil, length-append, take_at, drop_at}
use Rattle.std.proofs.Math.Seq.{drop-append-add}
use Rattle.std.proofs.Common.{◌≡◌, ◌≢◌, ℕ, ◌+◌, ◌-◌, ◌%◌, ◌^◌, ◌<◌, ◌≤◌, ◌&&◌, ltb, eqb, List, [], ◌++◌, length, take, drop, Option, Some, refl, sym, ap, ◌∙◌, arith}
use Rattle.capture_form.specs.declared.order.Order.{Order}
use Rattle.capture_form.specs.declared.order.Order.TheVariants.{Big, Little}
use Rattle.capture_form.specs.Numbers.{number_in, bytes_in}
use Rattle.capture_form.specs.Pcap.{FrameContent}
use Rattle.capture_form.specs.Blocks.{BlockContent, section_kind, is_section, order_magic, order_at, total_len, max_total, is_total, is_whole, block_at, padded, option_len, value_of, number_of}
use Rattle.capture_form.specs.Sections.{SectionContent, after, with_rest, step_by, step_at}
use Rattle.capture_form.specs.SectionWriter.{block_before}
use Rattle.capture_form.proofs.Choices.{pick_true, pick_false}
use Rattle.capture_form.proofs.Cuts.{pair}
use Rattle.capture_form.proofs.Numbers.{reads_back, bytes_length, past}
use Rattle.capture_form.proofs.Options.{option_found, option_passed}
use Rattle.capture_form.proofs.StepCuts.{not_less, whole_made, whole_block, same_block}

-- ---- blocks

pub total_made : (size : ℕ) → 12 ≤ size → size % 4 ≡ 0 → size ≤ max_total → is_total size ≡ true
total_made size least four most =
    and_from (not (ltb size 12)) (eqb (size % 4) 0 && not (ltb max_total size)) (not_less size 12 least)
    (and_from (eqb (size % 4) 0) (not (ltb max_total size)) (eq-eqb _ _ four) (not_less max_total size most))

pub block_length : (o : Order) (kind : ℕ) (body rest : List ℕ) → length (block_before o kind body rest) ≡ 12 + length body + length rest
unfolding block_before
block_length o kind body rest =
    let size = 12 + length body in
    let last = bytes_in o 4 size ++ rest in
    let third = body ++ last in
    let second = bytes_in o 4 size ++ third in
    omega (
      arith,
      length-append (bytes_in o 4 kind) second,
      length-append (bytes_in o 4 size) third,
      length-append body last,
      length-append (bytes_in o 4 size) rest,
      bytes_length o 4 kind,
      bytes_length o 4 size,
    )

pub block_back : (o : Order) (kind : ℕ) (body rest : List ℕ) → kind < 256 ^ 4 → length body % 4 ≡ 0 → 12 + length body ≤ max_total
    → block_at o (block_before o kind body rest) ≡ Some (record { kind = kind; body = body }, rest)
unfolding block_before
block_back o kind body rest small four most =
    let size = 12 + length body in
    let last = bytes_in o 4 size ++ rest in
    let third = body ++ last in
    let second = bytes_in o 4 size ++ third in
    let all = bytes_in o 4 kind ++ second in
    let fits : size < 256 ^ 4 = omega (arith, most) in
    let to_second : drop 4 all ≡ second = past o 4 kind 0 second in
    let to_third : drop 8 all ≡ third = past o 4 kind 4 second ∙ past o 4 size 0 third in
    let to_last : drop (4 + (4 + length body)) all ≡ last = past o 4 kind (4 + length body) second ∙ past o 4 size (length body) third ∙ drop_at body last (length body) refl in
    let to_end : drop (4 + (4 + (length body + 4))) all ≡ rest = past o 4 kind (4 + (length body + 4)) second ∙ past o 4 size (length body + 4) third ∙ drop-append-add body last 4 ∙ past o 4 size 0 rest in
    let total : total_len o all ≡ size = ap (number_in o 4) to_second ∙ reads_back o 4 size third fits in
    let at_last : total_len o all - 4 ≡ 4 + (4 + length body) = omega (arith, total) in
    let at_end : total_len o all ≡ 4 + (4 + (length body + 4)) = omega (arith, total) in
    let at_body : total_len o all - 12 ≡ length body = omega (arith, total) in
    let len : length all ≡ 12 + length body + length rest = block_length o kind body rest in
    let again : number_in o 4 (drop (total_len o all - 4) all) ≡ total_len o all =
    ap (λ (n : ℕ). number_in o 4 (drop n all)) at_last ∙ ap (number_in o 4) to_last ∙ reads_back o 4 size rest fits ∙ sym total in
    let whole : is_whole o all ≡ true =
    whole_made o all (omega (arith, len)) (ap is_total total ∙ total_made size (omega arith) (omega (arith, four)) most) (omega (arith, len, total)) (eq-eqb _ _ again) in
    let kind_is : number_in o 4 all ≡ kind = reads_back o 4 kind second small in
    let body_is : take (total_len o all - 12) (drop 8 all) ≡ body =
    ap (λ (n : ℕ). take n (drop 8 all)) at_body ∙ ap (take (length body)) to_third ∙ take_at body last (length body) refl in
    let rest_is : drop (total_len o all) all ≡ rest = ap (λ (n : ℕ). drop n all) at_end ∙ to_end in
    whole_block o all whole
    ∙ ap (λ (p : BlockContent × List ℕ). Some p) (pair (same_block (number_in o 4 all) kind (take (total_len o all - 12) (drop 8 all)) body kind_is body_is) rest_is)

pub step_back : (s : SectionContent) (o : Order) (kind : ℕ) (body rest : List ℕ) (change : SectionContent × Option FrameContent)
    → order_at s.order (block_before o kind body rest) ≡ o → after o s (record { kind = kind; body = body }) ≡ Some change
    → kind < 256 ^ 4 → length body % 4 ≡ 0 → 12 + length body ≤ max_total → step_at s (block_before o kind body rest) ≡ Some (change, rest)
unfolding step_at
step_back s o kind body rest change order changes small four most =
    ap (λ (p : Order). step_by p s (block_at p (block_before o kind body rest))) order
    ∙ ap (step_by o s) (block_back o kind body rest small four most)
    ∙ ap (with_rest rest) changes

-- ---- the order

pub is_other : (o : Order) (rest : List ℕ) → eqb (number_in Big 4 (bytes_in o 4 1 ++ rest)) section_kind ≡ false
is_other Big rest = refl
is_other Little rest = refl

pub is_packet : (o : Order) (rest : List ℕ) → eqb (number_in Big 4 (bytes_in o 4 6 ++ rest)) section_kind ≡ false
is_packet Big rest = refl
is_packet Little rest = refl

pub same_order : (o : Order) (bytes : List ℕ) → eqb (number_in Big 4 bytes) section_kind ≡ false → order_at o bytes ≡ o
same_order o bytes other =
    pick_false (is_section bytes) (if eqb (number_in Big 4 (drop 8 bytes)) order_magic then Big else Little) o
    (and_right (not (ltb (length bytes) 4)) (eqb (number_in Big 4 bytes) section_kind) other)

-- ---- options

pub value_back : (o : Order) (code n x : ℕ) (tail : List ℕ) → 0 < code → code < 256 ^ 2 → n < 256 ^ 2
    → value_of o code (bytes_in o 2 code ++ (bytes_in o 2 n ++ (bytes_in o n x ++ tail))) ≡ bytes_in o n x
value_back o code n x tail some small short =
    let third = bytes_in o n x ++ tail in
    let second = bytes_in o 2 n ++ third in
    let all = bytes_in o 2 code ++ second in
    let code_is : number_in o 2 all ≡ code = reads_back o 2 code second small in
    let len : option_len o all ≡ n = ap (number_in o 2) (past o 2 code 0 second) ∙ reads_back o 2 n third short in
    let to_third : drop 4 all ≡ third = past o 2 code 2 second ∙ past o 2 n 0 third in
    let fits : 4 + option_len o all ≤ length all =
    omega (
      arith,
      len,
      length-append (bytes_in o 2 code) second,
      length-append (bytes_in o 2 n) third,
      length-append (bytes_in o n x) tail,
      bytes_length o 2 code,
      bytes_length o 2 n,
      bytes_length o n x,
    ) in
    option_found o code all fits (λ is. absurd (omega (arith, is, code_is, some))) code_is
    ∙ ap (λ (m : ℕ). take m (drop 4 all)) len
    ∙ ap (take n) to_third
    ∙ take_at (bytes_in o n x) tail n (bytes_length o n x)

pub value_passed : (o : Order) (wanted code n : ℕ) (third : List ℕ) → 0 < code → code < 256 ^ 2 → n < 256 ^ 2 → code ≢ wanted → n ≤ length third
    → value_of o wanted (bytes_in o 2 code ++ (bytes_in o 2 n ++ third)) ≡ value_of o wanted (drop (padded n) third)
value_passed o wanted code n third some small short other room =
    let second = bytes_in o 2 n ++ third in
    let all = bytes_in o 2 code ++ second in
    let code_is : number_in o 2 all ≡ code = reads_back o 2 code second small in
    let len : option_len o all ≡ n = ap (number_in o 2) (past o 2 code 0 second) ∙ reads_back o 2 n third short in
    let fits : 4 + option_len o all ≤ length all =
    omega (
      arith,
      len,
      room,
      length-append (bytes_in o 2 code) second,
      length-append (bytes_in o 2 n) third,
      bytes_length o 2 code,
      bytes_length o 2 n,
    ) in
    let place : 4 + padded (option_len o all) ≡ 2 + (2 + padded n) = ap (λ (m : ℕ). 4 + padded m) len ∙ omega arith in
    sym (option_passed o wanted all fits (λ is. absurd (omega (arith, is, code_is, some))) (λ is. other (sym code_is ∙ is)))
    ∙ ap (λ (m : ℕ). value_of o wanted (drop m all)) place
    ∙ ap (value_of o wanted) (past o 2 code (2 + padded n) second ∙ past o 2 n (padded n) third)

pub number_back : (o : Order) (code n x other : ℕ) (options : List ℕ) → value_of o code options ≡ bytes_in o n x → x < 256 ^ n
    → number_of o code n options other ≡ x
number_back o code n x other options is small =
    let len : length (value_of o code options) ≡ n = ap length is ∙ bytes_length o n x in
    pick_true (eqb (length (value_of o code options)) n) (number_in o n (value_of o code options)) other (eq-eqb _ _ len)
    ∙ ap (number_in o n) (is ∙ sym (append-nil (bytes_in o n x)))
    ∙ reads_back o n x [] small
