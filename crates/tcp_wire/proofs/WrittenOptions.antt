-- Options and blocks, written one after another.
use Rattle.std.proofs.Common.{◌≡◌, ℕ, ◌+◌, ◌-◌, ◌*◌, ◌/◌, ◌<◌, ◌≤◌, List, ◌++◌, length, take, drop, map, get_or, sym, ap, ◌∙◌, length-append, append_assoc, arith}
use Rattle.std.specs.List.{flat_map}
use Rattle.std.proofs.lemmas.List.{map_more, length-map, length-take-le, length-drop, take-append-drop, drop_at, drop-drop}
use Rattle.tcp_numbers.specs.declared.seq.Seq.{Seq}
use Rattle.tcp_wire.specs.declared.option.TcpOption.{TcpOption}
use Rattle.tcp_wire.specs.Options.{block_bytes, spelling, spellings}
use Rattle.tcp_wire.specs.Wire.{Content, option_bytes, wire_length, number_bytes, control_bytes, header, segment_bytes}
use Rattle.tcp_wire.specs.View.{block, option_content}
use Rattle.tcp_wire.proofs.OptionLaws.{blocks_bytes_length, blocks_push, spellings_push}
use Rattle.tcp_wire.proofs.Places.{written_after}
use borrow.Rule.Slice.PartMut.{put_mid}

pub blocks_written : (blocks : List (Seq × Seq)) (i k : ℕ) (d : Seq × Seq) (old out part : List ℕ) → i < length blocks → k ≡ length out - 8 * i
    → part ≡ block_bytes (block (get_or blocks i d)) ++ drop 8 (take k (drop (8 * i) out))
    → out ≡ flat_map block_bytes (map block (take i blocks)) ++ drop (8 * i) old
    → put_mid (8 * i) k out part ≡ flat_map block_bytes (map block (take (i + 1) blocks)) ++ drop (8 * (i + 1)) old
blocks_written blocks i k d old out part inside len part_is before =
    let front : List ℕ = flat_map block_bytes (map block (take i blocks)) in
    let front_len : length front ≡ 8 * i = omega (arith, blocks_bytes_length (map block (take i blocks)), length-map (take i blocks) block, length-take-le i blocks (omega arith)) in
    let next : 8 * i + 8 ≡ 8 * (i + 1) = omega arith in
    let more : flat_map block_bytes (map block (take (i + 1) blocks)) ≡ front ++ block_bytes (block (get_or blocks i d)) =
    ap (flat_map block_bytes) (map_more block blocks i d inside) ∙ blocks_push (map block (take i blocks)) (block (get_or blocks i d)) in
    written_after (8 * i) k 8 front old out part (block_bytes (block (get_or blocks i d))) before front_len len part_is
    ∙ ap (λ (xs : List ℕ). xs ++ drop (8 * i + 8) old) (sym more)
    ∙ ap (λ (n : ℕ). flat_map block_bytes (map block (take (i + 1) blocks)) ++ drop n old) next

abbrev pub OptionsWritten : List TcpOption → ℕ → ℕ → List ℕ → List ℕ → Type 0
OptionsWritten options i at old out = (out ≡ spellings (map option_content (take i options)) ++ drop at old) × (at ≡ length (spellings (map option_content (take i options))))

pub options_written : (options : List TcpOption) (i at k n : ℕ) (o : TcpOption) (old out part : List ℕ) → i < length options → o ≡ get_or options i o → k ≡ length out - at
    → n ≡ length (spelling (option_content o)) → part ≡ spelling (option_content o) ++ drop (length (spelling (option_content o))) (take k (drop at out))
    → OptionsWritten options i at old out → OptionsWritten options (i + 1) (at + n) old (put_mid at k out part)
options_written options i at k n o old out part inside is len n_is part_is before =
    let front : List ℕ = spellings (map option_content (take i options)) in
    let more : spellings (map option_content (take (i + 1) options)) ≡ front ++ spelling (option_content o) =
    ap spellings (map_more option_content options i o inside) ∙ spellings_push (map option_content (take i options)) (option_content (get_or options i o))
    ∙ ap (λ (x : TcpOption). front ++ spelling (option_content x)) (sym is) in (
      written_after at k (length (spelling (option_content o))) front old out part (spelling (option_content o)) before.0 (sym before.1) len part_is
          ∙ ap (λ (xs : List ℕ). xs ++ drop (at + length (spelling (option_content o))) old) (sym more)
          ∙ ap (λ (m : ℕ). spellings (map option_content (take (i + 1) options)) ++ drop (at + m) old) (sym n_is),
      omega (arith, before.1, n_is, ap length more, length-append front (spelling (option_content o))),
    )

-- the whole segment: options and padding, then the header in front of them, around the text that is there
pub around_written : (v : Content) (len k n offset : ℕ) (old one area two : List ℕ) → k ≡ length old - 20 → offset ≡ 5 + length (option_bytes v) / 4 → len ≡ length (option_bytes v) → v.text ≡ take n (drop (20 + len) old)
    → 20 + len + n ≤ length old → area ≡ option_bytes v ++ drop (length (option_bytes v)) (take k (drop 20 old)) → one ≡ put_mid 20 k old area
    → two ≡ number_bytes v ++ (control_bytes v offset 0 ++ drop 20 one) → two ≡ segment_bytes v 0 ++ drop (wire_length v) old
around_written v len k n offset old one area two klen offset_is len_is text_is room area_is one_is two_is =
    let L : ℕ = length (option_bytes v) in
    let front : List ℕ = take 20 old in
    let front_len : length front ≡ 20 = length-take-le 20 old (omega arith) in
    let first : one ≡ (front ++ option_bytes v) ++ drop (20 + L) old =
    one_is ∙ written_after 20 k L front old old area (option_bytes v) (sym (take-append-drop 20 old)) front_len klen area_is in
    let behind : drop 20 one ≡ option_bytes v ++ drop (20 + L) old =
    ap (drop 20) (first ∙ append_assoc front (option_bytes v) (drop (20 + L) old)) ∙ drop_at front (option_bytes v ++ drop (20 + L) old) 20 front_len in
    let second : two ≡ (header v 0 ++ option_bytes v) ++ drop (20 + len) old =
    two_is ∙ ap (λ (m : ℕ). number_bytes v ++ (control_bytes v m 0 ++ drop 20 one)) offset_is ∙ ap (λ (xs : List ℕ). header v 0 ++ xs) behind ∙ ap (λ (m : ℕ). (header v 0 ++ option_bytes v) ++ drop (20 + m) old) (sym len_is) in
    let rest : List ℕ = drop (20 + len) old in
    let text_len : length v.text ≡ n = ap length text_is ∙ length-take-le n rest (omega (arith, length-drop (20 + len) old)) in
    let parts : rest ≡ v.text ++ drop (wire_length v) old =
    sym (take-append-drop n rest) ∙ ap (λ (xs : List ℕ). xs ++ drop n rest) (sym text_is) ∙ ap (λ (xs : List ℕ). v.text ++ xs) (drop-drop n (20 + len) old)
    ∙ ap (λ (m : ℕ). v.text ++ drop m old) (omega (arith, len_is, text_len)) in
    second ∙ ap (λ (xs : List ℕ). (header v 0 ++ option_bytes v) ++ xs) parts ∙ sym (append_assoc (header v 0 ++ option_bytes v) v.text (drop (wire_length v) old))
