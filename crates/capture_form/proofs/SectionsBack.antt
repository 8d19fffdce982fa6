-- What is written in the pcapng form reads back: sections.
use Rattle.std.specs.Prelude.{Bool, true, false, not, map, slice_get, if◌then◌else◌}
use Rattle.std.specs.List.{AllByRecursion}
use Rattle.std.proofs.lemmas.Bool.{and_from, lt-ltb, le-ltb}
use Rattle.std.proofs.lemmas.List.{append-nil, length-append, drop_all, take_at}
use Rattle.std.proofs.Common.{◌≡◌, ℕ, ◌+◌, ◌-◌, ◌/◌, ◌%◌, ◌*◌, ◌^◌, ◌<◌, ◌≤◌, ◌||◌, ltb, eqb, List, [], ◌∷◌, ◌++◌, length, take, drop, Some, None, refl, sym, ap, ◌∙◌, append_assoc, arith}
use Rattle.capture_form.specs.declared.order.Order.{Order}
use Rattle.capture_form.specs.declared.order.Order.TheVariants.{Big, Little}
use Rattle.capture_form.specs.declared.reading.Stop.TheVariants.{NoCapture}
use Rattle.capture_form.specs.declared.reading.Stop.TheVariants as stop
use Rattle.capture_form.specs.declared.pcapng.interface.Interface.{Interface}
use Rattle.capture_form.specs.Numbers.{number_in, bytes_in}
use Rattle.capture_form.specs.Pcap.{FrameContent, stop_before}
use Rattle.capture_form.specs.Blocks.{section_kind, is_section, order_magic, order_at, is_whole, padded, value_of, number_of}
use Rattle.capture_form.specs.Sections.{SectionContent, header_after, interface_after, packet_by, after, step_at, resolution_in, is_resolution, units_of, time_at, interface_in, enhanced_in, captured_in, lost_in, told, max_interfaces, with_found, blocks_of, start, ending, sections_of}
use Rattle.capture_form.specs.SectionWriter.{InterfaceWriting, PacketWriting, SectionWriting, described, frame_of, block_before, header_body, interface_options, interface_body, packet_body, packets_before, interfaces_before, section_before, spell_sections, frames_of_all, IsInterface, IsPacket, IsSection}
use Rattle.capture_form.specs.SectionLaws.{ReadsBack}
use Rattle.capture_form.proofs.Choices.{pick_true, pick_false, either_false}
use Rattle.capture_form.proofs.Numbers.{reads_back, bytes_length, past}
use Rattle.capture_form.proofs.Options.{option_short}
use Rattle.capture_form.proofs.Steps.{blocks_some, blocks_none}
use Rattle.capture_form.proofs.StepCuts.{not_less, step_of_none}
use Rattle.capture_form.proofs.SectionWritten.{step_back, is_other, is_packet, same_order, value_back, value_passed, number_back}

-- ---- the block that begins a section

header_magic : (o : Order) (rest : List ℕ) → (if eqb (number_in Big 4 (header_body o ++ rest)) order_magic then Big else Little) ≡ o
unfolding header_body
header_magic Big rest = refl
header_magic Little rest = refl

header_kind : (o : Order) (rest : List ℕ) → eqb (number_in Big 4 (bytes_in o 4 section_kind ++ rest)) section_kind ≡ true
header_kind Big rest = refl
header_kind Little rest = refl

header_length : (o : Order) → length (header_body o) ≡ 16
unfolding header_body
header_length Big = refl
header_length Little = refl

header_section : (o : Order) (rest : List ℕ) → is_section (block_before o section_kind (header_body o) rest) ≡ true
unfolding block_before
header_section o rest =
    let body = header_body o in
    let second = bytes_in o 4 (12 + length body) ++ (body ++ (bytes_in o 4 (12 + length body) ++ rest)) in
    and_from (not (ltb (length (bytes_in o 4 section_kind ++ second)) 4)) (eqb (number_in Big 4 (bytes_in o 4 section_kind ++ second)) section_kind)
    (not_less (length (bytes_in o 4 section_kind ++ second)) 4 (omega (arith, length-append (bytes_in o 4 section_kind) second, bytes_length o 4 section_kind)))
    (header_kind o second)

header_order : (p o : Order) (rest : List ℕ) → order_at p (block_before o section_kind (header_body o) rest) ≡ o
unfolding block_before
header_order p o rest =
    let body = header_body o in
    let size = 12 + length body in
    let third = body ++ (bytes_in o 4 size ++ rest) in
    let second = bytes_in o 4 size ++ third in
    let all = bytes_in o 4 section_kind ++ second in
    let to_third : drop 8 all ≡ third = past o 4 section_kind 4 second ∙ past o 4 size 0 third in
    pick_true (is_section all) (if eqb (number_in Big 4 (drop 8 all)) order_magic then Big else Little) p (header_section o rest)
    ∙ ap (λ (xs : List ℕ). if eqb (number_in Big 4 xs) order_magic then Big else Little) to_third
    ∙ header_magic o (bytes_in o 4 size ++ rest)

header_changes : (o : Order) (s : SectionContent) → after o s (record { kind = section_kind; body = header_body o })
    ≡ Some (record { order = o; interfaces = []; is_lossy = s.is_lossy }, None)
unfolding after header_after header_body
header_changes Big s = refl
header_changes Little s = refl

header_back : (o : Order) (s : SectionContent) (rest : List ℕ) → step_at s (block_before o section_kind (header_body o) rest)
    ≡ Some ((record { order = o; interfaces = []; is_lossy = s.is_lossy }, None), rest)
header_back o s rest =
    let len = header_length o in
    step_back s o section_kind (header_body o) rest (record { order = o; interfaces = []; is_lossy = s.is_lossy }, None) (header_order s.order o rest) (header_changes o s)
    (omega arith) (omega (arith, len)) (omega (arith, len))

-- ---- interfaces

same_interface : (link link' snaplen snaplen' units units' offset offset' : ℕ) → link ≡ link' → snaplen ≡ snaplen' → units ≡ units' → offset ≡ offset'
    → ◌≡◌ {A = Interface} (record { link = link; snaplen = snaplen; units = units; offset = offset }) (record { link = link'; snaplen = snaplen'; units = units'; offset = offset' })
same_interface link link' snaplen snaplen' units units' offset offset' a b c d = rw (a, b, c, d) refl

options_length : (o : Order) (w : InterfaceWriting) → length (interface_options o w) ≡ 24
unfolding interface_options
options_length o w =
    let h = bytes_in o 4 0 in
    let g = bytes_in o 8 w.offset ++ h in
    let f = bytes_in o 2 8 ++ g in
    let e = bytes_in o 2 14 ++ f in
    let d = bytes_in o 3 0 ++ e in
    let c = bytes_in o 1 w.resolution ++ d in
    let b = bytes_in o 2 1 ++ c in
    omega (
      arith,
      length-append (bytes_in o 2 9) b,
      length-append (bytes_in o 2 1) c,
      length-append (bytes_in o 1 w.resolution) d,
      length-append (bytes_in o 3 0) e,
      length-append (bytes_in o 2 14) f,
      length-append (bytes_in o 2 8) g,
      length-append (bytes_in o 8 w.offset) h,
      bytes_length o 2 9,
      bytes_length o 2 1,
      bytes_length o 1 w.resolution,
      bytes_length o 3 0,
      bytes_length o 2 14,
      bytes_length o 2 8,
      bytes_length o 8 w.offset,
      bytes_length o 4 0,
    )

resolution_back : (o : Order) (w : InterfaceWriting) → w.resolution < 2 ^ 8 → resolution_in o (interface_options o w) ≡ w.resolution
unfolding interface_options
resolution_back o w small =
    let rest = bytes_in o 3 0 ++ (bytes_in o 2 14 ++ (bytes_in o 2 8 ++ (bytes_in o 8 w.offset ++ bytes_in o 4 0))) in
    number_back o 9 1 w.resolution 6 (bytes_in o 2 9 ++ (bytes_in o 2 1 ++ (bytes_in o 1 w.resolution ++ rest)))
    (value_back o 9 1 w.resolution rest (omega arith) (omega arith) (omega arith)) (omega (arith, small))

offset_back : (o : Order) (w : InterfaceWriting) → w.offset < 2 ^ 64 → number_of o 14 8 (interface_options o w) 0 ≡ w.offset
unfolding interface_options
offset_back o w small =
    let second = bytes_in o 2 14 ++ (bytes_in o 2 8 ++ (bytes_in o 8 w.offset ++ bytes_in o 4 0)) in
    let third = bytes_in o 1 w.resolution ++ (bytes_in o 3 0 ++ second) in
    let room : 1 ≤ length third = omega (arith, length-append (bytes_in o 1 w.resolution) (bytes_in o 3 0 ++ second), bytes_length o 1 w.resolution) in
    let value : value_of o 14 (bytes_in o 2 9 ++ (bytes_in o 2 1 ++ third)) ≡ bytes_in o 8 w.offset =
    value_passed o 14 9 1 third (omega arith) (omega arith) (omega arith) (λ is. absurd (omega (arith, is))) room
    ∙ ap (value_of o 14) (past o 1 w.resolution 3 (bytes_in o 3 0 ++ second) ∙ past o 3 0 0 second)
    ∙ value_back o 14 8 w.offset (bytes_in o 4 0) (omega arith) (omega arith) (omega arith) in
    number_back o 14 8 w.offset 0 (bytes_in o 2 9 ++ (bytes_in o 2 1 ++ third)) value (omega (arith, small))

interface_length : (o : Order) (w : InterfaceWriting) → length (interface_body o w) ≡ 32
unfolding interface_body
interface_length o w =
    let c = bytes_in o 4 w.snaplen ++ interface_options o w in
    let b = bytes_in o 2 0 ++ c in
    omega (
      arith,
      length-append (bytes_in o 2 w.link) b,
      length-append (bytes_in o 2 0) c,
      length-append (bytes_in o 4 w.snaplen) (interface_options o w),
      bytes_length o 2 w.link,
      bytes_length o 2 0,
      bytes_length o 4 w.snaplen,
      options_length o w,
    )

options_at : (o : Order) (w : InterfaceWriting) → drop 8 (interface_body o w) ≡ interface_options o w
unfolding interface_body
options_at o w =
    past o 2 w.link 6 (bytes_in o 2 0 ++ (bytes_in o 4 w.snaplen ++ interface_options o w))
    ∙ past o 2 0 4 (bytes_in o 4 w.snaplen ++ interface_options o w)
    ∙ past o 4 w.snaplen 0 (interface_options o w)

fixed_back : (o : Order) (w : InterfaceWriting) → IsInterface w → (number_in o 2 (interface_body o w) ≡ w.link) × (number_in o 4 (drop 4 (interface_body o w)) ≡ w.snaplen)
unfolding interface_body
fixed_back o w has =
    let third = bytes_in o 4 w.snaplen ++ interface_options o w in
    let second = bytes_in o 2 0 ++ third in (
      reads_back o 2 w.link second (omega (arith, has.link)),
      ap (number_in o 4) (past o 2 w.link 2 second ∙ past o 2 0 0 third) ∙ reads_back o 4 w.snaplen (interface_options o w) (omega (arith, has.snaplen)),
    )

interface_read : (o : Order) (w : InterfaceWriting) → IsInterface w → interface_in o (interface_body o w) ≡ described w
interface_read o w has =
    let body = interface_body o w in
    let fixed = fixed_back o w has in
    let options = options_at o w in
    same_interface (number_in o 2 body) w.link (number_in o 4 (drop 4 body)) w.snaplen (units_of (resolution_in o (drop 8 body))) (units_of w.resolution) (number_of o 14 8 (drop 8 body) 0) w.offset
    fixed.0 fixed.1
    (ap (λ (xs : List ℕ). units_of (resolution_in o xs)) options ∙ ap units_of (resolution_back o w has.byte))
    (ap (λ (xs : List ℕ). number_of o 14 8 xs 0) options ∙ offset_back o w has.offset)

section : Order → List Interface → Bool → SectionContent
section o known lossy = record { order = o; interfaces = known; is_lossy = lossy }

not_false : (b : Bool) → b ≡ true → not b ≡ false
not_false b is = ap not is

interface_changes : (o : Order) (known : List Interface) (lossy : Bool) (w : InterfaceWriting) → IsInterface w → length known < max_interfaces
    → after o (section o known lossy) (record { kind = 1; body = interface_body o w }) ≡ Some (section o (known ++ described w ∷ []) lossy, None)
unfolding after interface_after section
interface_changes o known lossy w has few =
    let body = interface_body o w in
    let resolution : resolution_in o (drop 8 body) ≡ w.resolution = ap (resolution_in o) (options_at o w) ∙ resolution_back o w has.byte in
    let read : is_resolution (resolution_in o (drop 8 body)) ≡ true = ap is_resolution resolution ∙ has.resolution in
    pick_false (ltb (length body) 8 || (not (ltb (length known) max_interfaces) || not (is_resolution (resolution_in o (drop 8 body))))) None
    (Some (section o (known ++ interface_in o body ∷ []) lossy, None))
    (either_false (ltb (length body) 8) (not (ltb (length known) max_interfaces) || not (is_resolution (resolution_in o (drop 8 body))))
    (le-ltb _ _ (omega (arith, interface_length o w)))
    (either_false (not (ltb (length known) max_interfaces)) (not (is_resolution (resolution_in o (drop 8 body)))) (not_false (ltb (length known) max_interfaces) (lt-ltb _ _ few)) (not_false (is_resolution (resolution_in o (drop 8 body))) read)))
    ∙ ap (λ (i : Interface). Some (section o (known ++ i ∷ []) lossy, None)) (interface_read o w has)

interface_order : (o : Order) (body rest : List ℕ) → order_at o (block_before o 1 body rest) ≡ o
unfolding block_before
interface_order o body rest =
    same_order o (bytes_in o 4 1 ++ (bytes_in o 4 (12 + length body) ++ (body ++ (bytes_in o 4 (12 + length body) ++ rest)))) (is_other o (bytes_in o 4 (12 + length body) ++ (body ++ (bytes_in o 4 (12 + length body) ++ rest))))

interface_back : (o : Order) (known : List Interface) (lossy : Bool) (w : InterfaceWriting) (rest : List ℕ) → IsInterface w → length known < max_interfaces
    → step_at (section o known lossy) (block_before o 1 (interface_body o w) rest) ≡ Some ((section o (known ++ described w ∷ []) lossy, None), rest)
unfolding section
interface_back o known lossy w rest has few =
    let len = interface_length o w in
    step_back (section o known lossy) o 1 (interface_body o w) rest (section o (known ++ described w ∷ []) lossy, None) (interface_order o (interface_body o w) rest)
    (interface_changes o known lossy w has few) (omega arith) (omega (arith, len)) (omega (arith, len))

interfaces_back : (o : Order) (known : List Interface) (lossy : Bool) (ws : List InterfaceWriting) (rest : List ℕ) → AllByRecursion IsInterface ws
    → length known + length ws ≤ max_interfaces → blocks_of (section o known lossy) (interfaces_before o ws rest) ≡ blocks_of (section o (known ++ map described ws) lossy) rest
unfolding interfaces_before
interfaces_back o known lossy [] rest each few = ap (λ (is : List Interface). blocks_of (section o is lossy) rest) (sym (append-nil known))
interfaces_back o known lossy (w ∷ ws) rest each few =
    let more = known ++ described w ∷ [] in
    let len : length more ≡ length known + 1 = length-append known (described w ∷ []) in
    blocks_some (section o known lossy) (section o more lossy) (block_before o 1 (interface_body o w) (interfaces_before o ws rest)) (interfaces_before o ws rest) None
    (interface_back o known lossy w (interfaces_before o ws rest) each.0 (omega (arith, few)))
    ∙ interfaces_back o more lossy ws rest each.1 (omega (arith, few, len))
    ∙ ap (λ (is : List Interface). blocks_of (section o is lossy) rest) (append_assoc known (described w ∷ []) (map described ws))

-- ---- packets

joined : (link link' time time' wire wire' : ℕ) (bytes bytes' : List ℕ) → link ≡ link' → time ≡ time' → wire ≡ wire' → bytes ≡ bytes'
    → ◌≡◌ {A = FrameContent} (record { link = link; time = time; wire = wire; bytes = bytes }) (record { link = link'; time = time'; wire = wire'; bytes = bytes' })
joined link link' time time' wire wire' bytes bytes' a b c d = rw (a, b, c, d) refl

-- what a packet's block says
record PacketReads (o : Order) (p : PacketWriting) : Type 0 where
  len : length (packet_body o p) ≡ 20 + padded (length p.bytes)
  number : number_in o 4 (packet_body o p) ≡ p.number
  high : number_in o 4 (drop 4 (packet_body o p)) ≡ p.ticks / 4294967296
  low : number_in o 4 (drop 8 (packet_body o p)) ≡ p.ticks % 4294967296
  captured : captured_in o (packet_body o p) ≡ length p.bytes
  wire : number_in o 4 (drop 16 (packet_body o p)) ≡ p.wire
  bytes : take (length p.bytes) (drop 20 (packet_body o p)) ≡ p.bytes

packet_reads : (o : Order) (interfaces : List Interface) (p : PacketWriting) → IsPacket interfaces p → PacketReads o p
unfolding packet_body
packet_reads o interfaces p has =
    let size = length p.bytes in
    let pad = bytes_in o (padded size - size) 0 in
    let sixth = p.bytes ++ pad in
    let fifth = bytes_in o 4 p.wire ++ sixth in
    let fourth = bytes_in o 4 size ++ fifth in
    let third = bytes_in o 4 (p.ticks % 4294967296) ++ fourth in
    let second = bytes_in o 4 (p.ticks / 4294967296) ++ third in
    let all = bytes_in o 4 p.number ++ second in
    let to_second : drop 4 all ≡ second = past o 4 p.number 0 second in
    let to_third : drop 8 all ≡ third = past o 4 p.number 4 second ∙ past o 4 (p.ticks / 4294967296) 0 third in
    let to_fourth : drop 12 all ≡ fourth = past o 4 p.number 8 second ∙ past o 4 (p.ticks / 4294967296) 4 third ∙ past o 4 (p.ticks % 4294967296) 0 fourth in
    let to_fifth : drop 16 all ≡ fifth = past o 4 p.number 12 second ∙ past o 4 (p.ticks / 4294967296) 8 third ∙ past o 4 (p.ticks % 4294967296) 4 fourth ∙ past o 4 size 0 fifth in
    let to_sixth : drop 20 all ≡ sixth = past o 4 p.number 16 second ∙ past o 4 (p.ticks / 4294967296) 12 third ∙ past o 4 (p.ticks % 4294967296) 8 fourth ∙ past o 4 size 4 fifth ∙ past o 4 p.wire 0 sixth in
    record {
      len = omega (
        arith,
        length-append (bytes_in o 4 p.number) second,
        length-append (bytes_in o 4 (p.ticks / 4294967296)) third,
        length-append (bytes_in o 4 (p.ticks % 4294967296)) fourth,
        length-append (bytes_in o 4 size) fifth,
        length-append (bytes_in o 4 p.wire) sixth,
        length-append p.bytes pad,
        bytes_length o 4 p.number,
        bytes_length o 4 (p.ticks / 4294967296),
        bytes_length o 4 (p.ticks % 4294967296),
        bytes_length o 4 size,
        bytes_length o 4 p.wire,
        bytes_length o (padded size - size) 0,
      );
      number = reads_back o 4 p.number second (omega (arith, has.number));
      high = ap (number_in o 4) to_second ∙ reads_back o 4 (p.ticks / 4294967296) third (omega (arith, has.ticks));
      low = ap (number_in o 4) to_third ∙ reads_back o 4 (p.ticks % 4294967296) fourth (omega arith);
      captured = ap (number_in o 4) to_fourth ∙ reads_back o 4 size fifth (omega (arith, has.captured));
      wire = ap (number_in o 4) to_fifth ∙ reads_back o 4 p.wire sixth (omega (arith, has.wire));
      bytes = ap (take size) to_sixth ∙ take_at p.bytes pad size refl;
    }

packet_frame : (o : Order) (interfaces : List Interface) (p : PacketWriting) → IsPacket interfaces p → enhanced_in o p.interface (packet_body o p) ≡ frame_of p
packet_frame o interfaces p has =
    let r = packet_reads o interfaces p has in
    let body = packet_body o p in
    let ticks : number_in o 4 (drop 4 body) * 4294967296 + number_in o 4 (drop 8 body) ≡ p.ticks = omega (arith, r.high, r.low) in
    joined p.interface.link p.interface.link (time_at p.interface (number_in o 4 (drop 4 body) * 4294967296 + number_in o 4 (drop 8 body))) (time_at p.interface p.ticks)
    (number_in o 4 (drop 16 body)) p.wire (take (captured_in o body) (drop 20 body)) p.bytes
    refl (ap (time_at p.interface) ticks) r.wire (ap (λ (n : ℕ). take n (drop 20 body)) r.captured ∙ r.bytes)

none_lost : (o : Order) (interfaces : List Interface) (p : PacketWriting) → IsPacket interfaces p → lost_in o (packet_body o p) ≡ 0
none_lost o interfaces p has =
    let r = packet_reads o interfaces p has in
    let body = packet_body o p in
    let place : 20 + padded (captured_in o body) ≡ length body = ap (λ (n : ℕ). 20 + padded n) r.captured ∙ sym r.len in
    let left : drop (20 + padded (captured_in o body)) body ≡ [] = drop_all (20 + padded (captured_in o body)) body (omega (arith, place)) in
    let value : value_of o 4 (drop (20 + padded (captured_in o body)) body) ≡ [] = ap (value_of o 4) left ∙ option_short o 4 [] (omega arith) in
    ap (λ (v : List ℕ). if eqb (length v) 8 then number_in o 8 v else 0) value

or_not : (b : Bool) → (b || false) ≡ b
or_not true = refl
or_not false = refl

told_none : (s : SectionContent) (n : ℕ) → n ≡ 0 → told s n ≡ s
told_none s n is =
    ap (told s) is ∙ ap (λ (b : Bool). record { order = s.order; interfaces = s.interfaces; is_lossy = b }) (or_not s.is_lossy)

packet_changes : (s : SectionContent) (p : PacketWriting) → IsPacket s.interfaces p
    → after s.order s (record { kind = 6; body = packet_body s.order p }) ≡ Some (s, Some (frame_of p))
unfolding after packet_by
packet_changes s p has =
    let o = s.order in
    let body = packet_body o p in
    let r = packet_reads o s.interfaces p has in
    let fits : ltb (length body) (20 + captured_in o body) ≡ false = le-ltb _ _ (omega (arith, r.len, r.captured)) in
    ap (λ (n : ℕ). packet_by s body (slice_get s.interfaces n)) r.number
    ∙ ap (packet_by s body) has.interface
    ∙ pick_false (ltb (length body) (20 + captured_in o body)) None (Some (told s (lost_in o body), Some (enhanced_in o p.interface body))) fits
    ∙ ap (λ (t : SectionContent). Some (t, Some (enhanced_in o p.interface body))) (told_none s (lost_in o body) (none_lost o s.interfaces p has))
    ∙ ap (λ (f : FrameContent). Some (s, Some f)) (packet_frame o s.interfaces p has)

packet_order : (o : Order) (body rest : List ℕ) → order_at o (block_before o 6 body rest) ≡ o
unfolding block_before
packet_order o body rest =
    same_order o (bytes_in o 4 6 ++ (bytes_in o 4 (12 + length body) ++ (body ++ (bytes_in o 4 (12 + length body) ++ rest)))) (is_packet o (bytes_in o 4 (12 + length body) ++ (body ++ (bytes_in o 4 (12 + length body) ++ rest))))

packet_back : (s : SectionContent) (p : PacketWriting) (rest : List ℕ) → IsPacket s.interfaces p
    → step_at s (block_before s.order 6 (packet_body s.order p) rest) ≡ Some ((s, Some (frame_of p)), rest)
packet_back s p rest has =
    let len = (packet_reads s.order s.interfaces p has).len in
    step_back s s.order 6 (packet_body s.order p) rest (s, Some (frame_of p)) (packet_order s.order (packet_body s.order p) rest)
    (packet_changes s p has) (omega arith) (omega (arith, len)) (omega (arith, len, has.captured))

with_all : List FrameContent → List FrameContent × (SectionContent × List ℕ) → List FrameContent × (SectionContent × List ℕ)
with_all frames r = (frames ++ r.0, r.1)

packets_back : (s : SectionContent) (ps : List PacketWriting) (rest : List ℕ) → AllByRecursion (IsPacket s.interfaces) ps
    → blocks_of s (packets_before s.order ps rest) ≡ with_all (map frame_of ps) (blocks_of s rest)
unfolding packets_before with_all
packets_back s [] rest each = refl
packets_back s (p ∷ ps) rest each =
    blocks_some s s (block_before s.order 6 (packet_body s.order p) (packets_before s.order ps rest)) (packets_before s.order ps rest) (Some (frame_of p))
    (packet_back s p (packets_before s.order ps rest) each.0)
    ∙ ap (with_found (Some (frame_of p))) (packets_back s ps rest each.1)

-- ---- sections

section_back : (s : SectionContent) (w : SectionWriting) (rest : List ℕ) → IsSection w → blocks_of s (section_before w rest)
    ≡ with_all (map frame_of w.packets) (blocks_of (section w.order (map described w.interfaces) s.is_lossy) rest)
unfolding section_before section
section_back s w rest has =
    let packets = packets_before w.order w.packets rest in
    let interfaces = interfaces_before w.order w.interfaces packets in
    blocks_some s (section w.order [] s.is_lossy) (block_before w.order section_kind (header_body w.order) interfaces) interfaces None (header_back w.order s interfaces)
    ∙ interfaces_back w.order [] s.is_lossy w.interfaces packets has.interfaces (omega (arith, has.few))
    ∙ packets_back (section w.order (map described w.interfaces) s.is_lossy) w.packets rest has.packets

-- the frames, no drops, and nothing behind them
record Read (found : List FrameContent × (SectionContent × List ℕ)) (listed : List FrameContent) : Type 0 where
  frames : found.0 ≡ listed
  lossy : found.1.0.is_lossy ≡ false
  rest : found.1.1 ≡ []

nothing : (s : SectionContent) → is_whole (order_at s.order []) [] ≡ false
unfolding is_whole
nothing s = refl

all_back : (s : SectionContent) (ws : List SectionWriting) → s.is_lossy ≡ false → AllByRecursion IsSection ws → Read (blocks_of s (spell_sections ws)) (frames_of_all ws)
unfolding spell_sections with_all section
all_back s [] clean each =
    let none = blocks_none s [] (step_of_none s [] (nothing s)) in
    record {
      frames = ap (λ (r : List FrameContent × (SectionContent × List ℕ)). r.0) none;
      lossy = ap (λ (r : List FrameContent × (SectionContent × List ℕ)). r.1.0.is_lossy) none ∙ clean;
      rest = ap (λ (r : List FrameContent × (SectionContent × List ℕ)). r.1.1) none;
    }
all_back s (w ∷ ws) clean each =
    let t = section w.order (map described w.interfaces) s.is_lossy in
    let first = section_back s w (spell_sections ws) each.0 in
    let later = all_back t ws clean each.1 in
    record {
      frames = ap (λ (r : List FrameContent × (SectionContent × List ℕ)). r.0) first ∙ ap (λ (fs : List FrameContent). map frame_of w.packets ++ fs) later.frames;
      lossy = ap (λ (r : List FrameContent × (SectionContent × List ℕ)). r.1.0.is_lossy) first ∙ later.lossy;
      rest = ap (λ (r : List FrameContent × (SectionContent × List ℕ)). r.1.1) first ∙ later.rest;
    }

ended : (whole : ℕ) (found : List FrameContent × (SectionContent × List ℕ)) (frames : List FrameContent) → Read found frames → ending whole found ≡ ((frames, false), stop.Whole)
ended whole found frames r =
    ap (λ (fs : List FrameContent). ((fs, found.1.0.is_lossy), stop_before whole found.1.1)) r.frames
    ∙ ap (λ (b : Bool). ((frames, b), stop_before whole found.1.1)) r.lossy
    ∙ ap (λ (xs : List ℕ). ((frames, false), stop_before whole xs)) r.rest

pub reads_back_lem : ReadsBack
unfolding sections_of spell_sections section_before
reads_back_lem w ws each =
    let all = spell_sections (w ∷ ws) in
    let begins : is_section all ≡ true = header_section w.order (interfaces_before w.order w.interfaces (packets_before w.order w.packets (spell_sections ws))) in
    pick_true (is_section all) (ending (length all) (blocks_of start all)) (([], false), NoCapture) begins
    ∙ ended (length all) (blocks_of start all) (frames_of_all (w ∷ ws)) (all_back start (w ∷ ws) refl each)
