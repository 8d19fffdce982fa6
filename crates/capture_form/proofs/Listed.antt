-- The list of the frames of a capture's sections.
use Rattle.std.specs.Prelude.{Bool, true, false}
use Rattle.std.proofs.lemmas.List.{append-nil, map-append}
use Rattle.std.proofs.Common.{◌≡◌, ℕ, List, [], ◌∷◌, ◌++◌, length, map, Some, None, sym, ap, ◌∙◌, append_assoc}
use Rattle.capture_form.specs.declared.frame.Frame.{Frame}
use Rattle.capture_form.specs.declared.reading.Stop.{Stop}
use Rattle.capture_form.specs.declared.reading.Stop.TheVariants.{NoCapture}
use Rattle.capture_form.specs.Pcap.{FrameContent, stop_before}
use Rattle.capture_form.specs.Blocks.{is_section}
use Rattle.capture_form.specs.Sections.{SectionContent, start, step_at, blocks_of, ending, sections_of}
use Rattle.capture_form.specs.View.{frame_content}
use Rattle.capture_form.proofs.Choices.{pick_true, pick_false}
use Rattle.capture_form.proofs.Steps.{blocks_some, blocks_none}

pub none_opened : (bytes : List ℕ) (items : List Frame) → items ≡ [] → is_section bytes ≡ false
    → ◌≡◌ {A = (List FrameContent × Bool) × Stop} ((map frame_content items, false), NoCapture) (sections_of bytes)
unfolding sections_of
none_opened bytes items empty is =
    ap (λ (xs : List Frame). ((map frame_content xs, false), NoCapture)) empty
    ∙ sym (pick_false (is_section bytes) (ending (length bytes) (blocks_of start bytes)) (([], false), NoCapture) is)

pub passed_on : (frames : List FrameContent) (s t : SectionContent) (rest behind : List ℕ) (all : List FrameContent × (SectionContent × List ℕ))
    → step_at s rest ≡ Some ((t, None), behind)
    → ◌≡◌ {A = List FrameContent × (SectionContent × List ℕ)} (frames ++ (blocks_of s rest).0, (blocks_of s rest).1) all
    → ◌≡◌ {A = List FrameContent × (SectionContent × List ℕ)} (frames ++ (blocks_of t behind).0, (blocks_of t behind).1) all
passed_on frames s t rest behind all is kept =
    ap (λ (r : List FrameContent × (SectionContent × List ℕ)). (frames ++ r.0, r.1)) (sym (blocks_some s t rest behind None is)) ∙ kept

pub packet_on : (items more : List Frame) (frame : Frame) (s t : SectionContent) (rest behind : List ℕ) (all : List FrameContent × (SectionContent × List ℕ))
    → more ≡ items ++ frame ∷ [] → step_at s rest ≡ Some ((t, Some (frame_content frame)), behind)
    → ◌≡◌ {A = List FrameContent × (SectionContent × List ℕ)} (map frame_content items ++ (blocks_of s rest).0, (blocks_of s rest).1) all
    → ◌≡◌ {A = List FrameContent × (SectionContent × List ℕ)} (map frame_content more ++ (blocks_of t behind).0, (blocks_of t behind).1) all
packet_on items more frame s t rest behind all pushed is kept =
    let later = blocks_of t behind in
    let listed : map frame_content more ++ later.0 ≡ map frame_content items ++ (frame_content frame ∷ later.0) =
    ap (λ (xs : List Frame). map frame_content xs ++ later.0) pushed
    ∙ ap (λ (xs : List FrameContent). xs ++ later.0) (map-append frame_content items (frame ∷ []))
    ∙ append_assoc (map frame_content items) (frame_content frame ∷ []) later.0 in
    ap (λ (xs : List FrameContent). (xs, later.1)) listed
    ∙ ap (λ (r : List FrameContent × (SectionContent × List ℕ)). (map frame_content items ++ r.0, r.1)) (sym (blocks_some s t rest behind (Some (frame_content frame)) is))
    ∙ kept

pub all_read : (bytes : List ℕ) (frames : List FrameContent) (s t : SectionContent) (rest : List ℕ) (lossy : Bool) (stop : Stop) → is_section bytes ≡ true
    → ◌≡◌ {A = List FrameContent × (SectionContent × List ℕ)} (frames ++ (blocks_of s rest).0, (blocks_of s rest).1) (blocks_of start bytes)
    → step_at s rest ≡ None → t ≡ s → lossy ≡ t.is_lossy → stop ≡ stop_before (length bytes) rest
    → ◌≡◌ {A = (List FrameContent × Bool) × Stop} ((frames, lossy), stop) (sections_of bytes)
unfolding sections_of
all_read bytes frames s t rest lossy stop is kept none same told ends =
    let last : blocks_of s rest ≡ ([], (s, rest)) = blocks_none s rest none in
    let all : ◌≡◌ {A = List FrameContent × (SectionContent × List ℕ)} (frames, (s, rest)) (blocks_of start bytes) =
    ap (λ (xs : List FrameContent). (xs, (s, rest))) (sym (append-nil frames))
    ∙ ap (λ (r : List FrameContent × (SectionContent × List ℕ)). (frames ++ r.0, r.1)) (sym last)
    ∙ kept in
    ap (λ (b : Bool). ((frames, b), stop)) (told ∙ ap (λ (u : SectionContent). u.is_lossy) same)
    ∙ ap (λ (e : Stop). ((frames, s.is_lossy), e)) ends
    ∙ ap (ending (length bytes)) all
    ∙ sym (pick_true (is_section bytes) (ending (length bytes) (blocks_of start bytes)) (([], false), NoCapture) is)
