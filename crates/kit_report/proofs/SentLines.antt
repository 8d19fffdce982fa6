-- The lines of the segments that are left, the first of them and the others.
use Rattle.std.proofs.Common.{◌≡◌, ℕ, suc, ◌+◌, ◌<◌, ◌≤◌, [], ◌++◌, length, drop, sym, ap, ◌∙◌, add-one}
use Rattle.std.proofs.Math.Seq.{drop-cons}
use Rattle.std.proofs.lemmas.List.{drop_all}
use Rattle.std.proofs.lemmas.Option.{unwrap_or-slice_get}
use Rattle.tcp_replay.specs.declared.event.Side.{Side}
use Rattle.tcp_replay.specs.World.{WorldState, SentSegment, party_of, segment_at}
use Rattle.kit_report.specs.Ends.{sent_line, lines_of}

-- what is read where nothing was sent
abbrev nothing : SentSegment
nothing = record { bytes = []; position = 0; wanted = 0 }

pub next_line : (w : WorldState) (side : Side) (k : ℕ) → k < length (party_of w side).sent
    → lines_of w side (drop k (party_of w side).sent) ≡ sent_line w side (segment_at (party_of w side) k) ++ lines_of w side (drop (k + 1) (party_of w side).sent)
unfolding lines_of
next_line w side k below =
    ap (lines_of w side) (drop-cons (party_of w side).sent k nothing below)
    ∙ ap (λ segment. sent_line w side segment.bytes ++ lines_of w side (drop (suc k) (party_of w side).sent))
    (sym (unwrap_or-slice_get (party_of w side).sent k nothing))
    ∙ ap (λ n. sent_line w side (segment_at (party_of w side) k) ++ lines_of w side (drop n (party_of w side).sent)) (sym (add-one k))

pub no_line_left : (w : WorldState) (side : Side) (k : ℕ) → length (party_of w side).sent ≤ k → lines_of w side (drop k (party_of w side).sent) ≡ []
unfolding lines_of
no_line_left w side k all = ap (lines_of w side) (drop_all k (party_of w side).sent all)
