-- WHAT A SYN MAY OFFER, as bytes.
use Rattle.std.proofs.Common.{◌≡◌, ℕ, List, [], ◌∷◌, refl, ap}
use Rattle.std.specs.Prelude.{Ok, Result}
use Rattle.std.specs.Result.{result_unwrap_or}
use Rattle.tcp_wire.specs.Decoded.{options_in, option_at, padding_at, options_of, IsReadable}
use Rattle.tcp_wire.specs.Options.{OptionContent}
use Rattle.tcp_wire.specs.View.{content_of}
use Rattle.tcp_wire.specs.Wire.{header_len}
use Rattle.tcp_wire.specs.declared.fault.DecodeError.{DecodeError}
use Rattle.tcp_wire.specs.declared.header.Header.{Header}
use Rattle.tcp_judge.specs.Taken.{any_offer}

pub offer_reads : options_in 40 header_len (3 ∷ 3 ∷ 14 ∷ 4 ∷ 2 ∷ 34 ∷ 2 ∷ []) ≡ Ok (any_offer, 0)
unfolding options_in option_at padding_at
offer_reads = refl

pub offer_readable : IsReadable (3 ∷ 3 ∷ 14 ∷ 4 ∷ 2 ∷ 34 ∷ 2 ∷ [])
unfolding options_in option_at padding_at
offer_readable = refl

-- the content of a segment with these bytes for its options
pub offer-content : (header : Header) (text : List ℕ)
    → content_of header (options_of (3 ∷ 3 ∷ 14 ∷ 4 ∷ 2 ∷ 34 ∷ 2 ∷ [])).0 (options_of (3 ∷ 3 ∷ 14 ∷ 4 ∷ 2 ∷ 34 ∷ 2 ∷ [])).1 text ≡ content_of header any_offer 0 text
offer-content header text =
    ap (λ (r : Result (List OptionContent × ℕ) DecodeError). content_of header (result_unwrap_or r ([], 0)).0 (result_unwrap_or r ([], 0)).1 text) offer_reads
