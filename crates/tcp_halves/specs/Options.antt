-- The options of a SYN, and what the two SYNs agree on by them (RFC 9293, 3.7.1; RFC 7323, 2.2; RFC 2018, 2).
use Rattle.std.specs.Prelude.{ℕ, Bool, false, if◌then◌else◌, true, ◌&&◌, List, [], ◌∷◌, Option, Some, None, min, is_some, unwrap_or, max}
use Rattle.tcp_wire.specs.Options.{OptionContent, Nop, Mss, WindowScale, SackPermitted, Sack, Unknown}
use Rattle.tcp_reasm.specs.Reassembly.{blocks}
use Rattle.tcp_halves.specs.declared.config.Config.{Config}
use Rattle.tcp_halves.specs.declared.link.Link.{Link}
use Rattle.tcp_halves.specs.Config.{max_shift, min_mss}

-- the peer's maximum segment size where it announces none (RFC 9293, 3.7.1)
abbrev pub default_mss : ℕ
default_mss = 536

-- OPTIONS OF A SYN: of repeated options the first counts
abbrev pub mss_option : List OptionContent → Option ℕ
mss_option [] = None
mss_option (Mss size ∷ options) = Some size
mss_option (Nop ∷ options) = mss_option options
mss_option (WindowScale shift ∷ options) = mss_option options
mss_option (SackPermitted ∷ options) = mss_option options
mss_option (Sack blocks ∷ options) = mss_option options
mss_option (Unknown kind body ∷ options) = mss_option options

abbrev pub shift_option : List OptionContent → Option ℕ
shift_option [] = None
shift_option (WindowScale shift ∷ options) = Some shift
shift_option (Nop ∷ options) = shift_option options
shift_option (Mss size ∷ options) = shift_option options
shift_option (SackPermitted ∷ options) = shift_option options
shift_option (Sack blocks ∷ options) = shift_option options
shift_option (Unknown kind body ∷ options) = shift_option options

abbrev pub permits_sack : List OptionContent → Bool
permits_sack [] = false
permits_sack (SackPermitted ∷ options) = true
permits_sack (Nop ∷ options) = permits_sack options
permits_sack (Mss size ∷ options) = permits_sack options
permits_sack (WindowScale shift ∷ options) = permits_sack options
permits_sack (Sack blocks ∷ options) = permits_sack options
permits_sack (Unknown kind body ∷ options) = permits_sack options

-- SYN OPTIONS: scaling and selective acknowledgement are in use where both SYNs have them
unfoldable pub link_of : Config → List OptionContent → Link
link_of c options = record {
  peer_mss = max min_mss (unwrap_or (mss_option options) default_mss);
  scaling = is_some c.window_shift && is_some (shift_option options);
  peer_shift = if is_some c.window_shift then min max_shift (unwrap_or (shift_option options) 0) else 0;
  sack = c.sack && permits_sack options;
}
