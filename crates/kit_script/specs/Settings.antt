-- The Configs of the two ends: the defaults, and lines `config SIDE KEY VALUE`.
use Rattle.std.specs.Prelude.{ℕ, Bool, true, false, if◌then◌else◌, List, [], ◌∷◌, bytes_eq, codes, Option, Some, None, option_map}
use Rattle.tcp_halves.specs.declared.config.Config.{Config}
use Rattle.tcp_halves.specs.Config.{default_limit}
use Rattle.kit_text.specs.Words.{number_of}
use Rattle.kit_script.specs.declared.settings.Setting.{Setting}
use Rattle.kit_script.specs.declared.settings.Setting.TheVariants.{Isn, Mss, SendCapacity, RecvCapacity, WindowShift, Sack}

abbrev pub default_config : ℕ → ℕ → ℕ → Config
default_config host port isn = record {
  addr = record { 0 = 10 ∷ 0 ∷ 0 ∷ host ∷ [] };
  port = port;
  isn = record { 0 = isn };
  mss = 1460;
  send_capacity = 65536;
  recv_capacity = 65536;
  window_shift = None;
  sack = true;
  limit = default_limit;
}

-- A is 10.0.0.1, port 1, isn 1000, and B is 10.0.0.2, port 2, isn 5000
abbrev pub default_a : Config
default_a = default_config 1 1 1000

abbrev pub default_b : Config
default_b = default_config 2 2 5000

abbrev pub with_setting : Config → Setting → Config
with_setting c (Isn isn) = record c { isn = record { 0 = isn } }
with_setting c (Mss mss) = record c { mss = mss }
with_setting c (SendCapacity capacity) = record c { send_capacity = capacity }
with_setting c (RecvCapacity capacity) = record c { recv_capacity = capacity }
with_setting c (WindowShift shift) = record c { window_shift = shift }
with_setting c (Sack sack) = record c { sack = sack }

-- a shift, or that none is offered
abbrev pub shift_of : List ℕ → Option (Option ℕ)
shift_of value = if bytes_eq value (codes "none") then Some None else option_map (λ n. Some n) (number_of 255 value)

abbrev pub switch_of : List ℕ → Option Bool
switch_of value =
    if bytes_eq value (codes "on") then Some true else (if bytes_eq value (codes "off") then Some false else None)

-- `KEY VALUE`
abbrev pub setting_of : List ℕ → List ℕ → Option Setting
setting_of key value =
    if bytes_eq key (codes "isn") then option_map Isn (number_of 4294967295 value)
    else (if bytes_eq key (codes "mss") then option_map Mss (number_of 65535 value)
    else (if bytes_eq key (codes "send") then option_map SendCapacity (number_of 4294967295 value)
    else (if bytes_eq key (codes "recv") then option_map RecvCapacity (number_of 4294967295 value)
    else (if bytes_eq key (codes "shift") then option_map WindowShift (shift_of value)
    else (if bytes_eq key (codes "sack") then option_map Sack (switch_of value)
    else None)))))
