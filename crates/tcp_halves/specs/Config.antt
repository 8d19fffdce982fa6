-- What an end can be made from, its faults in the order in which they are looked for (no memory is the last), and the numbers
-- and texts under which they are reported.
use Rattle.std.specs.Prelude.{ℕ, true, List, length, ◌≡◌, ◌<◌, ◌≤◌, ◌^◌, unwrap_or, None, codes}
use Rattle.tcp_wire.specs.Checksum.{AreBytes}
use Rattle.tcp_sendq.specs.SendQueue.{max_capacity}
use Rattle.tcp_numbers.specs.declared.addr.Addr.{Addr}
use Rattle.tcp_numbers.specs.declared.seq.Seq.{Seq}
use Rattle.tcp_halves.specs.declared.config.Config.{Config}
use Rattle.tcp_halves.specs.declared.config.ConfigError.{ConfigError}
use Rattle.tcp_halves.specs.declared.config.ConfigError.TheVariants as configs

abbrev pub min_mss : ℕ
min_mss = 64

-- the greatest maximum segment size that an end announces: what an Ethernet frame carries
abbrev pub max_mss : ℕ
max_mss = 1460

-- the greatest shift in use (RFC 7323, 2.3)
abbrev pub max_shift : ℕ
max_shift = 14

-- the greatest limit of a direction: it bounds each of its positions
abbrev pub stream_limit : ℕ
stream_limit = 2 ^ 62

-- below this many bytes any two positions of a direction differ by less than 2^31 (RFC 9293, 3.4)
abbrev pub default_limit : ℕ
default_limit = 2147483632

-- DEFAULTS: text fills an Ethernet frame, windows are not scaled, and selective acknowledgement is permitted
abbrev pub default_config : Addr → ℕ → Seq → Config
default_config addr port isn = record {
  addr = addr;
  port = port;
  isn = isn;
  mss = max_mss;
  send_capacity = 65536;
  recv_capacity = 65536;
  window_shift = None;
  sack = true;
  limit = default_limit;
}

abbrev pub IsCapacity : ℕ → Type 0
IsCapacity capacity = (1 ≤ capacity) × (capacity ≤ max_capacity)

abbrev pub HasGoodCapacities : Config → Type 0
HasGoodCapacities c = IsCapacity c.send_capacity × IsCapacity c.recv_capacity

abbrev pub HasBadCapacity : Config → Type 0
HasBadCapacity c = ¬ HasGoodCapacities c

abbrev pub HasGoodMss : Config → Type 0
HasGoodMss c = (min_mss ≤ c.mss) × (c.mss ≤ max_mss)

abbrev pub HasBadMss : Config → Type 0
HasBadMss c = HasGoodCapacities c × ¬ HasGoodMss c

-- no shift counts as a shift of 0
abbrev pub HasGoodShift : Config → Type 0
HasGoodShift c = unwrap_or c.window_shift 0 ≤ max_shift

abbrev pub HasBadShift : Config → Type 0
HasBadShift c = HasGoodCapacities c × HasGoodMss c × ¬ HasGoodShift c

abbrev pub HasGoodLimit : Config → Type 0
HasGoodLimit c = (1 ≤ c.limit) × (c.limit ≤ stream_limit)

abbrev pub HasBadLimit : Config → Type 0
HasBadLimit c = HasGoodCapacities c × HasGoodMss c × HasGoodShift c × ¬ HasGoodLimit c

-- a Config without fault
abbrev pub IsGoodConfig : Config → Type 0
IsGoodConfig c = HasGoodCapacities c × HasGoodMss c × HasGoodShift c × HasGoodLimit c

-- what an end can be made from, with the ranges of its types
pub record IsConfig (c : Config) : Type 0 where
  pub good : IsGoodConfig c
  pub addr : length c.addr.0 ≡ 4
  pub addr_bytes : AreBytes c.addr.0
  pub port : c.port < 2 ^ 16
  pub isn : c.isn.0 < 2 ^ 32

abbrev pub config_error_number : ConfigError → ℕ
config_error_number configs.BadCapacity = 21
config_error_number configs.BadMss = 23
config_error_number configs.BadShift = 24
config_error_number configs.BadLimit = 25
config_error_number configs.NoMemory = 22

abbrev pub config_error_text : ConfigError → List ℕ
config_error_text configs.BadCapacity = codes "a capacity is not from 1 to 1048576 bytes"
config_error_text configs.BadMss = codes "the maximum segment size is not from 64 to 1460 bytes"
config_error_text configs.BadShift = codes "the window shift is not from 0 to 14"
config_error_text configs.BadLimit = codes "the limit of the stream is not from 1 to 4611686018427387904 bytes"
config_error_text configs.NoMemory = codes "no memory for the buffers"
