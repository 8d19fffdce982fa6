-- What a flow asks of an end of a connection.
use Rattle.std.specs.Prelude.{◌≡◌, ℕ, ◌-◌, nat_lt, if◌then◌else◌, Option, Some, None, option_map}
use Rattle.std.proofs.Common.{refl}
use Rattle.tcp_conn.specs.declared.emit.train.Train.{Train}
use Rattle.tcp_conn.specs.declared.status.Negotiated.{Negotiated}
use Rattle.tcp_conn.specs.State.{State}
use Rattle.tcp_conn.specs.Status.{negotiated_of}
use Rattle.tcp_end.specs.Wired.{row_by}

-- SMSS is the MSS that both SYNs agreed on, once the peer's has come (RFC 5681, 2; RFC 9293, 3.7.1)
abbrev pub smss_by : Option Negotiated → Option ℕ
smss_by None = None
smss_by (Some agreed) = if nat_lt 0 agreed.mss then Some agreed.mss else None

abbrev pub smss_of : State → Option ℕ
smss_of s = smss_by (negotiated_of s)

-- segments as one take the numbers between where the first begins and the last ends, as the driver is told of them
abbrev pub numbers_of : Train → ℕ
numbers_of train = train.whole.end - train.whole.position

pub counted : (train : Option Train) → option_map (λ row. row.count) (option_map row_by train) ≡ option_map numbers_of train
counted None = refl
counted (Some train) = refl
