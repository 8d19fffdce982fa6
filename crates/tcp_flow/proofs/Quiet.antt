-- What leaves no more in flight than there was, and an end as sized as it was.
use Rattle.std.proofs.Common.{ℕ, ◌-◌, ◌≤◌, Bool, true, false, arith}
use Rattle.std.specs.Prelude.{if◌then◌else◌}
use Rattle.tcp_halves.specs.Sender.{Sending}
use Rattle.tcp_halves.specs.Config.{min_mss}
use Rattle.tcp_conn.specs.State.{State}

abbrev pub span : Sending → ℕ
span s = s.snd_nxt - s.snd_una

-- a full segment has room for text
abbrev pub IsWide : State → Type 0
IsWide s = (min_mss ≤ s.config.mss) × (min_mss ≤ s.link.peer_mss)

pub record Quiet (s after : State) : Type 0 where
  pub sized : IsWide s → IsWide after
  pub fewer : span after.sending ≤ span s.sending

pub no_more : (n : ℕ) → n ≤ n
no_more n = omega arith

pub same : (s : State) → Quiet s s
same s = record { sized = λ a. a; fewer = no_more (span s.sending) }

pub then_quiet : (s one two : State) → Quiet s one → Quiet one two → Quiet s two
then_quiet s one two a b = record { sized = λ w. b.sized (a.sized w); fewer = omega (arith, a.fewer, b.fewer) }

pub either : (s one two : State) (b : Bool) → Quiet s one → Quiet s two → Quiet s (if b then one else two)
either s one two true a e = a
either s one two false a e = e

pub either_span : (b : Bool) (one two : Sending) (n : ℕ) → span one ≤ n → span two ≤ n → span (if b then one else two) ≤ n
either_span true one two n e f = e
either_span false one two n e f = f

pub none_left : (n most : ℕ) → n - n ≤ most
none_left n most = omega arith
