-- AN END WITH A PEER has not given up.
use Rattle.std.proofs.Common.{◌≡◌, ℕ, List, Bool, true, false, refl}
use Rattle.tcp_conn.specs.Phase.{discards, is_closed, has_peer}
use Rattle.tcp_conn.specs.declared.phase.Phase.{Phase}
use Rattle.tcp_conn.specs.declared.phase.Phase.TheVariants.{Closed}
use Rattle.tcp_conn.specs.State.{State}
use Rattle.tcp_replay.specs.Alone.{IsAlone}
use Rattle.tcp_replay.proofs.one_end.Phases.{not-closed-ended, discards-not_ended}

peer-after_syn : (phase : Phase) → has_peer phase ≡ true → is_closed phase ≡ false
peer-after_syn Closed e = absurd (cc)
peer-after_syn other e = refl

pub not-gone : (s : State) (accepted : List ℕ) (closed : Bool) → has_peer s.phase ≡ true → IsAlone s accepted closed → discards s.ending ≡ false
not-gone s accepted closed knows a =
    discards-not_ended s.ending
    (not-closed-ended s.phase s.ending s.sending.snd_una s.sending.snd_nxt s.receiving.opened s.receiving.finished (peer-after_syn s.phase knows) a.progress)
