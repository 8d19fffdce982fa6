-- An acknowledgement that is pending has a length, and is told of.
use Rattle.std.proofs.Common.{◌≡◌, Option, Some, None, option_map, is_some, refl}
use Rattle.tcp_conn.specs.Due.{ack_alone}
use Rattle.tcp_conn.specs.Emission.{ack_alone_length}
use Rattle.tcp_conn.specs.State.{State}
use Rattle.tcp_conn.specs.Transmission.{transmit_ack_alone, transmit_of}
use Rattle.tcp_conn.specs.Forms.{segment_of}
use Rattle.tcp_end.specs.Wired.{sent_by}
use Rattle.tcp_wire.specs.Wire.{wire_length}

both-some : {A B D E : Type 0} (f : A → B) (g : A → D) (h : D → E) (o : Option A) → is_some (option_map f o) ≡ is_some (option_map h (option_map g o))
both-some f g h None = refl
both-some f g h (Some x) = refl

pub pending_is : (s : State) → is_some (ack_alone_length s) ≡ is_some (option_map sent_by (transmit_ack_alone s))
unfolding ack_alone_length transmit_ack_alone
pending_is s = both-some (λ due. wire_length (segment_of s due)) (transmit_of s) sent_by (ack_alone s)
