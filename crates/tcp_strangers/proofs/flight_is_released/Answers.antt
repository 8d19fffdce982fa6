use Rattle.tcp_strangers.proofs.Acknowledgements.{flight-released}
use Rattle.tcp_strangers.proofs.flight_is_released.Goals as goal

pub returns : goal.returns
returns c = flight-released
