-- The lemmas that proofs of crates above cite, those on positions included.
pub use Rattle.tcp_numbers.proofs.Lemmas.{position_of_ahead, position_of_behind, position_of_number, offset_ahead, offset_behind, offset_of_later, offset_of_earlier, first_inside, last_inside}
pub use Rattle.tcp_wire.proofs.OptionLaws.{blocks_bytes_length}
pub use Rattle.tcp_wire.proofs.RoundTrip.{IsWire_encoded, length_encoded, decoded_encoded, decoded_damaged, differs_set}
pub use Rattle.tcp_wire.proofs.Places.{IsAround, is_around, encoded_over}
pub use Rattle.tcp_wire.proofs.Partials.{partial_over}
