-- The lemmas that proofs of crates above cite.
pub use Rattle.tcp_numbers.proofs.Positions.{
  position_of_ahead,
  position_of_behind,
  position_of_number,
  offset_ahead,
  offset_behind,
  offset_of_later,
  offset_of_earlier,
  first_inside,
  last_inside,
}
pub use Rattle.tcp_numbers.proofs.WordSums.{one_place, same_length}
