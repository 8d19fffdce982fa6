mod Network
mod Counting
mod Steps
mod Moves
mod Outgoing
mod Arriving
mod Networks
