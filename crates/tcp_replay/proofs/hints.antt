-- SELECTIVE ACKNOWLEDGEMENT: blocks that are reported, and marks, are of what the other end has.
pub mod Holdings
pub mod Hints
