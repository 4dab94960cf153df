mod Counts
mod Keeps
mod Moves
pub mod OrderLemmas
mod Told
