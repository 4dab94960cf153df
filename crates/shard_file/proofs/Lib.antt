pub mod Pieces
pub mod ShardLemmas
pub mod StripeLemmas
