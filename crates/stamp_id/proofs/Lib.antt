pub mod IdLemmas
pub mod IdTests
pub mod IdText
pub mod Ranks
