pub mod LawProofs
pub mod Longest
pub mod Matching
pub mod PrintText
pub mod RootLemmas
pub mod Sizes
pub mod Texts
