pub mod Lawful
pub mod Longest
pub mod Matching
pub mod Sizes
pub mod Texts
