pub mod EscapedLemmas
pub mod UrlLemmas
pub mod DateLemmas
pub mod Chains
pub mod LawLemmas
pub mod PlainLemmas
pub mod RowLemmas
