pub mod NumberLemmas
pub mod WordLemmas
pub mod FeedLemmas
pub mod KindLemmas
pub mod ScriptLemmas
pub mod OverLemmas
pub mod ReaderLemmas
pub mod OneLemmas
