mod FileLemmas
mod HonestLemmas
pub mod LifeLemmas
mod LineLemmas
mod PutLemmas
pub mod RestLemmas
pub mod WorldLemmas
