pub mod EachLemmas
pub mod ReadLemmas
pub mod SightLemmas
mod StepLemmas
