pub mod Differences
pub mod Interpolation
pub mod CodewordLemmas
pub mod BlockLemmas
pub mod SumsOfWeights
pub mod FoldWeights
pub mod ValueLemmas
