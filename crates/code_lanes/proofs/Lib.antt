pub mod FoldLemmas
pub mod LaneLemmas
pub mod RowLemmas
pub mod StepLemmas
pub mod SumLemmas
pub mod TableLemmas
