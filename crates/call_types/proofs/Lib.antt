pub mod GoodLemmas
pub mod MaskLemmas
pub mod WhysLemmas
