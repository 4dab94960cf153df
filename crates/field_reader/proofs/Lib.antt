pub mod Parts
pub mod Numbers
pub mod Series
pub mod Whole
pub mod Chains
