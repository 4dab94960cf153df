pub mod ContentLemmas
pub mod Lawful
pub mod NameLemmas
pub mod StepLemmas
