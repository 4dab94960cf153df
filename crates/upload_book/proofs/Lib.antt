pub mod ContentLemmas
pub mod GatherLemmas
pub mod Lawful
