mod ClearLemmas
mod CompleteLemmas
mod DecidingLemmas
mod EachLemmas
mod FormatLemmas
mod FormatStayLemmas
mod LooseLemmas
mod OpenLemmas
mod ServeLemmas
mod StayLemmas
pub mod TermLemmas
