pub mod DamageLemmas
pub mod ExactLemmas
pub mod FilesLemmas
pub mod NameLemmas
pub mod ResultLemmas
pub mod StopLemmas
pub mod TrailLemmas
