pub mod CallingLemmas
pub mod KeptLemmas
pub mod LeavingLemmas
pub mod LiveLemmas
pub mod ServingLemmas
pub mod SettlingLemmas
pub mod StepLemmas
