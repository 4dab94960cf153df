pub mod OwnPlanLemmas
pub mod PartLemmas
pub mod PlanLemmas
pub mod SizeLemmas
pub mod TakingLemmas
