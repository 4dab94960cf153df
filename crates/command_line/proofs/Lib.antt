pub mod ChoiceLemmas
pub mod LineLemmas
pub mod NumberLemmas
pub mod PlanLemmas
pub mod ValueLemmas
pub mod WordLemmas
