pub mod CallLemmas
pub mod HonestLemmas
pub mod PageLemmas
pub mod SetLemmas
pub mod ViewLemmas
