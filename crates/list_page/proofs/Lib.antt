pub mod AddLemmas
pub mod FrontLemmas
pub mod GroupLemmas
pub mod LastLemmas
pub mod RowLemmas
pub mod StartLemmas
pub mod TextLemmas
pub mod TimeLemmas
