pub mod CarryLemmas
pub mod DiskLemmas
pub mod ElsewhereLemmas
pub mod FlightLemmas
pub mod FlightWriteLemmas
pub mod FreshLemmas
pub mod GoneLemmas
pub mod HandsLemmas
pub mod LaneLemmas
pub mod ListedLemmas
pub mod NamingLemmas
pub mod PinLemmas
pub mod RemovedLemmas
pub mod RowLemmas
pub mod SetLemmas
mod StayLemmas
pub mod ValueLemmas
pub mod WriteLemmas
