pub mod Fronts
pub mod LaneLemmas
pub mod Majority
pub mod Messages
pub mod Shifts
