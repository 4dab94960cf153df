pub mod Fold
pub mod Lanes
pub mod Rows
pub mod Steps
pub mod Sums
pub mod Tables
