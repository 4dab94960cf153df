pub mod Limits
pub mod Lines
pub mod Reads
pub mod Scripts
pub mod Reader
