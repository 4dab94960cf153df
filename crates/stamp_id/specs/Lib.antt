pub mod IdField
pub mod Layout
pub mod Rank
pub mod Reads
pub mod VersionId
