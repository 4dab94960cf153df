pub mod Checks
pub mod Laws
pub mod Shards
pub mod Stripes
