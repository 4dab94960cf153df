pub mod Clashes
pub mod Holders
pub mod Laws
pub mod Names
pub mod Plans
pub mod Prints
pub mod Shards
pub mod Staging
