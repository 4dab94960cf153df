pub mod Feeds
pub mod Good
pub mod Letters
pub mod Refusals
pub mod Whys
