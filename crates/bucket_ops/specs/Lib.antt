pub mod Begins
pub mod Changes
pub mod Deeds
pub mod Lists
pub mod Looks
pub mod Rows
pub mod Seeking
pub mod Taking
