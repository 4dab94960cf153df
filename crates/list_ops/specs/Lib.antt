pub mod Lists
pub mod Names
pub mod OpStands
pub mod Rounds
pub mod Seeking
pub mod Sheets
