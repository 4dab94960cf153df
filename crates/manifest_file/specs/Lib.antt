pub mod Canonical
pub mod Layout
pub mod Limits
pub mod Print
pub mod Rows
pub mod Spelling
pub mod Table
