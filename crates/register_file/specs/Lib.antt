pub mod Layout
pub mod Lengths
pub mod Record
pub mod Rows
pub mod Spelling
pub mod Table
