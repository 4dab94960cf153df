pub mod Bytes
pub mod Machine
pub mod Outcomes
pub mod Documents
pub mod Reads
pub mod Answers
pub mod Grammar
pub mod Limits
