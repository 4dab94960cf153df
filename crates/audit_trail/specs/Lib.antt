pub mod Entries
pub mod LineAudit
pub mod Lines
pub mod MemAudit
