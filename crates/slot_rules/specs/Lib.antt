pub mod DeedRules
pub mod Deeds
pub mod Fields
pub mod Owning
pub mod Planning
pub mod Plans
pub mod Rules
pub mod Taking
