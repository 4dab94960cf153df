pub mod Content
pub mod Laws
pub mod Limits
pub mod Name
pub mod Step
pub mod Table
