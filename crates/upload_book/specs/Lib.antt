pub mod Content
pub mod Gathering
pub mod Joining
pub mod Laws
pub mod Limits
pub mod Storing
pub mod Table
