pub mod Asks
pub mod Laws
pub mod Rows
pub mod Starting
