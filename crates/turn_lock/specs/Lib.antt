pub mod History
pub mod Order
pub mod Passes
pub mod Steps
pub mod Tickets
pub mod Views
