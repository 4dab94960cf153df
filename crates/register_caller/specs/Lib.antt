pub mod BothWrites
pub mod Pending
pub mod Steps
pub mod WrittenLanes
