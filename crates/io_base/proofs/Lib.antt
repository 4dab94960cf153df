pub mod Counting
pub mod Giving
pub mod Taking
pub mod Turning
pub mod Works
pub mod Writing
