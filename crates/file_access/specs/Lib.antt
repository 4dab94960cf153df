pub mod Reading
pub mod Sights
pub mod Trails
pub mod Writing
