pub mod Laws
pub mod Lines
pub mod LiveFiles
pub mod Lives
pub mod Puts
pub mod Scripts
pub mod Worlds
