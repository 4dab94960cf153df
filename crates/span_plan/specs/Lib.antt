pub mod Laws
pub mod Span
