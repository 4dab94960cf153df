pub mod Codeword
pub mod Columns
pub mod Lagrange
