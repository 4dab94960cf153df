pub mod ByteLemmas
pub mod FieldProofs
pub mod LawProofs
pub mod Rows
