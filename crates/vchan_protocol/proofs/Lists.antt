-- Whole calls are calls on lists.
pub mod ListRows
pub mod ListTells
pub mod ListPieces
pub mod ListCalls
pub mod ListWhole
