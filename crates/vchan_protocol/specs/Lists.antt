-- Whole calls as calls on lists.
pub mod ListCall
pub mod ListLaw
