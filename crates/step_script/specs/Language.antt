-- The language: which bytes are a script, and its lines as values.
pub mod Tables
pub mod Operands
pub mod Pokes
pub mod Opening
pub mod Script
pub mod Grammar
