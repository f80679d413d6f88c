-- Worked rows, by which the definitions can be checked.
pub mod WorkedRow
pub mod WorkedEnd
pub mod WorkedAnswers
pub mod WorkedSignals
pub mod WorkedTurn
pub mod WorkedOneEnd
