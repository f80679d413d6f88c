-- The worked rows, computed.
pub mod WorkedRow
pub mod WorkedEnd
pub mod WorkedAnswers
pub mod WorkedSignals
pub mod WorkedTurn
pub mod WorkedOneEnd
