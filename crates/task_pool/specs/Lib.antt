pub mod Owes
pub mod Holding
pub mod Rule
pub mod Results
pub mod Rounds
