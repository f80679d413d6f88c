pub mod Answering
pub mod Keeping
pub mod Settling
pub mod Totals
pub mod Rules
pub mod RoundLaws
