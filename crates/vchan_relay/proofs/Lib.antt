pub mod HopLaws
pub mod RelayLaws
pub mod RunLaws
pub mod RowLaws
pub mod Sent
