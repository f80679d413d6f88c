pub mod FailingLaws
pub mod PacketLaws
