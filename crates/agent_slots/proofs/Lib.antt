mod IndexLaws
mod PlaceLaws
mod OpenLaws
mod SideLaws
mod WholeLaws
mod OpenedLaws
mod SessionLaws
mod GivenLaws
mod BeginLaws
mod TurnLaws
mod StateLaws
mod AgreeLaws
mod FinishLaws
pub mod AgentLaws
