-- The laws of one domain and of one ordered pair: what is sent and heard, ports, answers, limits.
pub mod ControlLaws
pub mod ControlMessages
pub mod PortsLaw
pub mod Planned
pub mod ReplyCounts
pub mod AnswersAllLaw
pub mod SpentLaw
pub mod TiedLaw
pub mod LimitsKeptLaw
