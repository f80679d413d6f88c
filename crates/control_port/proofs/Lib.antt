mod HearingLaws
pub mod PortLaws
pub mod DrainLaws
