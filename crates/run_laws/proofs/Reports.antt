-- From the laws to the report.
pub mod ReadLaws
pub mod FineCalls
pub mod HonestReport
pub mod HostileServed
pub mod ExecOrder
pub mod WholeReport
pub mod LawfulReport
pub mod SessionLines
