pub mod Plan
pub mod Pages
pub mod Saying
pub mod UnderWay
pub mod Turns
pub mod Finishing
