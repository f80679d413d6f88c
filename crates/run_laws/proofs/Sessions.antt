-- The laws of one call: that it is served, and how its session comes out.
pub mod Services
pub mod CallLaw
pub mod ServedAllLaw
pub mod ResultLaws
pub mod CallEnds
