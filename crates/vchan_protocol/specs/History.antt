-- What both ends have done: the opening of a page, a core state with all that each end did, what is read off a trail, and whole calls.
pub mod Page
pub mod Core
pub mod Peer
pub mod TrailSummary
pub mod WholeCall
