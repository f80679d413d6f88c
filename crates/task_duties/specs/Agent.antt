-- The agent of a domain: what it is given, what it makes of what it heard, what it may send, how its sessions end, and what it owes.
pub mod Given
pub mod Answers
pub mod Sessions
pub mod Saying
pub mod Owes
