-- The task of a hostile domain: what it is given, the events of its acts, and the trail that each of its ends has.
pub mod Given
pub mod Stores
pub mod Saying
pub mod Trail
