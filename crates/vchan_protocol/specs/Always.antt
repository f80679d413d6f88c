-- What holds of a page whatever happens to it.
pub mod Invariant
