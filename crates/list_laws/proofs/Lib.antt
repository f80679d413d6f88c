pub mod Tests
pub mod Results
pub mod Each
pub mod Pairs
pub mod Places
pub mod Prefixes
