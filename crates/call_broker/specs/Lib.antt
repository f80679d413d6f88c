pub mod Domains
pub mod Pair
pub mod Journal
pub mod Tables
pub mod Brokered
pub mod Inside
pub mod Laws
pub mod Worked
