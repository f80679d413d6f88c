-- The task of the broker: what its journal puts into the outbox of each domain, and what it owes.
pub mod Outbox
pub mod Owes
