-- What the laws use of a scenario: its domains, names, calls and pages.
pub mod Facts
pub mod Numbers
pub mod Names
pub mod Calls
pub mod Places
