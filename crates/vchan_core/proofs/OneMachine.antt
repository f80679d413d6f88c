-- How a machine goes on, and what its numbers tell.
pub mod PhaseLaws
pub mod KeepLaws
