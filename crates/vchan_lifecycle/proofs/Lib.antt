pub mod LifecycleLaws
pub mod DrainLaws
