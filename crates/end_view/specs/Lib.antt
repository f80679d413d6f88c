pub mod EndView
pub mod Settled
pub mod AfterCall
