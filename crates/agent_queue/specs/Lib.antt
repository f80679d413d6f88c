pub mod Queue
pub mod Asking
pub mod Index
pub mod Inside
