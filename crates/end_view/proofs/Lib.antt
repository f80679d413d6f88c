pub mod NoteLaws
pub mod ViewLaws
pub mod QuietLaws
