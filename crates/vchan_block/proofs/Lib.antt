mod RoundLaws
pub mod WaitLaws
mod PipeLaws
