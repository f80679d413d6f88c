pub mod RingLaws
pub mod PageLaws
pub mod PieceLaws
pub mod ByteLaws
pub mod ChoiceLaws
pub mod ImageLaws
pub mod OverwrittenLaws
pub mod OrderLaws
