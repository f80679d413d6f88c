pub mod PageLaws
pub mod MovingLaws
pub mod SidesLaws
pub mod EndLaws
