pub mod CallLaws
pub mod GoingLaws
pub mod EndLaws
pub mod Comes
pub mod Keeps
pub mod ByteLaws
pub mod Sent
