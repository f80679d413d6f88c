pub mod Endings
pub mod LineLaws
pub mod LoadLaws
pub mod Pieces
pub mod RelayLaws
pub mod NameLaws
