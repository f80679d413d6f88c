pub mod WordLaws
pub mod NumberLaws
pub mod PairLaws
pub mod HexLaws
pub mod FirstWord
pub mod LineLaws
