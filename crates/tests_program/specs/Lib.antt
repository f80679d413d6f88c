pub mod RowRings
