-- For which core states a machine and a plain page stand.
pub mod StandsFor
pub mod Counts
pub mod Ends
