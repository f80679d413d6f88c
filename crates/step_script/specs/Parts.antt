-- What only the code needs: what its parts stand for.
pub mod Forms
pub mod ScriptLines
pub mod Readings
pub mod Spaced
pub mod EndPlayers
pub mod Players
pub mod Refusals
