-- Each step between two honest ends keeps the laws of rings and of lives.
pub mod ChannelLaws
pub mod EndSteps
pub mod RingSteps
pub mod LifeTrails
pub mod LifeWords
pub mod LifeSides
pub mod LifeOwed
pub mod LifeSteps
pub mod GoneWords
pub mod LawfulSteps
