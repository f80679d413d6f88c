-- An honest end's own part, step by step, whatever its peer does.
pub mod EachEvent
pub mod IndexLaws
pub mod EndingSteps
pub mod SideSteps
pub mod OneEndSteps
pub mod OneEndLaws
pub mod OneCallBytes
pub mod OneCallWay
