-- What one end can know while others write the page: its own steps, indices and notes, and a whole call by its own events.
pub mod IndexLaw
pub mod EndingLaw
pub mod EndingLaws
pub mod OneEnd
pub mod OneEndLaw
pub mod OneCall
