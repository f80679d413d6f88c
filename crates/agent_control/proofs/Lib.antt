pub mod SpeakingLaws
pub mod StoppingLaws
