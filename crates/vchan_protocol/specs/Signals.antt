-- That no signal is lost between two honest ends.
pub mod SignalLaw
