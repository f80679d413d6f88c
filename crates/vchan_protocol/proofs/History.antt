-- The next event of an end, what a trail tells, and whole calls event by event.
pub mod EventLaws
pub mod SummaryLaws
pub mod WholeCallLaws
pub mod WholeCallSteps
