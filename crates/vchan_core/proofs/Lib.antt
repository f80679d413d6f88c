pub mod OneMachine
pub mod Page
pub mod WholeCall
