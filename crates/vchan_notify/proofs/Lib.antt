pub mod NotifyLaws
