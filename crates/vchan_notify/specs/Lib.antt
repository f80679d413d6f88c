pub mod Notify
