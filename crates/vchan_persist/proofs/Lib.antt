mod ListLaws
mod ScribbleLaws
mod EpochLaws
mod Sent
