pub mod Counts
pub mod Streams
pub mod MemSource
pub mod MemSink
pub mod StdStream
