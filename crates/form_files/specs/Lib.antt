pub mod FileLibrary
pub mod OutSink
