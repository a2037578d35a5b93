pub mod Closing
pub mod Keeping
pub mod Nesting
pub mod Sound
pub mod WrittenTrees
pub mod Beginnings
pub mod Complete
pub mod Lines
