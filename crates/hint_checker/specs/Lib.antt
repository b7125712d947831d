pub mod Checked
pub mod Given
pub mod Held
pub mod OneAnswer
pub mod Streams
pub mod Taken
