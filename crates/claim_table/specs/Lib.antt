pub mod Board
pub mod Steps
pub mod Shown
pub mod Calls
pub mod Closing
pub mod Tests
