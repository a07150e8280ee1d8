pub mod Choice
pub mod Image
pub mod Program
pub mod Runs
