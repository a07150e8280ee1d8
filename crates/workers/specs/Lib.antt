pub mod Worker
pub mod Crew
pub mod Tally
