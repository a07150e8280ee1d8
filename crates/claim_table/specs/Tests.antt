-- Definitions that only the tests cite.
pub mod Crew
