pub mod Calls
pub mod FrontView
pub mod Intake
pub mod IntakeView
pub mod Laws
pub mod Reader
pub mod ReaderView
