pub mod Built
pub mod Desk
pub mod DeskView
pub mod HeldAnswers
pub mod Marks
pub mod NextPlaces
