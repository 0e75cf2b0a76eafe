pub mod Answers
pub mod Card
pub mod Room
pub mod Shown
