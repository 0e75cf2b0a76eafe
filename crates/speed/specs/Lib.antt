pub mod Kinds
pub mod Made
pub mod Questions
