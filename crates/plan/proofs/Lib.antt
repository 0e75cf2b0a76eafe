pub mod Laying
pub mod Measured
pub mod Remaining
