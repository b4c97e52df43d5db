pub mod Shown
pub mod Whole
