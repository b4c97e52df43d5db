pub mod Faults
pub mod Meaning
pub mod Records
pub mod Means
pub mod Reading
