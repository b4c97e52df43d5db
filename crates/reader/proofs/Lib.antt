pub mod Lists
pub mod Rows
pub mod Marks
pub mod Readers
pub mod Within
pub mod Starts
pub mod Takes
