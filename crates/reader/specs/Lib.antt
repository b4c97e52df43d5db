pub mod Symbols
pub mod States
pub mod Contract
