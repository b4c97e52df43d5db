pub mod Growths
pub mod Steps
pub mod Optionals
pub mod Grown
pub mod Rules
