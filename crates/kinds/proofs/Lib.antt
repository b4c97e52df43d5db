pub mod Inverse
pub mod Naming
pub mod Equal
