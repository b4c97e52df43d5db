pub mod Growth
pub mod Builds
pub mod Leaves
