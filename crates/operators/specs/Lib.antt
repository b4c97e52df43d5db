pub mod Levels
pub mod Nodes
pub mod Groups
pub mod Merges
pub mod Claims
pub mod Shapes
