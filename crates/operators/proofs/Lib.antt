pub mod Once
pub mod Exists
pub mod Left
pub mod Climbs
pub mod Table
pub mod Equal
pub mod Shown
pub mod Reading
