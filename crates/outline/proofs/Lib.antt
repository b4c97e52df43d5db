pub mod Escaping
pub mod Printed
pub mod Wholly
