pub mod Columns
pub mod Lines
pub mod Nearest
pub mod Positions
