-- stacks as entries, and boundaries with them
pub mod Entries
pub mod Boundaries
pub mod Moves
pub mod Entering
-- what the functions inside the crate promise each other
pub mod Ranges
pub mod Arena
