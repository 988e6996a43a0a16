-- what a definition says
pub mod Definition
pub mod Flags
pub mod WrappedPattern
-- what a rule's pattern matches
pub use Rattle.lrlex_matching.specs.Matching
pub mod Patterns
pub mod Matchers
-- what contracts see of the program's types
pub mod RuleParts
pub mod Kinds
-- which rules are active in a state, and ids by name
pub mod Active
pub mod RuleLists
pub mod Ids
-- how a text is lexed
pub mod Tiling
pub mod Errors
