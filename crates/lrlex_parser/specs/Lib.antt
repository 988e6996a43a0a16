-- what a rule text says
pub mod Text
pub mod Event
pub mod Declaration
pub mod RuleLine
pub mod Escape
pub mod Outcome
pub mod AllFaults
pub mod DefinitionLaws
-- what contracts see of the program's types
pub mod LexErrorKind
pub mod LexBuildError
pub mod LexBuildResult
-- what the functions inside the crate promise each other
pub mod Names
pub mod Duplicates
pub mod LexParser
pub mod Survey
