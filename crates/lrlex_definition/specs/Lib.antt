pub mod RuleTable
pub mod Somewhere
pub mod StateTables
pub mod RowKinds
pub mod Never
