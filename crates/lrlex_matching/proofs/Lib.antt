pub mod FindLemmas
pub mod ForCallers
