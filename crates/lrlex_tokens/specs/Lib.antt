pub mod TokenModule
pub mod TokenMap
