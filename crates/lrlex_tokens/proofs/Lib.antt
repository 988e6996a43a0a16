pub mod TokenLemmas
