pub mod StepLemmas
pub mod WordLemmas
mod WindowLemmas
