pub mod KeyLemmas
pub mod PlaceLemmas
pub mod RunLemmas
pub mod ParameterLemmas
pub mod LeftLemmas
