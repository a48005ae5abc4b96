pub mod TargetTextLemmas
pub mod PlainLemmas
pub mod ReadBackLemmas
pub mod ReadLemmas
pub mod TargetLemmas
pub mod TargetPathLemmas
pub mod ChunkTextLemmas
mod FramingLemmas
