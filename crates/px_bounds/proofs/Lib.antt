pub mod ChunkLemmas
pub mod WaitLemmas
pub mod TrailerLemmas
