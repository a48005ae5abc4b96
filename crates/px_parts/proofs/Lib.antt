pub mod TextLemmas
pub mod GivenLemmas
pub mod StreamedLemmas
pub mod FieldLemmas
pub mod ChunkLemmas
pub mod ReadBackLemmas
pub mod KeptLemmas
