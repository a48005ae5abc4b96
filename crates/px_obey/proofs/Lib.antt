pub mod ObeyLemmas
pub mod OrderLemmas
pub mod LinesLemmas
