pub mod CallLemmas
pub mod OrderLemmas
