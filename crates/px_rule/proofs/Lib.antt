pub mod SpecLemmas
pub mod PatternLemmas
pub mod HeaderLemmas
pub mod BodyLemmas
pub mod ReadLemmas
pub mod ListLemmas
pub mod LawLemmas
