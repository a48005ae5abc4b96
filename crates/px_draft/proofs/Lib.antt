pub mod Base64Lemmas
pub mod ChangeLemmas
pub mod LineLemmas
pub mod PieceLemmas
pub mod RequestLemmas
pub mod StayLemmas
pub mod ValueLemmas
