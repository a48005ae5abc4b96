pub mod GoalLemmas
pub mod OrderLemmas
pub mod BodyLemmas
