pub mod BlankLemmas
pub mod LeastLemmas
pub mod LinesLemmas
pub mod NumberLemmas
pub mod PrefixLemmas
