pub mod CommandLemmas
pub mod DeskLemmas
pub mod IdLemmas
pub mod LineLemmas
