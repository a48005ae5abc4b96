pub mod BlockLemmas
pub mod ListLemmas
pub mod UrlLemmas
pub mod RemoteLemmas
pub mod SeekingLemmas
pub mod ReadsLemmas
pub mod LocalLemmas
pub mod WithinLemmas
