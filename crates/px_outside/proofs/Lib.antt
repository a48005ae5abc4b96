pub mod StoredLemmas
