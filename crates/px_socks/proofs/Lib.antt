pub mod GreetingLemmas
pub mod LayerLemmas
pub mod RequestLemmas
pub mod StandLemmas
