pub mod DateLemmas
mod JarLemmas
pub mod KeyLemmas
mod LawLemmas
mod KeepLemmas
pub mod KeptLemmas
mod PlaceLemmas
mod MoveLemmas
mod PathLemmas
mod ResultLemmas
mod SiteLemmas
mod TextLemmas
mod ValueLemmas
