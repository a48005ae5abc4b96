pub mod AddressLemmas
pub mod TextLemmas
pub mod PathLemmas
pub mod RuleLemmas
pub mod GatherLemmas
pub mod LawLemmas
pub mod ShownLemmas
