pub mod AddressLemmas
pub mod RequestLemmas
mod OptionLemmas
pub mod FlowLemmas
pub mod AuthorityLemmas
pub mod HostLemmas
pub mod UrlLemmas
pub mod PieceLemmas
pub mod AddressTextLemmas
mod ListLemmas
mod SetLemmas
pub mod FieldLaws
pub mod FoldLemmas
mod CodingLemmas
mod StatedLemmas
pub mod DecimalLemmas
pub mod SettleLemmas
mod FramingLemmas
mod MessageLemmas
