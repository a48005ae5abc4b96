mod BodyLemmas
mod DateLemmas
mod EntryLemmas
mod ExportLemmas
pub mod OnLiterals
mod PutLemmas
mod RowLemmas
mod TreeLemmas
