pub mod FeedLemmas
pub mod FormLemmas
pub mod FramesLemmas
pub mod FrontLemmas
pub mod HeadLemmas
pub mod MaskLemmas
pub mod ReadLemmas
pub mod WrittenLemmas
