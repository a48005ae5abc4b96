pub mod Error
pub mod Text
pub mod Short
pub mod Framing
pub mod ReadBack
pub mod TargetPath
