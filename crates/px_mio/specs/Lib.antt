pub mod Listening
pub mod Opening
pub mod Own
