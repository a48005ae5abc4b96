pub mod Obeyed
pub mod Over
