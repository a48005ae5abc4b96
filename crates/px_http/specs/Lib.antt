pub mod Names
pub mod Stands
