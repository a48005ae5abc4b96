pub mod Ascii
pub mod Blank
pub mod Least
pub mod Number
pub mod Prefix
