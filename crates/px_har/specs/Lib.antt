pub mod Entry
pub mod Export
pub mod Moment
pub mod Puts
pub mod Read
pub mod Rows
pub mod Text
