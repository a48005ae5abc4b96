pub mod Digits
pub mod Frame
pub mod Items
pub mod Kinds
pub mod Tree
pub mod View
pub mod Written
