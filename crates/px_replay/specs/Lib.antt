pub mod Key
pub mod Same
pub mod Ties
pub mod Replaying
pub mod Left
pub mod Replayed
pub mod Agree
