pub mod Counts
pub mod Generated
pub mod Heard
pub mod Noted
pub mod Peer
pub mod Rules
pub mod Script
pub mod Word
