pub mod Quits
pub mod TakenDue
pub mod Failed
