pub mod Echo
pub mod Laws
pub mod Stands
pub mod EchoNamed
