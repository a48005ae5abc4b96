pub mod Laws
pub mod Reaching
pub mod Stands
pub mod Tunnel
pub mod Upstream
