pub mod GateCalls
pub mod GateDue
pub mod GateLaws
