pub mod TunnelSteps
pub mod UpstreamLemmas
