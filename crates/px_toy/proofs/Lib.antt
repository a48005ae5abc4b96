pub mod EchoGoes
pub mod EchoSteps
