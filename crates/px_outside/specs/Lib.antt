pub mod Count
pub mod Files
pub mod MemFiles
pub mod Net
pub mod ScriptNet
pub mod Sink
pub mod VecSink
