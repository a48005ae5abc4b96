pub mod Texts
pub mod Streamed
pub mod Laws
pub mod Given
pub mod ReadBack
pub mod Rows
