pub mod Changes
pub mod Edits
pub mod Laws
pub mod Requests
pub mod Rows
pub mod Subjects
pub mod Words
