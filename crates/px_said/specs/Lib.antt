pub mod ClosedForm
pub mod Walks
pub mod WhatWasRead
pub mod Lines
pub mod WhatCame
