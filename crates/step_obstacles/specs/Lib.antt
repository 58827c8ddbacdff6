pub mod Known
pub mod Among
pub mod Asking
pub mod Blocked
pub mod Hinted
pub mod Spans
pub mod StepWindow
pub mod Turns
