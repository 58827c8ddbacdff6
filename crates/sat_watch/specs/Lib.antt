pub mod Nonempty
pub mod Numbered
pub mod Soundness
pub mod Watch
pub mod Watches
