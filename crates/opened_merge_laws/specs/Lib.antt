pub mod Bodies
pub mod Contents
pub mod Merged
pub mod Plans
pub mod Told
