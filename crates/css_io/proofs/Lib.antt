pub mod Moving
mod Examples
