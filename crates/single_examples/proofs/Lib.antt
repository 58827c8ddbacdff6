mod EmptyTests
mod Lines
mod Meeting
mod RootTests
mod Shapes
mod Showing
