mod Again
mod Answering
mod BodyPlans
mod KeptContents
mod Lengths
mod Marks
mod Numbers
mod OpenedExamples
mod ReadBack
mod ReadContents
mod ReadWinners
mod StandingApart
mod Winners
mod Writing
pub mod ForCallers
