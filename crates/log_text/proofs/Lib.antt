mod Answers
mod Refusals
