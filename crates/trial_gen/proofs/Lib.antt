pub mod Growing
mod MadeExamples
