mod Decimals
mod FormLaws
mod Limits
mod Words
