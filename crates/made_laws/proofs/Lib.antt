mod Faultless
mod Rules
mod Sample
mod Texts
