mod Among
mod Cuts
mod Joins
mod Rows
