mod Counted
mod Growing
mod Inside
