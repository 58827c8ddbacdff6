-- The An+B notation, and the positions that it stands for.
pub mod Notation
pub mod Printed
pub mod Range
pub mod Reading
