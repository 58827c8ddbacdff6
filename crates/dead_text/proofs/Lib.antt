mod Asked
mod DocLines
mod Profile
mod Reading
mod Truth
