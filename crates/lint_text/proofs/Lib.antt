mod Asked
mod Found
mod Profile
mod Reading
mod Told
