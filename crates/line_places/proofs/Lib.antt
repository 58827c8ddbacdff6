mod Beginnings
mod Encoding
mod Parting
mod Points
mod Showing
