mod Apartness
mod Deciding
mod Forced
mod Keeping
mod Limits
mod Logging
mod Named
mod TrueLists
