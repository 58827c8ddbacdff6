mod Asked
mod Held
mod HeldLogs
mod Texts
mod Truth
