mod Scanning
mod Splitting
