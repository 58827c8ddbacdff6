mod Watched
mod Ended
mod Followed
mod Passed
mod Results
mod Tried
mod Barred
mod Barriers
