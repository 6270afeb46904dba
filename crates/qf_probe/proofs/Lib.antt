mod Closing
mod Examples
mod FourSweeps
mod Replays
