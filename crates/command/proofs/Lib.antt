mod Ending
mod Giving
mod Reading
