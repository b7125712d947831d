mod Ending
mod Meant
