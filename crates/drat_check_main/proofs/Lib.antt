mod Naming
mod Showing
