mod Bare
mod Asks
mod Runs
mod Called
