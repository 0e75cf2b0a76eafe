mod Exits
mod Several
mod Whole
