mod Digits
mod Onward
