mod Onward
