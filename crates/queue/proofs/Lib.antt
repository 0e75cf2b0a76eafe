mod Draining
mod Filling
mod Putting
mod Ranking
mod Rising
mod Taking
