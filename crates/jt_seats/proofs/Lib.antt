mod Counting
mod Oldest
