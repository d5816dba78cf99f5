mod Counts
mod Narrow
