mod Barred
mod BenchRows
mod Clean
mod ItemAt
