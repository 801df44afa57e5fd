mod Scan
mod FailingEnds
