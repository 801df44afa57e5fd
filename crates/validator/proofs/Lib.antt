mod Places
mod Exact
mod TypesBelow
mod FitLemmas
mod Results
