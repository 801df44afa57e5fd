mod GivenLemmas
mod KeptLemmas
mod LogLemmas
mod MadeLemmas
mod OnLemmas
mod RunLemmas
mod FlightLemmas
mod StartLemmas
mod FollowLemmas
pub mod Lemmas
