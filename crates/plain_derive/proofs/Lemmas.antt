-- The lemmas that other crates may cite.
-- What is found, and the calls that were made for it.
pub use Rattle.plain_derive.proofs.MadeLemmas.{found_by_all, made_are_calls, made_are_once, all_are_made}
-- The count of the tools' faults over a derivation.
pub use Rattle.plain_derive.proofs.LogLemmas.{uncounted, given_up_counted}
-- Outcomes that were given over those that are kept.
pub use Rattle.plain_derive.proofs.KeptLemmas.{kept_stays, given_are_calls, given_are_new, none_is_given, given_are_all, given_fit, given_are_true}
pub use Rattle.plain_derive.proofs.KeptLemmas.{by_given, by_kept, given_or_kept, last_or, one_more_known}
pub use Rattle.plain_derive.proofs.GivenLemmas.{given_is_in}
pub use Rattle.plain_derive.proofs.OnLemmas.{first_in, one_more_made}
pub use Rattle.plain_derive.proofs.LogLemmas.{same_answer, same_faults, none_run, few_run, cut_rests, cut_counted, cut_answer}
-- Tools in flight.
pub use Rattle.plain_derive.proofs.FlightLemmas.{full_waits, flown_given, flown_came, flown_answer, flown_told, flown_few, flown_faults, none_flew, faults_later, faults_rose, refused_more, off_for_chain, none_flies}
pub use Rattle.plain_derive.proofs.FlightLemmas.{is_flown, flights_are_few, counted_on, refused_fly_none, known_fly_none, full_is_lesser, founded_rests}
pub use Rattle.plain_derive.proofs.StartLemmas.{flown_starts, only_needed_starts}
-- What the log of a flight leads to.
pub use Rattle.plain_derive.proofs.FollowLemmas.{log_stays, log_both, flown_apart, flights_are_logged}
