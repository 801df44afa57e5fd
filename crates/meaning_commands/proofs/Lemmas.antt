-- The lemmas that other crates may cite.
-- Numbers, spaces and first bytes of a line.
pub use Rattle.meaning_commands.proofs.Words.{reads_number, none_number, before_is, behind_is, none_space, is_behind, none_behind, behind_front, argument_test, test_argument}
-- The command of a line.
pub use Rattle.meaning_commands.proofs.Exact.{spelled, spells, one_command}
pub use Rattle.meaning_commands.proofs.Forms.{form_reads, reads_form}
-- How an input is cut into items, and in one way only.
pub use Rattle.meaning_commands.proofs.ItemLemmas.{one_cut, take-append}
-- What is told of a sink and of a source.
pub use Rattle.meaning_commands.proofs.ToldLemmas.{one_more_write, rest_is}
-- A session's steps, one after the other.
pub use Rattle.meaning_commands.proofs.StreamLemmas.{Finishes-cut_short, Finishes-line, GoesOn-append, GoesOn-item, GoesOn-none, GoesOn-part, StopsAtEnd-line, StopsAtEnd-part, StopsOn-after, StopsOn-item, StopsOn-more, StopsOn-part}
-- How far the reading has come, and how a session ends.
pub use Rattle.meaning_commands.proofs.EndLemmas.{Reading-none, Reading-more, HasRead-none, HasRead-finish, HasRead-piece, HasRead-unread, HasRead-limit}
pub use Rattle.meaning_commands.proofs.EndLemmas.{not_inside, at_word, is_inside, is_long}
