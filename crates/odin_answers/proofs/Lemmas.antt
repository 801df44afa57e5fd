-- The lemmas that other crates may cite.
-- What stays of the tools over replies, and the count of their faults.
pub use Rattle.odin_answers.proofs.CountLemmas.{answer_later, answer_uncounted, refusal_counted, flown_later, begun_later, reply_later, begun_answer, reply_answer}
-- A text has one answer, and what is kept stays true.
pub use Rattle.odin_answers.proofs.OnceLemmas.{reply_true, begun_true}
pub use Rattle.odin_answers.proofs.SameLemmas.{same_answers, kept_first, kept_by_either}
-- A reply where what it rests on holds; it is one of an ask that was begun, and one more call is one more change.
pub use Rattle.odin_answers.proofs.AnswerLemmas.{reply_of, reply_begun, keeps_behind}
