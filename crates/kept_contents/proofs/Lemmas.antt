-- The lemmas that other crates may cite.
-- Contents that a batch adds, and texts alone.
pub use Rattle.kept_contents.proofs.Batched.{adds_append, added_once, added_from, added_new, contents_append, contents_grow, grows, outputs_adds, outputs_step, parts_adds, parts_stay, parts_step, texts_append, texts_added, texts_once, texts_from, texts_new}
-- Contents that are written anew.
pub use Rattle.kept_contents.proofs.CopyLemmas.{add_after, adds_after}
-- What numbers stand for is one thing.
pub use Rattle.kept_contents.proofs.Resolved.{one_text, one_call, one_outcome}
pub use Rattle.kept_contents.proofs.Numbers.{next_number}
-- Heads and keys of calls.
pub use Rattle.kept_contents.proofs.HeadLemmas.{heads_not}
pub use Rattle.kept_contents.proofs.KeyLemmas.{key_grown, marks_grown, one_call_of, one_key}
-- Items of lists by their places, and texts more.
pub use Rattle.kept_contents.proofs.Items.{mapped}
pub use Rattle.kept_contents.proofs.Contents.{grown_not, grown_twice, unmapped}
