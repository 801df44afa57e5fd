-- The lemmas that other crates may cite.
-- The place of a body, and lists with one body more.
pub use Rattle.content_store.proofs.BodyLemmas.{place_stands, stands_place, none_nowhere, nowhere_none, place_kept, place_new, last_stands, once_more, body_kept, goes_behind}
-- What is found by marks.
pub use Rattle.content_store.proofs.IndexLemmas.{index_kept, index_more, stands_nowhere}
