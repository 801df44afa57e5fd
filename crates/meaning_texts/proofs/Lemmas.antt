-- The lemmas that other crates may cite.
-- What stands in a list, tests and options.
pub use Rattle.meaning_texts.proofs.Members.{never_both, some_or_none, value_of_some, some_is_none, same_some}
pub use Rattle.meaning_texts.proofs.Members.{in_left, in_right, in_either, in_map, from_map, in_flat, from_flat, in_filter, from_filter, in_chosen, from_chosen, in_without}
pub use Rattle.meaning_texts.proofs.Members.{one_passes, passes_one, split_at, in_all, all_in, in_all_pass, all_pass_in, one_fails, numbered_in, in_numbered}
pub use Rattle.meaning_texts.proofs.Members.{HasNo-append, HasNo-more, HasNo-split, HasNo-places, HasNo-take, HasNo-pass, same_cut}
-- The tests of classes decide the classes.
pub use Rattle.meaning_texts.proofs.Words.{word_decides, id_decides, value_decides, param_decides, string_decides}
-- The lines of a text.
pub use Rattle.meaning_texts.proofs.Cuts.{are_lines, one_cut, cut_last, cut_line, cut_full, without_cr_is}
pub use Rattle.meaning_texts.proofs.References.{references_said, said_references}
-- The expression of a text, or the place of its fault.
pub use Rattle.meaning_texts.proofs.Params.{kept_are_kept, one_kept}
pub use Rattle.meaning_texts.proofs.Readings.{reads, is_read}
pub use Rattle.meaning_texts.proofs.Spellings.{spells, one_expression}
pub use Rattle.meaning_texts.proofs.Canonical.{canonical}
pub use Rattle.meaning_texts.proofs.Places.{no_expression, one_place}
pub use Rattle.meaning_texts.proofs.Found.{found, fault_by}
pub use Rattle.meaning_texts.proofs.Counts.{few_steps}
