use Rattle.std.proofs.Common.{◌≡◌, drop, map}
use Rattle.toml.specs.View.{items_view}
use Rattle.project_file.specs.Projects.{texts_in}
use Rattle.project_file.proofs.Lemmas.{with_texts}
use Rattle.project_kits.proofs.reading.words_in.Given as goal

-- what is read and what is left to read make the whole
abbrev pub invariant-loop-item : goal.invariant-loop-item
invariant-loop-item l = with_texts (map (λ word. word.now) l.words.items) (texts_in (items_view (drop l.item-index l.items))) ≡ texts_in (items_view l.items)
