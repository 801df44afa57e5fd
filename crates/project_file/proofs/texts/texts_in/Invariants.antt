use Rattle.std.proofs.Common.{◌≡◌, drop}
use Rattle.toml.specs.View.{items_view}
use Rattle.project_file.specs.Projects.{texts_in}
use Rattle.project_file.proofs.ReadLemmas.{with_texts}
use Rattle.project_file.proofs.texts.texts_in.Given as goal

-- what is read and what is left to read make the whole
abbrev pub invariant-loop-item : goal.invariant-loop-item
invariant-loop-item l = with_texts l.texts (texts_in (items_view (drop l.item-index l.items))) ≡ texts_in (items_view l.items)
