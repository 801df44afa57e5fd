use Rattle.std.proofs.Common.{◌++◌, [], List, ℕ, Bor, Option, map, codes, ap, ◌∙◌, unwrap_or}
use Rattle.clap.specs.Words.{found_of}
use Rattle.clap.proofs.WalkLemmas.{raw_values-rows}
use Rattle.project_folder.proofs.words.targets_of.Goals as goal

-- the words, or none
abbrev or_none : Option (List (List ℕ)) → List (List ℕ)
or_none values = unwrap_or values []

abbrev texts : List (Bor (List ℕ)) → List (List ℕ)
texts words = map (λ (w : Bor (List ℕ)). w.now) words

pub returns-in_default : goal.returns-in_default
returns-in_default c =
    ap texts c.new-values.ensures.items ∙ ap or_none (c.in_default.ensures ∙ raw_values-rows (found_of c.args.found.now) (codes "targets"))

pub returns : goal.returns
returns c =
    ap texts (c.in_ok-extend_from_slice.ensures.items ∙ ap (λ l. l ++ c.in-Some.words.now) c.new-values.ensures.items)
    ∙ ap or_none (c.in-Some.ensures ∙ raw_values-rows (found_of c.args.found.now) (codes "targets"))
