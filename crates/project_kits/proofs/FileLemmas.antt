-- The lists of units, one after another.
use Rattle.std.proofs.Common.{◌≡◌, ℕ, ◌+◌, ◌<◌, List, [], ◌∷◌, ◌++◌, length, get_or, take, ap, sym, subst, ◌∙◌}
use Rattle.std.specs.Prelude.{Contains}
use Rattle.std.proofs.lemmas.List.{take_more}
use Rattle.std.proofs.lemmas.List.Elements.{Contains-get_or}
use Rattle.object_values.specs.declared.jobs.FileBody.{FileBody}
use Rattle.project_folder.specs.declared.listing.NoSources.{NoSources}
use Rattle.project_kits.specs.declared.wanted.Units.{Units}
use Rattle.project_kits.specs.Lists.{IsListFile, AreListFiles, one_more_list, HasNoList, SomeHasNoList}

pub one_more : (outputs found : List (List ℕ)) (all : List Units) (i : ℕ) (units : Units) (files : List FileBody) (file : FileBody) → i < length all → units ≡ get_or all i units
    → AreListFiles outputs found (take i all) files → IsListFile outputs found units file → AreListFiles outputs found (take (i + 1) all) (files ++ file ∷ [])
one_more outputs found all i units files file inside is done one =
    subst (λ (l : List Units). AreListFiles outputs found l (files ++ file ∷ [])) (sym (take_more all i units inside ∙ ap (λ (u : Units). take i all ++ u ∷ []) (sym is)))
    (one_more_list (take i all) files units file done one)

pub some_fails : (outputs found : List (List ℕ)) (all : List Units) (i : ℕ) (units : Units) (why : NoSources) → i < length all → units ≡ get_or all i units
    → HasNoList outputs found units why → SomeHasNoList outputs found all why
some_fails outputs found all i units why inside is fails =
    record { units = units; among = subst (λ (u : Units). Contains all u) (sym is) (Contains-get_or all i units inside); fails = fails }
