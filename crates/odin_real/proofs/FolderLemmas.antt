-- Files of a folder, name by name.
use Rattle.std.proofs.Common.{◌≡◌, ◌∙◌, ◌<◌, ◌+◌, ℕ, List, [], ◌∷◌, ◌++◌, take, length, get_or, sym, ap}
use Rattle.std.specs.Prelude.{Option, Some, None}
use Rattle.std.specs.List.{filter_map}
use Rattle.std.proofs.lemmas.List.{take_more}
use Rattle.std.proofs.lemmas.List.Elements.{filter_map-append}
use Rattle.object_values.specs.declared.jobs.FileBody.{FileBody}
use Rattle.odin_real.specs.Folders.{Standing, AreLeft, IsPutLeft, left_file}

-- those of the names up to a place, and then that of the name there
pub left_more : (held : Option Standing) (names : List (List ℕ)) (k : ℕ) (name : List ℕ) (old new : List FileBody) → k < length names → name ≡ get_or names k name → AreLeft held (take k names) old → IsPutLeft held name old new → AreLeft held (take (k + 1) names) new
left_more None names k name old new inside at left put = tt
left_more (Some standing) names k name old new inside at left put =
    put ∙ ap (λ files. files ++ filter_map (left_file standing) (name ∷ [])) left
    ∙ sym (filter_map-append (left_file standing) (take k names) (name ∷ []))
    ∙ ap (λ some. filter_map (left_file standing) (take k names ++ some ∷ [])) at
    ∙ ap (filter_map (left_file standing)) (sym (take_more names k name inside))
