-- Worked examples of which parts differ.
use Rattle.std.specs.Prelude.{◌≡◌, ℕ, List, [], ◌∷◌, Option, Some, None, codes}
use Rattle.object_values.specs.declared.calls.CallPart.{CallPart}
use Rattle.build_view.specs.Reasons.{changed_labels}

abbrev a_part : List ℕ → Option (List ℕ) → CallPart
a_part label body = record { slot = 1; label = label; body = body }

abbrev unit : CallPart
unit = a_part (codes "a.c") (Some (codes "x"))

abbrev header : List ℕ → CallPart
header text = a_part (codes "a.h") (Some text)

-- A part that has another text is told once, one that comes and one that goes too; and one that is there now and was absent.
pub record Reasons : Type 0 where
  pub same : changed_labels (unit ∷ header (codes "1") ∷ []) (unit ∷ header (codes "1") ∷ []) ≡ []
  pub changed : changed_labels (unit ∷ header (codes "1") ∷ []) (unit ∷ header (codes "2") ∷ []) ≡ codes "a.h" ∷ []
  pub comes : changed_labels (unit ∷ []) (unit ∷ header (codes "1") ∷ []) ≡ codes "a.h" ∷ []
  pub goes : changed_labels (unit ∷ header (codes "1") ∷ []) (unit ∷ []) ≡ codes "a.h" ∷ []
  pub found : changed_labels (unit ∷ a_part (codes "a.h") None ∷ []) (unit ∷ header [] ∷ []) ≡ codes "a.h" ∷ []
  pub order : changed_labels (header (codes "1") ∷ []) (unit ∷ []) ≡ codes "a.c" ∷ codes "a.h" ∷ []
