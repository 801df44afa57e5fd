-- The edits after which the sources are just those that are wanted.
use Rattle.std.specs.Prelude.{◌≤◌, ⊤, List, [], ◌∷◌, ◌++◌, map, length, Option, Some, None}
use Rattle.std.specs.List.{flat_map}
use Rattle.std.specs.FinMap.{get, entries}
use Rattle.object_values.specs.Texts.{Text, Texts}
use Rattle.meaning_texts.specs.Limits.{body_limit}
use Rattle.odin_store.specs.Held.{Held, Change, puts, drops, apply, IsDue}
use Rattle.odin_answers.specs.Changes.{source_changes}
use Rattle.fresh_build.specs.declared.edits.Edit.{Edit}
use Rattle.fresh_build.specs.declared.edits.Edit.TheVariants as edit

-- ---- the edits as changes

abbrev pub change_of : Edit → Change
change_of (edit.Put name text) = puts name text
change_of (edit.Remove name) = drops name

abbrev pub changes_of : List Edit → List Change
changes_of edits = map change_of edits

-- ---- from one map of texts to another

-- a source that is there goes, where none is wanted
abbrev pub drop_of : Text → Option Text → List Change
drop_of name None = drops name ∷ []
drop_of name (Some text) = []

abbrev pub drops_to : Texts → List (Text × Text) → List Change
drops_to wanted sources = flat_map (λ (s : Text × Text). drop_of s.0 (get wanted s.0)) sources

-- one that is wanted gets its text, where it has another or isn't there
abbrev pub puts_to : Texts → List (Text × Text) → List Change
puts_to old sources = flat_map (λ (s : Text × Text). source_changes s.0 (get old s.0) (Some s.1)) sources

-- the drops, and then the puts, each by the bytes of the names
abbrev pub changes_to : Texts → Texts → List Change
changes_to wanted old = drops_to wanted (entries old) ++ puts_to old (entries wanted)

-- ---- changes that may be made

-- no text that is put is longer than a text may be
abbrev pub IsShort : Change → Type 0
IsShort (puts name text) = length text ≤ body_limit
IsShort other = ⊤

abbrev pub AreShort : List Change → Type 0
AreShort [] = ⊤
AreShort (change ∷ changes) = IsShort change × AreShort changes

-- Each of the changes is due once those before it are made.
abbrev pub AreDue : List Change → Held → Type 0
AreDue [] held = ⊤
AreDue (change ∷ changes) held = IsDue change held × AreDue changes (apply change held)
