-- The type of a source, by the longest declared suffix that its name ends with.
use Rattle.std.specs.Prelude.{◌≡◌, ℕ, ◌≤◌, [], ◌∷◌, ◌++◌, length, Option, Some, None, bytes_eq, find, unwrap_or, codes}
use Rattle.object_values.specs.declared.graph.SuffixDecl.{SuffixDecl}
use Rattle.meaning_texts.specs.Lists.{IsIn}
use Rattle.meaning_graph.specs.Graphs.{Text, Graph, suffixes, type_named}

-- the name ends with the suffix
abbrev pub EndsWith : Text → Text → Type 0
EndsWith name suffix = (front : Text) × (name ≡ front ++ suffix)

-- The first declaration of the suffix: it ends the name, and none that is longer does.
pub record IsLongestSuffix (g : Graph) (name : Text) (s : SuffixDecl) : Type 0 where
  pub first : find (λ d. bytes_eq d.suffix s.suffix) (suffixes g) ≡ Some s
  pub ends : EndsWith name s.suffix
  pub longest : (other : SuffixDecl) → IsIn other (suffixes g) → EndsWith name other.suffix
      → length other.suffix ≤ length s.suffix

-- no declared suffix ends the name
abbrev pub HasNoSuffix : Graph → Text → Type 0
HasNoSuffix g name = (s : SuffixDecl) → IsIn s (suffixes g) → EndsWith name s.suffix → ⊥

abbrev pub or_later : Option SuffixDecl → Option SuffixDecl → Option SuffixDecl
or_later None later = later
or_later (Some s) later = Some s

-- the declaration of the name itself as a suffix, or else that of the longest suffix of the name
-- without its first byte
abbrev pub suffix_of : Graph → Text → Option SuffixDecl
suffix_of g [] = find (λ d. bytes_eq d.suffix []) (suffixes g)
suffix_of g (b ∷ name) =
    or_later (find (λ d. bytes_eq d.suffix (b ∷ name)) (suffixes g)) (suffix_of g name)

-- the name of the type of a source of that name: `text` where no declared suffix ends it
abbrev pub suffix_type : Option SuffixDecl → Text
suffix_type None = codes "text"
suffix_type (Some s) = s.of

-- The type of a source. Where a suffix names no declared type it is `text` too.
unfoldable pub source_type : Graph → Text → ℕ
source_type g name = unwrap_or (type_named g (suffix_type (suffix_of g name))) 0
