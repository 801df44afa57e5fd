-- What the laws of graphs say.
use Rattle.std.specs.Prelude.{◌≡◌, ◌↔◌, ℕ, List, IsTrue, MatchOption}
use Rattle.object_values.specs.declared.graph.SuffixDecl.{SuffixDecl}
use Rattle.meaning_graph.specs.Graphs.{Text, Graph}
use Rattle.meaning_graph.specs.Suffixes.{IsLongestSuffix, HasNoSuffix, suffix_of}
use Rattle.meaning_graph.specs.Types.{IsA, is_a}
use Rattle.meaning_graph.specs.Paths.{Chosen, HasNoPath, chosen_path}

-- The computed test holds exactly where supertypes lead from the one type to the other.
abbrev pub IsAIsReachability : Type 0
IsAIsReachability = (g : Graph) (a b : ℕ) → IsTrue (is_a g a b) ↔ IsA g a b

-- The computed suffix is the longest one, and there is none exactly where no declared suffix ends
-- the name.
abbrev pub SuffixIsLongest : Type 0
SuffixIsLongest =
    (g : Graph) (name : Text)
    → MatchOption (suffix_of g name) (HasNoSuffix g name) (IsLongestSuffix g name)

-- There is one longest suffix.
abbrev pub OneIsLongest : Type 0
OneIsLongest =
    (g : Graph) (name : Text) (s t : SuffixDecl) → IsLongestSuffix g name s
    → IsLongestSuffix g name t → s ≡ t

-- The computed path is the chosen one, and there is none exactly where there is no path.
abbrev pub PathIsChosen : Type 0
PathIsChosen =
    (g : Graph) (a b : ℕ) → MatchOption (chosen_path g a b) (HasNoPath g a b) (Chosen g a b)

-- There is one chosen path.
abbrev pub OneIsChosen : Type 0
OneIsChosen = (g : Graph) (a b : ℕ) (p q : List ℕ) → Chosen g a b p → Chosen g a b q → p ≡ q
