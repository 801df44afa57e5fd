-- Rows of bits: one for each type, with a bit for each type.
use Rattle.std.specs.Prelude.{◌≡◌, ◌⊎◌, ℕ, ◌+◌, ◌*◌, ◌/◌, ◌%◌, ◌<◌, ◌≤◌, Bool, List, [], length, slice_index_or, bit_or, nat_eq}
use Rattle.std.specs.Int.{bit_at}
use Rattle.meaning_texts.specs.Lists.{IsIn}
use Rattle.meaning_graph.specs.Graphs.{Graph, types, type_named}
use Rattle.meaning_graph.specs.Types.{is_a}
use Rattle.type_graph.specs.declared.rows.Rows.{Rows}
use Rattle.type_graph.specs.Shapes.{supers_of_all}
use Rattle.type_graph.specs.Walks.{Leads}

-- the bit of a type in the row of another one
abbrev pub bit : ℕ → List ℕ → ℕ → ℕ → ℕ
bit width words a b = bit_at (slice_index_or words (a * width + b / 64) 0) (b % 64)

-- the row of the one type has the other
abbrev pub Has : ℕ → List ℕ → ℕ → ℕ → Type 0
Has width words a b = bit width words a b ≡ 1

-- the answer that rows hold for two types
abbrev pub answer : Rows → ℕ → ℕ → Bool
answer rows a b = nat_eq (bit rows.width rows.words.items a b) 1

-- The words are as many as the rows of so many types have, and a row has a bit for each.
pub record AreFor (count width : ℕ) (words : List ℕ) : Type 0 where
  pub sized : length words ≡ count * width
  pub wide : count ≤ 64 * width

-- Each type has itself alone.
pub record IsOwn (count width : ℕ) (words : List ℕ) : Type 0 where
  pub fits : AreFor count width words
  pub itself : (a : ℕ) → a < count → Has width words a a
  pub only : (a b : ℕ) → a < count → b < count → Has width words a b → a ≡ b

-- two rows are the same, or have no word in common
abbrev pub RowsAreApart : ℕ → ℕ → ℕ → Type 0
RowsAreApart width into from = (into ≡ from) ⊎ (into + width ≤ from) ⊎ (from + width ≤ into)

-- The words of one row are or-ed into those of another one, and the others stay.
pub record Ored (width into from : ℕ) (old new : List ℕ) : Type 0 where
  pub sized : length new ≡ length old
  pub ored : (k : ℕ) → k < width → slice_index_or new (into + k) 0 ≡ bit_or (slice_index_or old (into + k) 0) (slice_index_or old (from + k) 0)
  pub before : (place : ℕ) → place < into → slice_index_or new place 0 ≡ slice_index_or old place 0
  pub after : (place : ℕ) → into + width ≤ place → slice_index_or new place 0 ≡ slice_index_or old place 0

-- each row has only types that its own leads to
abbrev pub RowsAreLed : List (List ℕ) → ℕ → List ℕ → Type 0
RowsAreLed supers width words = (a b : ℕ) → a < length supers → b < length supers → Has width words a b → Leads supers a b

-- Rows keep what they have, and get only what their types lead to.
pub record RowsGrow (supers : List (List ℕ)) (width : ℕ) (old new : List ℕ) : Type 0 where
  pub sized : length new ≡ length old
  pub kept : (a b : ℕ) → a < length supers → b < length supers → Has width old a b → Has width new a b
  pub led : RowsAreLed supers width old → RowsAreLed supers width new

-- the row of a type has what those of its supertypes had
abbrev pub HasAbove : List (List ℕ) → ℕ → ℕ → List ℕ → List ℕ → Type 0
HasAbove supers width a old new = (s b : ℕ) → IsIn s (slice_index_or supers a []) → b < length supers → Has width old s b → Has width new a b

-- so has each row
abbrev pub HasAllAbove : List (List ℕ) → ℕ → List ℕ → List ℕ → Type 0
HasAllAbove supers width old new = (a : ℕ) → a < length supers → HasAbove supers width a old new

-- the supertypes are those that a graph declares
abbrev pub AreSupersOfGraph : Graph → List (List ℕ) → Type 0
AreSupersOfGraph g supers = supers ≡ supers_of_all (type_named g) (types g)

-- The row of a type is added to those up to a number that have the type.
pub record Passes (count width through number : ℕ) (old new : List ℕ) : Type 0 where
  pub sized : length new ≡ length old
  pub kept : (a b : ℕ) → a < count → b < count → Has width old a b → Has width new a b
  pub only : (a b : ℕ) → a < count → b < count → Has width new a b → Has width old a b ⊎ (Has width old a through × Has width old through b)
  pub added : (a b : ℕ) → a < number → b < count → Has width old a through → Has width old through b → Has width new a b

-- what rows have passes on through the types below a limit
abbrev pub PassesBelow : ℕ → ℕ → ℕ → List ℕ → Type 0
PassesBelow limit count width words = (a c b : ℕ) → c < limit → a < count → b < count → Has width words a c → Has width words c b → Has width words a b

abbrev pub IsTransitive : ℕ → ℕ → List ℕ → Type 0
IsTransitive count width words = PassesBelow count count width words

-- The rows have just what their types lead to.
pub record IsCloser (supers : List (List ℕ)) (width : ℕ) (words : List ℕ) : Type 0 where
  pub fits : AreFor (length supers) width words
  pub led : RowsAreLed supers width words
  pub all : (a b : ℕ) → a < length supers → b < length supers → Leads supers a b → Has width words a b

-- The rows answer as the order of types does, at the supertypes of any graph.
pub record RowsAreClosed (supers : List (List ℕ)) (rows : Rows) : Type 0 where
  pub counted : rows.count ≡ length supers
  pub fits : AreFor rows.count rows.width rows.words.items
  pub right : (g : Graph) → AreSupersOfGraph g supers → (a b : ℕ) → a < length supers → b < length supers → answer rows a b ≡ is_a g a b
