-- The places that messages begin with.
use Rattle.std.specs.Prelude.{◌≡◌, ◌⊎◌, ℕ, Bool, true, false, List, [], ◌∷◌, ◌++◌, Option, Some, None, codes, decimal}
use Rattle.std.specs.Bool.{Decides}
use Rattle.std.specs.Cmp.Lexicographic.{bytes_decides, slice_cmp}
use Rattle.std.specs.List.{AllZip}
use Rattle.std.specs.List.Sorted.{IsPermutation, IsSorted, IsStable}
use Rattle.std.specs.Option.{option_cmp, option_eq}
use Rattle.std.specs.Ordering.{bool_cmp, nat_cmp, on, then_cmp}
use Rattle.std.specs.declared.cmp.Ordering.{Ordering}
use Rattle.std.proofs.Common.{rules}
use Rattle.std.proofs.lemmas.Bool.Decides.{Decides-eqb}
use Rattle.indexmap.specs.IndexSet.{insert_all}
use Rattle.meaning_texts.specs.Lists.{HasNo}
use Rattle.object_values.specs.Exact.{status_exact}
use Rattle.object_values.specs.declared.messages.Message.{Message}
use Rattle.build_view.specs.declared.places.Place.{Place}
use Rattle.build_view.specs.declared.places.PageMessage.{PageMessage}
use Rattle.build_view.specs.contracts.places.PlacePartialEq.TheImpl.{ghosts as place_eq}
use Rattle.build_view.specs.contracts.places.PageMessagePartialEq.TheImpl.{ghosts as page_eq}

-- digits and a colon come first
abbrev pub IsCutNumber : List ℕ → ℕ → List ℕ → Type 0
IsCutNumber text number rest = text ≡ decimal number ++ 58 ∷ rest

-- `path:line:column:` comes first
pub record IsCutPlace (text path : List ℕ) (line column : ℕ) (rest : List ℕ) : Type 0 where
  pub is : text ≡ path ++ 58 ∷ (decimal line ++ 58 ∷ (decimal column ++ 58 ∷ rest))
  pub word : HasNo 58 path

-- the same, or without this before it
abbrev pub MayLose : List ℕ → List ℕ → List ℕ → Type 0
MayLose before whole rest = (whole ≡ before ++ rest) ⊎ (whole ≡ rest)

-- the place that a text begins with, and what comes after it
pub record IsPlaced (text : List ℕ) (place : Place) (rest : List ℕ) : Type 0 where
  pub path : List ℕ
  pub after : List ℕ
  pub is : IsCutPlace text path place.line place.column after
  pub path_is : MayLose (codes "./") path place.path
  pub rest_is : MayLose (codes " ") after rest

abbrev pub IsTextOf : List ℕ → Option Place → List ℕ → Type 0
IsTextOf whole None text = whole ≡ text
IsTextOf whole (Some place) text = IsPlaced whole place text

pub record IsPageMessage (message : Message) (shown : PageMessage) : Type 0 where
  pub level : shown.level ≡ message.level
  pub text : IsTextOf message.text shown.place shown.text

-- ---- the messages of a page

place_exact : (x y : Place) → Decides (place_eq.eq x y) (x ≡ y)
place_exact x y = search (rules, bytes_decides x.path y.path, Decides-eqb x.line y.line, Decides-eqb x.column y.column)

maybe_place_exact : (a b : Option Place) → Decides (option_eq place_eq.eq a b) (a ≡ b)
maybe_place_exact None None = search rules
maybe_place_exact None (Some y) = search rules
maybe_place_exact (Some x) None = search rules
maybe_place_exact (Some x) (Some y) = search (rules, place_exact x y)

-- Their `==` answers whether two are equal.
pub page_exact : (x y : PageMessage) → Decides (page_eq.eq x y) (x ≡ y)
page_exact x y = search (rules, maybe_place_exact x.place y.place, status_exact x.level y.level, bytes_decides x.text y.text)

-- each once, where it stands first
abbrev pub first_messages : List PageMessage → List PageMessage
first_messages all = insert_all page_eq.eq [] all

abbrev pub is_placeless : Option Place → Bool
is_placeless None = true
is_placeless (Some place) = false

-- by path, line and column
abbrev pub place_cmp : Place → Place → Ordering
place_cmp = then_cmp (on (λ p. p.path) (slice_cmp nat_cmp)) (then_cmp (on (λ p. p.line) nat_cmp) (on (λ p. p.column) nat_cmp))

-- those without a place come after all that have one
abbrev pub page_cmp : PageMessage → PageMessage → Ordering
page_cmp = on (λ m. m.place) (then_cmp (on is_placeless bool_cmp) (option_cmp place_cmp))

-- All messages are shown, each once, in the order of their places; those that the order doesn't tell apart stay as they came.
pub record ArePageMessages (messages : List Message) (shown : List PageMessage) : Type 0 where
  pub all : List PageMessage
  pub each : AllZip IsPageMessage messages all
  pub same : IsPermutation (first_messages all) shown
  pub sorted : IsSorted page_cmp shown
  pub stable : IsStable page_cmp (first_messages all) shown
