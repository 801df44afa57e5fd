-- Makers and their types by the table of ends.
use Rattle.std.proofs.Common.{◌≡◌, ℕ, ◌<◌, true, List, sym, ap, ◌∙◌, refl, length, get_or, slice_get}
use Rattle.std.specs.Prelude.{Option, Some, None, MatchOption, option_map, option_and_then}
use Rattle.std.proofs.lemmas.Option.{slice_get-map, slice_get-get_or, slice_get_within}
use Rattle.object_values.specs.declared.graph.MakerDecl.{MakerDecl}
use Rattle.meaning_graph.specs.Graphs.{Graph, types, makers}
use Rattle.meaning_graph.specs.Types.{is_a}
use Rattle.meaning_graph.specs.Paths.{Makes, Chosen, HasNoPath, made_of}
use Rattle.meaning_texts.proofs.Lemmas.{same_some, some_is_none}
use Rattle.meaning_graph.proofs.Lemmas.{is_a_so, so_is_a, named_below}
use Rattle.path_planner.specs.declared.route.Ends.{Ends}
use Rattle.path_planner.specs.Ends.{ends_of, ends_in, from_to, made_by, AreTypes, IsChosen}

-- a maker's ends stand at its number
record EndsOf (g : Graph) (k : ℕ) (e : Ends) : Type 0 where
  maker : MakerDecl
  numbered : slice_get (makers g) k ≡ Some maker
  ends_are : ends_of g maker ≡ e

of_ends : (g : Graph) (k : ℕ) (e : Ends) → slice_get (ends_in g) k ≡ Some e → EndsOf g k e
of_ends g k e h = by (slice_get (makers g) k) refl
  where
    by : (o : Option MakerDecl) → slice_get (makers g) k ≡ o → EndsOf g k e
    by None is = some_is_none (slice_get (ends_in g) k) e h (slice_get-map (ends_of g) (makers g) k ∙ ap (option_map (ends_of g)) is)
    by (Some m) is = record { maker = m; numbered = is; ends_are = same_some (sym (slice_get-map (ends_of g) (makers g) k ∙ ap (option_map (ends_of g)) is) ∙ h) }

pub makes_of : (g : Graph) (a k from to : ℕ) → slice_get (ends_in g) k ≡ Some (from_to from to) → is_a g a from ≡ true → Makes g a k to
makes_of g a k from to h fits =
    let e = of_ends g k (from_to from to) h in
    record { maker = e.maker; taken = from; numbered = e.numbered; takes = ap (λ (x : Ends). x.from) e.ends_are; fits = is_a_so g a from fits; makes = ap (λ (x : Ends). x.to) e.ends_are }

-- what a maker that leads on has for its ends
pub record Leading (g : Graph) (a k to : ℕ) : Type 0 where
  pub from : ℕ
  pub ends_are : slice_get (ends_in g) k ≡ Some (from_to from to)
  pub fits : is_a g a from ≡ true
  pub within : k < length (ends_in g)
  pub made : to < length (types g)

pub of_makes : (g : Graph) (a k to : ℕ) → Makes g a k to → Leading g a k to
of_makes g a k to m =
    let at : slice_get (ends_in g) k ≡ Some (from_to m.taken to) =
    slice_get-map (ends_of g) (makers g) k ∙ ap (option_map (ends_of g)) m.numbered ∙ ap Some (λ i. record { from = m.takes i; to = m.makes i }) in
    record { from = m.taken; ends_are = at; fits = so_is_a g a m.taken m.fits; within = slice_get_within (ends_in g) k (from_to m.taken to) at; made = named_below g m.maker.to to m.makes }

pub ends_are_types : (g : Graph) (k : ℕ) (e : Ends) → slice_get (ends_in g) k ≡ Some e → AreTypes g e
ends_are_types g k e h =
    let m = of_ends g k e h in
    record {
      from_is = λ from is. named_below g m.maker.from from (ap (λ (x : Ends). x.from) m.ends_are ∙ is);
      to_is = λ to is. named_below g m.maker.to to (ap (λ (x : Ends). x.to) m.ends_are ∙ is);
    }

pub same_ends : {a b : Ends} → a.from ≡ b.from → a.to ≡ b.to → a ≡ b
same_ends p q = λ i. record { from = p i; to = q i }

-- with both ends known
pub both_known : (e : Ends) (from to : ℕ) → e.from ≡ Some from → e.to ≡ Some to → e ≡ from_to from to
both_known e from to p q = λ i. record { from = p i; to = q i }

-- what is read at a place of the table, by whatever default
pub place_ends : (g : Graph) (ends : List Ends) (k : ℕ) (d : Ends) → ends ≡ ends_in g → k < length ends → slice_get (ends_in g) k ≡ Some (get_or ends k d)
place_ends g ends k d made below = ap (λ l. slice_get l k) (sym made) ∙ slice_get-get_or ends k d below

-- a path that is told by cases
pub is_chosen : (g : Graph) (from to : ℕ) (path : Option (List ℕ)) → MatchOption path (HasNoPath g from to) (Chosen g from to) → IsChosen g from to path
is_chosen g from to None h = h
is_chosen g from to (Some path) h = h

-- what a maker makes of a type, by its ends
made_alike : (g : Graph) (a : ℕ) (o : Option MakerDecl) → option_and_then (made_by g a) (option_map (ends_of g) o) ≡ option_and_then (made_of g a) o
made_alike g a None = refl
made_alike g a (Some m) = refl

pub made_by_ends : (g : Graph) (a k : ℕ) (o : Option Ends) → o ≡ slice_get (ends_in g) k → option_and_then (made_by g a) o ≡ option_and_then (made_of g a) (slice_get (makers g) k)
made_by_ends g a k o is = ap (option_and_then (made_by g a)) (is ∙ slice_get-map (ends_of g) (makers g) k) ∙ made_alike g a (slice_get (makers g) k)
