-- What is found by marks, and things of which one came last.
use Rattle.std.proofs.Common.{◌≡◌, ◌⊎◌, ℕ, List, [], ◌∷◌, ◌++◌, inl, inr, length, ap, sym, ◌∙◌, subst}
use Rattle.std.specs.Prelude.{Option, Some, None, IfSome, IfNone, slice_get}
use Rattle.content_store.specs.Bodies.{Bodies, place_of_body}
use Rattle.content_store.specs.Marks.{Finds, IsIndex, KeepsNumbers}
use Rattle.content_store.specs.declared.marks.Mark.{Mark}
use Rattle.content_store.specs.declared.marks.Marks.{Marks}
use Rattle.content_store.proofs.BodyLemmas.{stands_place, nowhere_none, none_nowhere, last_stands}

module _ {Thing : Type 0} (at : ℕ → Option Thing) (marks_of : Thing → List Mark) (before after : Marks) (index : IsIndex at marks_of before) (kept : KeepsNumbers before after) where
  -- the same things
  pub index_kept : IsIndex at marks_of after
  index_kept = record { once = index.once; found = λ i thing here. kept (marks_of thing) i (index.found i thing here) }

  -- one more, which is new
  pub index_more : (next : ℕ → Option Thing) (new : Thing) (number : ℕ) → ((i : ℕ) (thing : Thing) → next i ≡ Some thing → (at i ≡ Some thing) ⊎ ((i ≡ number) × (thing ≡ new))) → ((i : ℕ) → ¬ (at i ≡ Some new)) → Finds after (marks_of new) number → IsIndex next marks_of after
  index_more next new number split fresh there = record {
    once = λ i j thing at_i at_j. elim (split i thing at_i) [
      | inl i_before ↦ elim (split j thing at_j) [
        | inl j_before ↦ index.once i j thing i_before j_before
        | inr j_last ↦ absurd (fresh i (i_before ∙ ap Some j_last.1))
      ]
      | inr i_last ↦ elim (split j thing at_j) [
        | inl j_before ↦ absurd (fresh j (j_before ∙ ap Some i_last.1))
        | inr j_last ↦ i_last.0 ∙ sym j_last.0
      ]
    ];
    found = λ i thing here. elim (split i thing here) [
      | inl before_ ↦ kept (marks_of thing) i (index.found i thing before_)
      | inr last ↦ subst (λ n. Finds after (marks_of thing) n) (sym last.0) (subst (λ (t : Thing). Finds after (marks_of t) number) (sym last.1) there)
    ];
  }

-- what is found nowhere stands nowhere
pub stands_nowhere : {Thing : Type 0} (at : ℕ → Option Thing) (marks_of : Thing → List Mark) (table : Marks) (thing : Thing) → IsIndex at marks_of table → ((i : ℕ) → Finds table (marks_of thing) i → ¬ (at i ≡ Some thing)) → (i : ℕ) → ¬ (at i ≡ Some thing)
stands_nowhere at marks_of table thing index nowhere i here = nowhere i (index.found i thing here) here

pub keeps_twice : (a b d : Marks) → KeepsNumbers a b → KeepsNumbers b d → KeepsNumbers a d
keeps_twice a b d first second marks i found = second marks i (first marks i found)

-- ---- bodies

module _ (marks_of : List ℕ → List Mark) (bodies : Bodies) (table : Marks) (index : IsIndex (slice_get bodies) marks_of table) (body : List ℕ) where
  -- what a look for a body answers
  pub answered : (r : Option ℕ) → IfSome r (λ i. slice_get bodies i ≡ Some body) → IfNone r ((i : ℕ) → Finds table (marks_of body) i → ¬ (slice_get bodies i ≡ Some body)) → r ≡ place_of_body body bodies
  answered (Some i) here nowhere = sym (stands_place body bodies i index.once here)
  answered None here nowhere = sym (nowhere_none body bodies (stands_nowhere (slice_get bodies) marks_of table body index nowhere))

  pub body_more : (next : Marks) → place_of_body body bodies ≡ None → KeepsNumbers table next → Finds next (marks_of body) (length bodies) → IsIndex (slice_get (bodies ++ body ∷ [])) marks_of next
  body_more next fresh kept there = index_more (slice_get bodies) marks_of table next index kept (slice_get (bodies ++ body ∷ [])) body (length bodies) (λ i thing at. last_stands bodies body thing i at) (λ i here. none_nowhere body bodies i fresh here) there
