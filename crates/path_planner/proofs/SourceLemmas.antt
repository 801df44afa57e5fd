-- From which types makers lead to a type, maker by maker.
use Rattle.std.proofs.Common.{◌≡◌, ℕ, zero, suc, ◌+◌, ◌<◌, inl, inr, true, false, List, [], ◌∷◌, ◌++◌, sym, ap, ◌∙◌, subst, refl, length, arith, slice_get, slice_index_or}
use Rattle.std.specs.Prelude.{Some}
use Rattle.meaning_graph.specs.Graphs.{Graph, types}
use Rattle.meaning_graph.specs.Types.{is_a}
use Rattle.meaning_texts.proofs.Lemmas.{same_some, in_left, in_right, in_either}
use Rattle.path_planner.specs.declared.route.Ends.{Ends}
use Rattle.path_planner.specs.Ends.{ends_in, from_to}
use Rattle.path_planner.specs.Near.{AddsBelow, LeadBy, LeadTo, AreSourcesTo}
use Rattle.path_planner.proofs.EndLemmas.{makes_of, of_makes}
use Rattle.path_planner.proofs.NearLemmas.{below_or}

-- ---- types that are the one

module _ (g : Graph) (of : ℕ) (old : List ℕ) where
  pub adds_none : AddsBelow g of 0 old old
  adds_none a = (λ h. inl h, λ h. elim h [ inl k ↦ k | inr k ↦ absurd (omega (arith, k.0)) ])

  module _ (count : ℕ) (new : List ℕ) (so_far : AddsBelow g of count old new) where
    pub adds_one : is_a g count of ≡ true → AddsBelow g of (count + 1) old (new ++ count ∷ [])
    adds_one fits a = (
      λ h. elim (in_either a new (count ∷ []) h) [
        | inl i ↦ elim ((so_far a).0 i) [ inl k ↦ inl k | inr k ↦ inr (omega (arith, k.0), k.1) ]
        | inr i ↦ elim i [ inl e ↦ inr (omega (arith, e), ap (λ n. is_a g n of) e ∙ fits) | inr bad ↦ absurd bad ]
      ],
      λ h. elim h [
        | inl k ↦ in_left a new (count ∷ []) ((so_far a).1 (inl k))
        | inr k ↦ elim (below_or a count (omega (arith, k.0))) [
          | inl l ↦ in_left a new (count ∷ []) ((so_far a).1 (inr (l, k.1)))
          | inr e ↦ in_right a new (count ∷ []) (inl e)
        ]
      ],
    )

    pub adds_other : is_a g count of ≡ false → AddsBelow g of (count + 1) old new
    adds_other misses a = (
      λ h. elim ((so_far a).0 h) [ inl k ↦ inl k | inr k ↦ inr (omega (arith, k.0), k.1) ],
      λ h. elim h [
        | inl k ↦ (so_far a).1 (inl k)
        | inr k ↦ elim (below_or a count (omega (arith, k.0))) [
          | inl l ↦ (so_far a).1 (inr (l, k.1))
          | inr e ↦ let both : true ≡ false = sym k.1 ∙ ap (λ n. is_a g n of) e ∙ misses in cc
        ]
      ],
    )

-- ---- makers that lead to the one

module _ (g : Graph) (to : ℕ) where
  pub leads_none : LeadBy g to 0 []
  leads_none = record { sound = λ a h. absurd h; all = λ a k less below makes. absurd (omega (arith, less)) }

  module _ (count : ℕ) (sources : List ℕ) (so_far : LeadBy g to count sources) (ends : Ends) (here : slice_get (ends_in g) count ≡ Some ends) where
    -- a maker that leads there
    pub leads_one : (from : ℕ) → ends ≡ from_to from to → (new : List ℕ) → AddsBelow g from (length (types g)) sources new → LeadBy g to (count + 1) new
    leads_one from is new added = record {
      sound = λ a h. elim ((added a).0 h) [
        | inl i ↦ so_far.sound a i
        | inr k ↦ (k.0, count, makes_of g a count from to (here ∙ ap Some is) k.1)
      ];
      all = λ a k less below makes. elim (below_or k count (omega (arith, less))) [
        | inl l ↦ (added a).1 (inl (so_far.all a k l below makes))
        | inr e ↦
            let lead = of_makes g a k to makes in
            let same : from_to lead.from to ≡ from_to from to = same_some (sym lead.ends_are ∙ ap (slice_get (ends_in g)) e ∙ here ∙ ap Some is) in
            let begin : lead.from ≡ from = same_some (ap (λ (x : Ends). x.from) same) in
            (added a).1 (inr (below, ap (is_a g a) (sym begin) ∙ lead.fits))
      ];
    }

    -- another one
    pub leads_other : ((from : ℕ) → ends ≡ from_to from to → ⊥) → LeadBy g to (count + 1) sources
    leads_other other = record {
      sound = so_far.sound;
      all = λ a k less below makes. elim (below_or k count (omega (arith, less))) [
        | inl l ↦ so_far.all a k l below makes
        | inr e ↦
            let lead = of_makes g a k to makes in
            absurd (other lead.from (same_some (sym here ∙ ap (slice_get (ends_in g)) (sym e) ∙ lead.ends_are)))
      ];
    }

-- ---- all types

pub last_of : {A : Type 0} (xs : List A) (x d : A) → slice_index_or (xs ++ x ∷ []) (length xs) d ≡ x
last_of [] x d = refl
last_of (y ∷ xs) x d = last_of xs x d

pub before_last : {A : Type 0} (xs : List A) (x d : A) (i : ℕ) → i < length xs → slice_index_or (xs ++ x ∷ []) i d ≡ slice_index_or xs i d
before_last [] x d i lt = absurd (omega (arith, lt))
before_last (y ∷ xs) x d zero lt = refl
before_last (y ∷ xs) x d (suc i) lt = before_last xs x d i (omega (arith, lt))

pub one_longer : {A : Type 0} (xs : List A) (x : A) → length (xs ++ x ∷ []) ≡ length xs + 1
one_longer [] x = refl
one_longer (y ∷ xs) x = let rest = one_longer xs x in omega (arith, rest)

module _ (g : Graph) where
  pub no_sources : AreSourcesTo g 0 []
  no_sources = record { sized = refl; lead = λ to less. absurd (omega (arith, less)) }

  pub more_sources : (count : ℕ) (lists : List (List ℕ)) → AreSourcesTo g count lists → (list : List ℕ) → LeadTo g count list → AreSourcesTo g (count + 1) (lists ++ list ∷ [])
  more_sources count lists so_far list lead = record {
    sized = one_longer lists list ∙ ap (λ n. n + 1) so_far.sized;
    lead = λ to less. elim (below_or to count (omega (arith, less))) [
      | inl l ↦ subst (LeadTo g to) (sym (before_last lists list [] to (omega (arith, l, so_far.sized)))) (so_far.lead to l)
      | inr e ↦
          let place : length lists ≡ to = omega (arith, e, so_far.sized) in
          subst (λ n. LeadTo g n (slice_index_or (lists ++ list ∷ []) n [])) (so_far.sized ∙ sym e)
          (subst (λ l. LeadTo g (length lists) l) (sym (last_of lists list [])) (subst (λ n. LeadTo g n list) (sym so_far.sized) lead))
    ];
  }

-- the list that is read for a type
pub lead_at : (g : Graph) (lists : List (List ℕ)) (b : ℕ) (list : List ℕ) → AreSourcesTo g (length (types g)) lists → b < length (types g) → list ≡ slice_index_or lists b list → LeadTo g b list
lead_at g lists b list are below is = subst (LeadTo g b) (sym (is ∙ any_default lists b list [] (omega (arith, below, are.sized)))) (are.lead b below)
  where
    any_default : (lists : List (List ℕ)) (b : ℕ) (d e : List ℕ) → b < length lists → slice_index_or lists b d ≡ slice_index_or lists b e
    any_default [] b d e lt = absurd (omega (arith, lt))
    any_default (x ∷ xs) zero d e lt = refl
    any_default (x ∷ xs) (suc b) d e lt = any_default xs b d e (omega (arith, lt))
