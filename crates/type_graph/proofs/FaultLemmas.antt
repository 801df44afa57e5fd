-- The first fault, declaration by declaration.
use Rattle.std.proofs.Common.{◌≡◌, ◌+◌, ◌<◌, ◌≤◌, ◌^◌, ℕ, zero, suc, List, [], ◌∷◌, ◌++◌, refl, sym, ap, ◌∙◌, subst, length, take, drop, get_or, arith, length-append, length-take, append-nil, add-one}
use Rattle.std.specs.Prelude.{Option, Some, None, MatchOption, find, filter_map}
use Rattle.std.specs.List.{cons_option}
use Rattle.std.proofs.lemmas.List.{take_more}
use Rattle.std.proofs.lemmas.List.Elements.{filter_map-append}
use Rattle.std.proofs.Math.Seq.{drop-cons}
use Rattle.object_values.specs.declared.graph.Decl.{Decl}
use Rattle.object_values.specs.declared.graph.Decl.TheVariants.{ObjectType, Suffix, Param, Maker}
use Rattle.object_values.specs.declared.graph.GraphFault.{GraphFault}
use Rattle.meaning_texts.specs.Limits.{declaration_limit}
use Rattle.meaning_graph.specs.Graphs.{Graph, types, suffixes, params, makers, as_type, as_suffix, as_param, as_maker}
use Rattle.meaning_graph.specs.Checks.{has_fault, all_faults, at_or_later, first_from, first_fault, Checked, FirstFault}
use Rattle.meaning_graph.proofs.Lemmas.{first_or_checked}
use Rattle.type_graph.specs.declared.spaces.Counts.{Counts}
use Rattle.type_graph.specs.Spaces.{counts_of, counts_with}
use Rattle.type_graph.proofs.TableLemmas.{few_found}

-- No declaration so far has a fault, and the counts are of those so far.
pub record IsClean (g : Graph) (i number : ℕ) (counts : Counts) : Type 0 where
  pub numbered : number ≡ i
  pub few : i ≤ declaration_limit
  pub counts_are : counts ≡ counts_of (take i g)
  pub rest : first_fault g ≡ first_from g (i + 1) (drop i g)

pub clean_yet : (g : Graph) → IsClean g 0 0 (counts_of [])
unfolding first_fault
clean_yet g = record { numbered = refl; few = omega arith; counts_are = refl; rest = refl }

module _ {B : Type 0} (f : Decl → Option B) (g : Graph) (d : Decl) where
  grown : filter_map f (g ++ d ∷ []) ≡ filter_map f g ++ cons_option (f d) []
  grown = filter_map-append f g (d ∷ [])

  same_count : f d ≡ None → length (filter_map f (g ++ d ∷ [])) ≡ length (filter_map f g)
  same_count h = ap length (grown ∙ ap (λ o. filter_map f g ++ cons_option o []) h ∙ append-nil (filter_map f g))

  one_count : (x : B) → f d ≡ Some x → length (filter_map f (g ++ d ∷ [])) ≡ length (filter_map f g) + 1
  one_count x h = ap length (grown ∙ ap (λ o. filter_map f g ++ cons_option o []) h) ∙ length-append (filter_map f g) (x ∷ [])

same_counts : {a b : Counts} → a.types ≡ b.types → a.suffixes ≡ b.suffixes → a.params ≡ b.params → a.makers ≡ b.makers → a ≡ b
same_counts p q r s = λ j. record { types = p j; suffixes = q j; params = r j; makers = s j }

counts_push : (g : Graph) (d : Decl) → counts_of (g ++ d ∷ []) ≡ counts_with (counts_of g) d
counts_push g (ObjectType t) = same_counts (omega (arith, one_count as_type g (ObjectType t) t refl)) (same_count as_suffix g (ObjectType t) refl) (same_count as_param g (ObjectType t) refl) (same_count as_maker g (ObjectType t) refl)
counts_push g (Suffix s) = same_counts (ap suc (same_count as_type g (Suffix s) refl)) (one_count as_suffix g (Suffix s) s refl) (same_count as_param g (Suffix s) refl) (same_count as_maker g (Suffix s) refl)
counts_push g (Param p) = same_counts (ap suc (same_count as_type g (Param p) refl)) (same_count as_suffix g (Param p) refl) (one_count as_param g (Param p) p refl) (same_count as_maker g (Param p) refl)
counts_push g (Maker m) = same_counts (ap suc (same_count as_type g (Maker m) refl)) (same_count as_suffix g (Maker m) refl) (same_count as_param g (Maker m) refl) (one_count as_maker g (Maker m) m refl)

module _ (g : Graph) (i number : ℕ) (counts : Counts) (clean : IsClean g i number counts) where
  module _ (d : Decl) (below : i < length g) (is : d ≡ get_or g i d) where
    next : first_from g (i + 1) (drop i g) ≡ at_or_later (i + 1) (find (has_fault g (i + 1) d) all_faults) (first_from g (i + 1 + 1) (drop (i + 1) g))
    next = ap (first_from g (i + 1)) (drop-cons g i d below ∙ ap (λ e. e ∷ drop (suc i) g) (sym is) ∙ ap (λ n. d ∷ drop n g) (sym (add-one i)))

    answer : (o : Option GraphFault) → o ≡ find (has_fault g (number + 1) d) all_faults → first_fault g ≡ at_or_later (number + 1) o (first_from g (i + 1 + 1) (drop (i + 1) g))
    answer o h =
        clean.rest ∙ next ∙ ap (λ n. at_or_later (n + 1) (find (has_fault g (n + 1) d) all_faults) (first_from g (i + 1 + 1) (drop (i + 1) g))) (sym clean.numbered)
        ∙ ap (λ p. at_or_later (number + 1) p (first_from g (i + 1 + 1) (drop (i + 1) g))) (sym h)

    -- a fault is the first one
    pub fault_here : (fault : GraphFault) → Some fault ≡ find (has_fault g (number + 1) d) all_faults → FirstFault g (number + 1) fault
    fault_here fault h = subst (λ o. MatchOption o (Checked g) (λ at. FirstFault g at.number at.fault)) (answer (Some fault) h) (first_or_checked g)

    -- and where there is none the next declaration follows
    pub clean_here : None ≡ find (has_fault g (number + 1) d) all_faults → number + 1 ≤ declaration_limit → IsClean g (i + 1) (number + 1) (counts_with counts d)
    clean_here h few = record {
      numbered = ap (λ n. n + 1) clean.numbered;
      few = omega (arith, few, clean.numbered);
      counts_are = ap (λ k. counts_with k d) clean.counts_are ∙ sym (ap counts_of (take_more g i d below ∙ ap (λ e. take i g ++ e ∷ []) (sym is)) ∙ counts_push (take i g) d);
      rest = answer None h;
    }

  short : length (take i g) ≤ declaration_limit
  short = omega (arith, length-take i g, clean.few)

  pub few_types_yet : counts.types < 2 ^ 63
  few_types_yet = let e : counts.types ≡ length (types (take i g)) = ap (λ k. k.types) clean.counts_are in omega (arith, e, short, few_found as_type (take i g))

  pub few_suffixes_yet : counts.suffixes < 2 ^ 63
  few_suffixes_yet = let e : counts.suffixes ≡ length (suffixes (take i g)) = ap (λ k. k.suffixes) clean.counts_are in omega (arith, e, short, few_found as_suffix (take i g))

  pub few_params_yet : counts.params < 2 ^ 63
  few_params_yet = let e : counts.params ≡ length (params (take i g)) = ap (λ k. k.params) clean.counts_are in omega (arith, e, short, few_found as_param (take i g))

  pub few_makers_yet : counts.makers < 2 ^ 63
  few_makers_yet = let e : counts.makers ≡ length (makers (take i g)) = ap (λ k. k.makers) clean.counts_are in omega (arith, e, short, few_found as_maker (take i g))

  -- and so they are not too many
  pub few_at_end : length g ≤ i → length g ≤ declaration_limit
  few_at_end past = omega (arith, past, clean.few)

  pub all_clean : length g ≤ i → Checked g
  all_clean past = subst (λ o. MatchOption o (Checked g) (λ at. FirstFault g at.number at.fault)) (clean.rest ∙ ap (first_from g (i + 1)) (drop_all g i past)) (first_or_checked g)
    where
      drop_all : (ds : List Decl) (n : ℕ) → length ds ≤ n → drop n ds ≡ []
      drop_all [] zero h = refl
      drop_all [] (suc n) h = refl
      drop_all (e ∷ es) zero h = absurd (omega (arith, h))
      drop_all (e ∷ es) (suc n) h = drop_all es n (omega (arith, h))
