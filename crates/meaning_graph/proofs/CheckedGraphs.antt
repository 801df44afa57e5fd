-- A checked list that is spellable has a spelling.
use Rattle.std.proofs.Common.{◌≡◌, ℕ, suc, ◌-◌, true, false, not, ◌&&◌, List, [], ◌∷◌, Some, refl, arith}
use Rattle.std.specs.Prelude.{slice_get}
use Rattle.std.specs.List.{list_all, All}
use Rattle.std.proofs.lemmas.Bool.{both_ways, and_parts, not-false, false_from_ne_true}
use Rattle.std.proofs.lemmas.List.Elements.{All-nil, All-cons}
use Rattle.object_values.specs.declared.graph.Kind.{Kind}
use Rattle.object_values.specs.declared.graph.Kind.TheVariants.{Simple, List as ListOf, Compound}
use Rattle.object_values.specs.declared.graph.Decl.{Decl}
use Rattle.object_values.specs.declared.graph.Decl.TheVariants.{ObjectType, Suffix, Param, Maker}
use Rattle.object_values.specs.declared.graph.GraphFault.{GraphFault}
use Rattle.object_values.specs.declared.graph.GraphFault.TheVariants.{UnknownType, WrongKind}
use Rattle.meaning_graph.specs.Graphs.{Graph}
use Rattle.meaning_graph.specs.Grammar.{HasNoSupers, IsInGrammar, IsSpellable, HasSpelling}
use Rattle.meaning_graph.specs.Checks.{all_types_known, super_fits, keeps_kind, keeps_rules, has_fault, Checked}

-- a declaration of a checked list has no fault
no_fault : (g : Graph) → Checked g → (k : ℕ) (d : Decl) (f : GraphFault) → slice_get g k ≡ Some d → has_fault g (suc k) d f ≡ false
no_fault g c k d f s = false_from_ne_true (has_fault g (suc k) d f) (λ w. c (suc k) f (record { declaration = d; counted = omega arith; there = let e : suc k - 1 ≡ k = omega arith in rw e s; wrong = w }))

keeps : (g : Graph) → Checked g → (k : ℕ) (d : Decl) → slice_get g k ≡ Some d → keeps_rules g d ≡ true
unfolding has_fault
keeps g c k d s =
    let known : all_types_known g d ≡ true = not-false (all_types_known g d) (no_fault g c k d UnknownType s) in
    let rules : (all_types_known g d && not (keeps_rules g d)) ≡ false = no_fault g c k d WrongKind s in
    not-false (keeps_rules g d) (rw known at rules)

no_supers : (g : Graph) (kind : Kind) (supers : List (List ℕ)) → list_all (super_fits g kind) supers ≡ true → HasNoSupers kind supers
no_supers g Simple supers e = tt
no_supers g (ListOf of) supers e = tt
no_supers g (Compound parts) [] e = refl
no_supers g (Compound parts) (x ∷ supers) e = absurd (both_ways false refl e)

in_grammar : (g : Graph) (d : Decl) → keeps_rules g d ≡ true → IsInGrammar d
in_grammar g (ObjectType t) e = let h = and_parts (keeps_kind g t.kind) (list_all (super_fits g t.kind) t.supers) e in no_supers g t.kind t.supers h.1
in_grammar g (Suffix s) e = tt
in_grammar g (Param id) e = tt
in_grammar g (Maker m) e = tt

all_from_places : {X : Type 0} (P : X → Type 0) (xs : List X) → ((k : ℕ) (x : X) → slice_get xs k ≡ Some x → P x) → All P xs
all_from_places P [] at = All-nil P
all_from_places P (x ∷ xs) at = All-cons P x xs (at 0 x refl) (all_from_places P xs (λ k. at (suc k)))

-- a checked list is one of the grammar
pub checked_in_grammar : (g : Graph) → Checked g → All IsInGrammar g
checked_in_grammar g c = all_from_places IsInGrammar g (λ k d at. in_grammar g d (keeps g c k d at))

pub checked_has_spelling : (g : Graph) → IsSpellable g → Checked g → HasSpelling g
checked_has_spelling g s c = record { spellable = s; grammar = checked_in_grammar g c }
