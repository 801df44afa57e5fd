-- Tests over the names of a declaration.
use Rattle.std.proofs.Common.{◌≡◌, ◌&&◌, Bool, true, false, List, [], ◌∷◌, refl, sym, ap, ◌∙◌, length, nat_eq, arith}
use Rattle.std.specs.Prelude.{Option, Some, None, filter_map}
use Rattle.std.specs.List.{list_all, cons_option}
use Rattle.std.specs.Option.{option_to_list}
use Rattle.std.proofs.lemmas.List.Folds.{list_all-map, list_all-append}
use Rattle.object_values.specs.declared.graph.PartDecl.{PartDecl}
use Rattle.object_values.specs.declared.graph.Kind.{Kind}
use Rattle.object_values.specs.declared.graph.Kind.TheVariants.{Compound}
use Rattle.object_values.specs.declared.graph.Make.{Make}
use Rattle.object_values.specs.declared.graph.Make.TheVariants.{Tool}
use Rattle.object_values.specs.declared.graph.ToolDecl.{ToolDecl}
use Rattle.meaning_graph.specs.Graphs.{Text, Graph}
use Rattle.meaning_graph.specs.Checks.{is_known, kind_types, make_types, also_type, is_simple, super_fits}

pass : (b rest more : Bool) → rest ≡ more → (b && rest) ≡ ((b && true) && more)
pass true rest more e = e
pass false rest more e = refl

one_chosen : {B : Type 0} (p : B → Bool) (o : Option B) (ys : List B) (more : Bool) → list_all p ys ≡ more → list_all p (cons_option o ys) ≡ list_all p (option_to_list o) && more
one_chosen p None ys more e = e
one_chosen p (Some y) ys more e = pass (p y) (list_all p ys) more e

-- a test of all that is chosen is one of each choice
all-chosen : {A B : Type 0} (p : B → Bool) (f : A → Option B) (xs : List A) → list_all p (filter_map f xs) ≡ list_all (λ x. list_all p (option_to_list (f x))) xs
all-chosen p f [] = refl
all-chosen p f (x ∷ xs) = one_chosen p (f x) (filter_map f xs) (list_all (λ y. list_all p (option_to_list (f y))) xs) (all-chosen p f xs)

pub parts_known : (g : Graph) (kind : Kind) (parts : List PartDecl) → kind ≡ Compound parts → list_all (λ (part : PartDecl). is_known g part.of) parts ≡ list_all (is_known g) (kind_types kind)
parts_known g kind parts e = sym (list_all-map (is_known g) (λ (part : PartDecl). part.of) parts) ∙ ap (λ k. list_all (is_known g) (kind_types k)) (sym e)

pub parts_kept : (g : Graph) (kind : Kind) (parts : List PartDecl) → kind ≡ Compound parts → list_all (λ (part : PartDecl). is_simple g part.of) parts ≡ list_all (is_simple g) (kind_types kind)
parts_kept g kind parts e = sym (list_all-map (is_simple g) (λ (part : PartDecl). part.of) parts) ∙ ap (λ k. list_all (is_simple g) (kind_types k)) (sym e)

pub tool_known : (g : Graph) (make : Make) (tool : ToolDecl) → make ≡ Tool tool
    → (list_all (λ extra. list_all (is_known g) (option_to_list (also_type extra))) tool.extras && list_all (is_known g) (option_to_list tool.closure)) ≡ list_all (is_known g) (make_types make)
tool_known g make tool e =
    ap (λ b. b && list_all (is_known g) (option_to_list tool.closure)) (sym (all-chosen (is_known g) also_type tool.extras))
    ∙ sym (list_all-append (is_known g) (filter_map also_type tool.extras) (option_to_list tool.closure)) ∙ ap (λ m. list_all (is_known g) (make_types m)) (sym e)

pub no_supers : (g : Graph) (kind : Kind) (parts : List PartDecl) (supers : List Text) → kind ≡ Compound parts → nat_eq (length supers) 0 ≡ list_all (super_fits g kind) supers
no_supers g kind parts supers e = by supers ∙ ap (λ k. list_all (super_fits g k) supers) (sym e)
  where
    by : (names : List Text) → nat_eq (length names) 0 ≡ list_all (super_fits g (Compound parts)) names
    by [] = refl
    by (x ∷ xs) = grind arith
