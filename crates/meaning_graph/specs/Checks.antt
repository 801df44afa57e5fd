-- The faults of declarations: six tests at each, and the first fault of a list. A name means its
-- first declaration.
use Rattle.std.specs.Prelude.{◌≡◌, ℕ, ◌+◌, ◌-◌, ◌<◌, ◌≤◌, ◌⊎◌, Bool, true, false, not, ◌&&◌, ◌||◌, nat_lt, IsTrue, List, [], ◌∷◌, ◌++◌, map, take, Option, Some, None, is_some, bytes_eq, slice_get}
use Rattle.std.specs.List.{list_any, list_all, filter_map, find}
use Rattle.std.specs.Option.{option_map_or, option_to_list}
use Rattle.object_values.specs.declared.graph.PartDecl.{PartDecl}
use Rattle.object_values.specs.declared.graph.Kind.{Kind}
use Rattle.object_values.specs.declared.graph.Kind.TheVariants.{Simple, List as ListOf, Compound}
use Rattle.object_values.specs.declared.graph.TypeDecl.{TypeDecl}
use Rattle.object_values.specs.declared.graph.SuffixDecl.{SuffixDecl}
use Rattle.object_values.specs.declared.graph.Extra.{Extra}
use Rattle.object_values.specs.declared.graph.Extra.TheVariants.{Also, With}
use Rattle.object_values.specs.declared.graph.Make.{Make}
use Rattle.object_values.specs.declared.graph.Make.TheVariants.{Tool, Read, Each, Pack}
use Rattle.object_values.specs.declared.graph.MakerDecl.{MakerDecl}
use Rattle.object_values.specs.declared.graph.Decl.{Decl}
use Rattle.object_values.specs.declared.graph.Decl.TheVariants.{ObjectType, Suffix, Param, Maker}
use Rattle.object_values.specs.declared.graph.GraphFault.{GraphFault}
use Rattle.object_values.specs.declared.graph.GraphFault.TheVariants.{UnknownType, DoubleName, SupertypeLoop, WrongKind, TooMany, UnknownParam}
use Rattle.meaning_texts.specs.Limits.{declaration_limit}
use Rattle.meaning_graph.specs.Graphs.{Text, Graph, types, makers, suffixes, type_named, has_param, kind_named}
use Rattle.meaning_graph.specs.Types.{IsA, is_a}

-- ---- unknown type

abbrev pub kind_types : Kind → List Text
kind_types Simple = []
kind_types (ListOf of) = of ∷ []
kind_types (Compound parts) = map (λ (part : PartDecl). part.of) parts

abbrev pub also_type : Extra → Option Text
also_type (Also id) = Some id
also_type (With name) = None

abbrev pub make_types : Make → List Text
make_types (Tool tool) = filter_map also_type tool.extras ++ option_to_list tool.closure
make_types other = []

-- the types that a declaration names
abbrev pub types_named_in : Decl → List Text
types_named_in (ObjectType t) = kind_types t.kind ++ t.supers
types_named_in (Suffix s) = s.of ∷ []
types_named_in (Param id) = []
types_named_in (Maker m) = m.from ∷ m.to ∷ make_types m.make

abbrev pub is_known : Graph → Text → Bool
is_known g name = is_some (type_named g name)

abbrev pub all_types_known : Graph → Decl → Bool
all_types_known g d = list_all (is_known g) (types_named_in d)

-- ---- double name

-- an item stands there twice
abbrev pub has_twice : List Text → Bool
has_twice [] = false
has_twice (x ∷ xs) = list_any (bytes_eq x) xs || has_twice xs

abbrev pub used_params : Make → List Text
used_params (Tool tool) = tool.uses
used_params other = []

abbrev pub part_names : Kind → List Text
part_names (Compound parts) = map (λ (part : PartDecl). part.name) parts
part_names other = []

-- The name is declared before in the same space, `text` being there from the start, or a part or a
-- used parameter stands twice.
abbrev pub doubles_name : Graph → Decl → Bool
doubles_name before (ObjectType t) =
    list_any (λ (u : TypeDecl). bytes_eq u.name t.name) (types before)
    || has_twice (part_names t.kind)
doubles_name before (Suffix s) =
    list_any (λ (u : SuffixDecl). bytes_eq u.suffix s.suffix) (suffixes before)
doubles_name before (Param id) = has_param before id
doubles_name before (Maker m) =
    list_any (λ (n : MakerDecl). bytes_eq n.name m.name) (makers before)
    || has_twice (used_params m.make)

-- ---- supertype loop

-- the test on the numbers of two types, where both are known
abbrev pub both_known : (ℕ → ℕ → Bool) → Option ℕ → Option ℕ → Bool
both_known test None b = false
both_known test (Some a) None = false
both_known test (Some a) (Some b) = test a b

-- the type of the one name is the type of the other
abbrev pub is_a_named : Graph → Text → Text → Bool
is_a_named g a b = both_known (is_a g) (type_named g a) (type_named g b)

-- The one name means a type that is the type of the other by supertypes, none, one or more.
pub record IsANamed (g : Graph) (a b : Text) : Type 0 where
  pub lower : ℕ
  pub upper : ℕ
  pub lower_is : type_named g a ≡ Some lower
  pub upper_is : type_named g b ≡ Some upper
  pub reached : IsA g lower upper

-- the type is reached from itself by one or more supertypes
abbrev pub is_in_loop : Graph → Decl → Bool
is_in_loop g (ObjectType t) = list_any (λ super. is_a_named g super t.name) t.supers
is_in_loop g other = false

-- ---- wrong kind

abbrev pub is_simple_kind : Kind → Bool
is_simple_kind Simple = true
is_simple_kind other = false

abbrev pub is_list_kind : Kind → Bool
is_list_kind (ListOf of) = true
is_list_kind other = false

abbrev pub is_compound_kind : Kind → Bool
is_compound_kind (Compound parts) = true
is_compound_kind other = false

abbrev pub is_simple : Graph → Text → Bool
is_simple g name = option_map_or is_simple_kind (kind_named g name) false

abbrev pub is_list : Graph → Text → Bool
is_list g name = option_map_or is_list_kind (kind_named g name) false

abbrev pub is_compound : Graph → Text → Bool
is_compound g name = option_map_or is_compound_kind (kind_named g name) false

-- the supertype of a list of this type is a list, and the elements of the one are the elements of
-- the other; an element type that is nowhere declared is a fault of the supertype alone
abbrev pub fits_list : Graph → Text → Option Kind → Bool
fits_list g of (Some (ListOf super_of)) = not (is_known g super_of) || is_a_named g of super_of
fits_list g of other = false

-- a supertype of a simple type is simple, one of a list is a list, and a compound has none
abbrev pub super_fits : Graph → Kind → Text → Bool
super_fits g Simple super = is_simple g super
super_fits g (ListOf of) super = fits_list g of (kind_named g super)
super_fits g (Compound parts) super = false

-- elements and parts are simple
abbrev pub keeps_kind : Graph → Kind → Bool
keeps_kind g kind = list_all (is_simple g) (kind_types kind)

-- what a maker of this sort takes and makes
abbrev pub keeps_make : Graph → Text → Text → Make → Bool
keeps_make g from to (Tool tool) =
    (is_simple g to || is_compound g to) && list_all (is_simple g) (option_to_list tool.closure)
keeps_make g from to Read = is_simple g from && is_list g to
keeps_make g from to Each = is_list g from && is_list g to
keeps_make g from to Pack = is_compound g to

-- the rules of kinds
abbrev pub keeps_rules : Graph → Decl → Bool
keeps_rules g (ObjectType t) = keeps_kind g t.kind && list_all (super_fits g t.kind) t.supers
keeps_rules g (Suffix s) = is_simple g s.of
keeps_rules g (Param id) = true
keeps_rules g (Maker m) = keeps_make g m.from m.to m.make

-- ---- unknown parameter

abbrev pub uses_unknown_param : Graph → Decl → Bool
uses_unknown_param g (Maker m) = list_any (λ id. not (has_param g id)) (used_params m.make)
uses_unknown_param g other = false

-- ---- faults

-- the declaration of this number, from 1, has the fault
unfoldable pub has_fault : Graph → ℕ → Decl → GraphFault → Bool
has_fault g number d UnknownType = not (all_types_known g d)
has_fault g number d DoubleName = doubles_name (take (number - 1) g) d
has_fault g number d SupertypeLoop = is_in_loop g d
has_fault g number d WrongKind = all_types_known g d && not (keeps_rules g d)
has_fault g number d TooMany = nat_lt declaration_limit number
has_fault g number d UnknownParam = uses_unknown_param g d

abbrev pub fault_number : GraphFault → ℕ
fault_number UnknownType = 1
fault_number DoubleName = 2
fault_number SupertypeLoop = 3
fault_number WrongKind = 4
fault_number TooMany = 5
fault_number UnknownParam = 6

-- The list has a declaration of this number, with the fault.
pub record HasFault (g : Graph) (number : ℕ) (fault : GraphFault) : Type 0 where
  pub declaration : Decl
  pub counted : 0 < number
  pub there : slice_get g (number - 1) ≡ Some declaration
  pub wrong : IsTrue (has_fault g number declaration fault)

-- No declaration has a fault.
abbrev pub Checked : Graph → Type 0
Checked g = (number : ℕ) (fault : GraphFault) → HasFault g number fault → ⊥

-- This is the least number of a declaration with a fault, and there the least fault.
pub record FirstFault (g : Graph) (number : ℕ) (fault : GraphFault) : Type 0 where
  pub there : HasFault g number fault
  pub least : (m : ℕ) (other : GraphFault) → HasFault g m other
      → (number < m) ⊎ ((number ≡ m) × (fault_number fault ≤ fault_number other))

-- ---- the first fault, computed

abbrev pub all_faults : List GraphFault
all_faults = UnknownType ∷ DoubleName ∷ SupertypeLoop ∷ WrongKind ∷ TooMany ∷ UnknownParam ∷ []

-- a declaration's number and its fault
pub record FaultAt : Type 0 where
  pub number : ℕ
  pub fault : GraphFault

abbrev pub at_or_later : ℕ → Option GraphFault → Option FaultAt → Option FaultAt
at_or_later number None later = later
at_or_later number (Some fault) later = Some (record { number = number; fault = fault })

-- the first fault of these declarations, numbered from the number on
abbrev pub first_from : Graph → ℕ → List Decl → Option FaultAt
first_from g number [] = None
first_from g number (d ∷ rest) =
    at_or_later number (find (has_fault g number d) all_faults) (first_from g (number + 1) rest)

unfoldable pub first_fault : Graph → Option FaultAt
first_fault g = first_from g 1 g
