-- What the laws of whole graph files say.
use Rattle.std.specs.Prelude.{◌≡◌, ◌≢◌, ◌⊎◌, ℕ, List}
use Rattle.object_values.specs.declared.graph.Decl.{Decl}
use Rattle.dg_reader.specs.declared.fault.ReadFault.{ReadFault}
use Rattle.dg_reader.specs.declared.fault.ReadFault.TheVariants.{Memory}
use Rattle.dg_reader.specs.Files.{IsRead, Refuses}

-- Each text is one of a checked list, or is refused by a fault.
abbrev pub EachIsReadOrRefused : Type 0
EachIsReadOrRefused = (text : List ℕ) → ((decls : List Decl) × IsRead text decls) ⊎ ((fault : ReadFault) × (fault ≢ Memory) × Refuses text fault)

-- A text that is one of a checked list is refused by no fault.
abbrev pub ReadIsNotRefused : Type 0
ReadIsNotRefused = (text : List ℕ) (decls : List Decl) (fault : ReadFault) → fault ≢ Memory → IsRead text decls → Refuses text fault → ⊥

-- A text is refused by one fault at most, at one place.
abbrev pub RefusedByOne : Type 0
RefusedByOne = (text : List ℕ) (fault second : ReadFault) → fault ≢ Memory → second ≢ Memory → Refuses text fault → Refuses text second → second ≡ fault
