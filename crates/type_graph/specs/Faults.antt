-- Why declarations are refused.
use Rattle.std.specs.Prelude.{⊤, ℕ, Option, find}
use Rattle.object_values.specs.declared.graph.Decl.{Decl}
use Rattle.object_values.specs.declared.graph.GraphFault.{GraphFault}
use Rattle.meaning_graph.specs.Graphs.{Graph}
use Rattle.meaning_graph.specs.Checks.{has_fault, all_faults, FirstFault}
use Rattle.type_graph.specs.declared.fault.CheckFault.{CheckFault}
use Rattle.type_graph.specs.declared.fault.CheckFault.TheVariants as fault

-- by their first fault, or for want of memory
abbrev pub IsCheckFaultOf : Graph → CheckFault → Type 0
IsCheckFaultOf g (fault.Graph number found) = FirstFault g number found
IsCheckFaultOf g fault.Memory = ⊤

-- the least fault of a declaration of this number
abbrev pub least_fault : Graph → ℕ → Decl → Option GraphFault
least_fault g number declaration = find (has_fault g number declaration) all_faults
