-- What every end of a load session says.
use Rattle.std.proofs.Common.{◌≡◌, ℕ, ◌≤◌, List, Option, ap, sym, refl, subst}
use Rattle.meaning_commands.specs.Objects.{SinkTold}
use Rattle.odin_journal.specs.declared.fault.JournalFault.{JournalFault}
use Rattle.odin_journal.specs.declared.fault.JournalFault.TheVariants as fault
use Rattle.odin_words.specs.Asked.{IsWork, serves, loads, AskedWork, Load}
use Rattle.odin_shell.specs.declared.ending.Ending.{Ending}
use Rattle.odin_shell.specs.declared.ending.Ending.TheVariants.{Memory, Output, Full, Loaded, Room}
use Rattle.odin_shell.specs.Opened.{full_line}
use Rattle.odin_shell.specs.Loading.{load_lines}
use Rattle.odin_shell.specs.Run.{ClosesLoad, LoadEnds, load_served, load_failed, OutputCount}
use Rattle.odin_shell.proofs.StoreLemmas.{at_says, says_output}

-- what holds of each ending of a load session
pub record OfLoads (P : Ending → Type 0) : Type 0 where
  pub loaded : P Loaded
  pub room : P Room
  pub full : (at size : ℕ) → P (Full at size)
  pub memory : P Memory
  pub output : P Output

at_load_fault : (e : JournalFault) (before now : SinkTold) (ending : Ending) (P : Ending → Type 0) → OfLoads P → ClosesLoad e before now ending → P ending
at_load_fault fault.Disk before now ending P each closes = subst P (sym closes.1) each.room
at_load_fault (fault.NotOurs at) before now ending P each closes = absurd closes
at_load_fault (fault.Full at size) before now ending P each closes = at_says (full_line at size) (Full at size) before now ending P closes (each.full at size) each.output each.memory
at_load_fault fault.Memory before now ending P each closes = subst P (sym closes.1) each.memory

pub at_load : (units : ℕ) (before now : SinkTold) (ending : Ending) (P : Ending → Type 0) → OfLoads P → LoadEnds units before now ending → P ending
at_load units before now ending P each (load_served loaded is says) = at_says (load_lines units loaded) Loaded before now ending P says each.loaded each.output each.memory
at_load units before now ending P each (load_failed e is closes) = at_load_fault e before now ending P each closes

fault_output : (e : JournalFault) (before now : SinkTold) (ending : Ending) → ClosesLoad e before now ending → OutputCount ending before.faults now.faults
fault_output fault.Disk before now ending closes = subst (λ e. OutputCount e before.faults now.faults) (sym closes.1) (ap (λ (s : SinkTold). s.faults) closes.0)
fault_output (fault.NotOurs at) before now ending closes = absurd closes
fault_output (fault.Full at size) before now ending closes = says_output (full_line at size) (Full at size) before now ending (λ e. e) closes
fault_output fault.Memory before now ending closes = subst (λ e. OutputCount e before.faults now.faults) (sym closes.1) (ap (λ (s : SinkTold). s.faults) closes.0)

pub load_output : (units : ℕ) (before now : SinkTold) (ending : Ending) → LoadEnds units before now ending → OutputCount ending before.faults now.faults
load_output units before now ending (load_served loaded is says) = says_output (load_lines units loaded) Loaded before now ending (λ e. e) says
load_output units before now ending (load_failed e is closes) = fault_output e before now ending closes

-- the units that words ask for are so many
within : (graph load : Option (List ℕ)) (work : AskedWork) (units : ℕ) → work ≡ Load units → IsWork graph load work → (1 ≤ units) × (units ≤ 2000)
within graph load work units is (serves name) = absurd cc
within graph load work units is (loads word same number) =
    let equal : same ≡ units = cc in
    (subst (λ n. 1 ≤ n) equal number.some, subst (λ n. n ≤ 2000) equal number.few)

pub units_within : (graph load : Option (List ℕ)) (units : ℕ) → IsWork graph load (Load units) → (1 ≤ units) × (units ≤ 2000)
units_within graph load units is = within graph load (Load units) units refl is
