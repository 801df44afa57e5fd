-- Why a run ends without the script's status: its own status, to whom the fault is told, and by which line.
use Rattle.std.specs.Prelude.{ℕ, List, [], ◌∷◌, ◌++◌, codes}
use Rattle.meaning_texts.specs.Escapes.{escaped}
use Rattle.call_layout.specs.declared.layout.LayoutFault.{LayoutFault}
use Rattle.call_layout.specs.declared.layout.LayoutFault.TheVariants as layout
use Rattle.call_layout.specs.declared.faults.Fault.{Fault}
use Rattle.call_layout.specs.declared.faults.Fault.TheVariants.{Layout, Differs, NoScript, NoCall, UnknownCall, System, Memory, Words}
use Rattle.call_layout.specs.declared.faults.Told.{Told}
use Rattle.call_layout.specs.declared.faults.Told.TheVariants.{ToCall, ToSystem, ToCaller}

abbrev pub of_layout : LayoutFault → Fault
of_layout layout.Memory = Memory
of_layout fault = Layout fault

abbrev pub fault_status : Fault → ℕ
fault_status (Layout fault) = 2
fault_status (Differs label) = 2
fault_status (NoScript label) = 2
fault_status UnknownCall = 3
fault_status (System place cause) = 3
fault_status Memory = 4
fault_status NoCall = 9
fault_status Words = 9

-- What follows from the call is told to whoever asked for it, and kept. Of another fault the call has no outcome.
abbrev pub told_to : Fault → Told
told_to (Layout fault) = ToCall
told_to (Differs label) = ToCall
told_to (NoScript label) = ToCall
told_to UnknownCall = ToSystem
told_to (System place cause) = ToSystem
told_to Memory = ToSystem
told_to NoCall = ToCaller
told_to Words = ToCaller

-- `odin_lay: PLACE: WHAT`
abbrev pub place_line : List ℕ → List ℕ → List ℕ
place_line place what = codes "odin_lay: " ++ (escaped place ++ (codes ": " ++ (what ++ 10 ∷ [])))

abbrev pub under_line : List ℕ → List ℕ → List ℕ
under_line folder label =
    codes "odin_lay: "
    ++ (escaped folder ++ (codes ": a file, and a folder of " ++ (escaped label ++ 10 ∷ [])))

abbrev pub layout_line : LayoutFault → List ℕ
layout_line (layout.Leads label) =
    place_line label (codes "no path of a file below the folder of the call")
layout_line (layout.NoText label) = place_line label (codes "no text")
layout_line (layout.Taken label) =
    place_line label (codes "a name that odin has in the folder of a call")
layout_line (layout.Under folder label) = under_line folder label
layout_line layout.Memory = codes "odin_lay: out of memory\n"

abbrev pub fault_line : Fault → List ℕ
fault_line (Layout fault) = layout_line fault
fault_line (Differs label) = place_line label (codes "two parts with other bytes")
fault_line (NoScript label) = place_line label (codes "no part of the call is this script")
fault_line NoCall = codes "odin_lay: there is no file call here: odin starts it, as a tool\n"
fault_line UnknownCall = codes "odin_lay: the file call is none that this odin_lay knows\n"
fault_line (System place cause) = place_line place cause
fault_line Memory = codes "odin_lay: out of memory\n"
fault_line Words = codes "usage: odin_lay SCRIPT [WORD]..\n"
