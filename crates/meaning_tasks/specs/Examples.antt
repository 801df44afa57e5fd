-- Worked examples of references, picks, needs and calls.
use Rattle.std.specs.Prelude.{◌≡◌, List, [], ◌∷◌, ◌++◌, Some, None, codes}
use Rattle.object_values.specs.declared.messages.Status.TheVariants.{Ok}
use Rattle.object_values.specs.declared.messages.Message.{Message}
use Rattle.object_values.specs.declared.nodes.ParamValue.{ParamValue}
use Rattle.object_values.specs.declared.nodes.Step.TheVariants.{Maker}
use Rattle.object_values.specs.declared.nodes.Node.{Node}
use Rattle.object_values.specs.declared.views.Value.{Value}
use Rattle.object_values.specs.declared.views.Value.TheVariants.{Simple, List as Listed, Compound}
use Rattle.object_values.specs.declared.calls.CallPart.{CallPart}
use Rattle.object_values.specs.declared.calls.Call.{Call}
use Rattle.object_values.specs.declared.calls.Outcome.{Outcome}
use Rattle.object_values.specs.declared.graph.Kind.TheVariants.{Compound as CompoundKind}
use Rattle.object_values.specs.declared.graph.Extra.TheVariants.{Also, With}
use Rattle.object_values.specs.declared.graph.Make.TheVariants.{Pack}
use Rattle.meaning_graph.specs.Graphs.{Text, Graph}
use Rattle.meaning_graph.specs.Samples.{two_ways, c_units, kits, simple, declared, ex_part_decl, maker, tool_with}
use Rattle.meaning_tasks.specs.Labels.{abort_message}
use Rattle.meaning_tasks.specs.NodeSamples.{at_steps, parameter}
use Rattle.meaning_tasks.specs.Tasks.{Own, fine, aborted, Led, read_own, each_own, extra_led, task_of}
use Rattle.meaning_tasks.specs.Settle.{picked_own, stepped_own}
use Rattle.meaning_tasks.specs.Calls.{value_parts}
use Rattle.meaning_tasks.specs.Samples.{ValueByText, known_of, simple_entry, listed_entry, aborted_entry, need_texts, counted_texts, reached_texts, ex_call_in, parts_of_call, call_part, Result, ex_results_of, simple_view, aborted_view, view_over}

-- ---- the nodes

abbrev pub ex_source_node : Text → Node
ex_source_node name = at_steps name []

-- NAME:o over c-units and kits
abbrev pub object_of : Text → Node
object_of name = at_steps name (Maker 1 ∷ [])

-- m.sm:units, m.sm:units:objs and m.sm:units:objs:exe
abbrev pub units : Node
units = at_steps (codes "m.sm") (Maker 2 ∷ [])

abbrev pub objects : Node
objects = at_steps (codes "m.sm") (Maker 2 ∷ Maker 3 ∷ [])

abbrev pub ex_program_node : Node
ex_program_node = at_steps (codes "m.sm") (Maker 2 ∷ Maker 3 ∷ Maker 4 ∷ [])

-- m.sm:kit and a.c:txt over kits
abbrev pub ex_kit : Node
ex_kit = at_steps (codes "m.sm") (Maker 5 ∷ [])

abbrev pub doc : Node
doc = at_steps (codes "a.c") (Maker 6 ∷ [])

-- the node with these parameters
abbrev pub with_params : List ParamValue → Node → Node
with_params params n = record n { params = params }

abbrev pub debug_at : Text → ParamValue
debug_at value = record { param = codes "debug"; value = value }

-- ---- references

-- one reference, to a.c with these parameters
abbrev pub one_unit : List ParamValue → Own
one_unit params = fine (Listed (with_params params (ex_source_node (codes "a.c")) ∷ []))

-- what the reference list of a node of units reads as
abbrev pub read_as : Node → Text → Own
read_as n text = read_own c_units n (codes "c") (Simple text)

abbrev pub fault_of_units : Text → Message
fault_of_units text = abort_message (codes "m.sm:units") text

-- the lines of a reference list, each a reference or a message
pub record References : Type 0 where
  pub each_line : read_as units (codes "a.c\nb.c\n")
      ≡ fine (Listed (ex_source_node (codes "a.c") ∷ ex_source_node (codes "b.c") ∷ []))
  pub bad : read_as units (codes "a.c\n?\n")
      ≡ aborted (fault_of_units (codes "line 2: bad reference") ∷ [])
  pub others : read_as units (codes "a.c+opt\n#\na.c:zz\nm.sm")
      ≡ aborted
      (fault_of_units (codes "line 1: unknown parameter")
      ∷ fault_of_units (codes "line 3: unknown type") ∷ fault_of_units (codes "line 4: no path")
      ∷ [])

-- a line has the parameters of the reading node, then its own; those of the reading node may be
-- undeclared
pub record LineParameters : Type 0 where
  pub sorted : read_as (with_params (parameter (codes "zz") ∷ []) units) (codes "a.c+debug")
      ≡ one_unit (parameter (codes "debug") ∷ parameter (codes "zz") ∷ [])
  pub values : read_as (with_params (debug_at (codes "1") ∷ []) units) (codes "a.c+debug=2")
      ≡ one_unit (debug_at (codes "1") ∷ debug_at (codes "2") ∷ [])

-- what the elements of a list of units are led on to
abbrev pub led_to_objects : List Node → Own
led_to_objects elements = each_own c_units objects (codes "o") (Listed elements)

-- each reference is led on by the chosen path from its own type
pub record Onward : Type 0 where
  pub further : led_to_objects (ex_source_node (codes "a.c") ∷ ex_source_node (codes "b.c") ∷ [])
      ≡ fine (Listed (object_of (codes "a.c") ∷ object_of (codes "b.c") ∷ []))
  pub no_way : led_to_objects (ex_source_node (codes "m.sm") ∷ [])
      ≡ aborted (abort_message (codes "m.sm:units:objs") (codes "no path o") ∷ [])

-- ---- picks

abbrev pub picked_ninth : Value → Own
picked_ninth v =
    picked_own (codes "m.sm:units:objs%9") (known_of c_units []) (codes "9") (Some (Some v))

-- a list without so many elements
pub record PickPastTheEnd : Type 0 where
  pub message : picked_ninth (Listed (object_of (codes "a.c") ∷ []))
      ≡ aborted (abort_message (codes "m.sm:units:objs%9") (codes "no element 9") ∷ [])

-- ---- closures

-- an include loop
abbrev pub loop : List ValueByText
loop =
    simple_entry (codes "a.c") (codes "include a.h\n")
    ∷ simple_entry (codes "a.c:inc") (codes "a.h\n")
    ∷ simple_entry (codes "a.h") (codes "include b.h\n")
    ∷ simple_entry (codes "a.h:inc") (codes "b.h\n")
    ∷ simple_entry (codes "b.h") (codes "include a.h\n")
    ∷ simple_entry (codes "b.h:inc") (codes "a.h\n") ∷ []

-- headers that include one another, one after the other
abbrev pub chain : List ValueByText
chain =
    simple_entry (codes "a.c") (codes "include a.h\n")
    ∷ simple_entry (codes "a.c:inc") (codes "a.h\n")
    ∷ simple_entry (codes "a.h") (codes "include b.h\n")
    ∷ simple_entry (codes "a.h:inc") (codes "b.h\n")
    ∷ simple_entry (codes "b.h") (codes "include c.h\n")
    ∷ simple_entry (codes "b.h:inc") (codes "c.h\n")
    ∷ simple_entry (codes "c.h") [] ∷ simple_entry (codes "c.h:inc") [] ∷ []

-- a header that isn't there
abbrev pub absent : List ValueByText
absent =
    simple_entry (codes "a.c") (codes "include x.h\n")
    ∷ simple_entry (codes "a.c:inc") (codes "x.h\n") ∷ aborted_entry (codes "x.h") ∷ []

-- a header that includes the source again
abbrev pub source_again : List ValueByText
source_again =
    simple_entry (codes "a.c") (codes "include a.h\n")
    ∷ simple_entry (codes "a.c:inc") (codes "a.h\n")
    ∷ simple_entry (codes "a.h") (codes "include a.c\n")
    ∷ simple_entry (codes "a.h:inc") (codes "a.c\n") ∷ []

-- a header at `Abort`, with lines that don't count
abbrev pub aborted_header : List ValueByText
aborted_header =
    simple_entry (codes "a.c") (codes "include a.h\n")
    ∷ simple_entry (codes "a.c:inc") (codes "a.h\n")
    ∷ aborted_entry (codes "a.h") ∷ simple_entry (codes "a.h:inc") (codes "b.h\n") ∷ []

abbrev pub object_needs : List Text → List ValueByText → List Text
object_needs listed entries = need_texts c_units listed entries (object_of (codes "a.c"))

-- the scan nodes by name, that of the own source first, and then the reached sources: an include
-- loop is no circularity, and an absent header is a need
pub record Closures : Type 0 where
  pub include_loop : object_needs (codes "a.c" ∷ codes "a.h" ∷ codes "b.h" ∷ []) loop
      ≡ codes "a.c" ∷ codes "a.c:inc" ∷ codes "a.h:inc" ∷ codes "b.h:inc" ∷ codes "a.h"
      ∷ codes "b.h" ∷ []
  pub headers_of_headers : object_needs
      (codes "a.c" ∷ codes "a.h" ∷ codes "b.h" ∷ codes "c.h" ∷ []) chain
      ≡ codes "a.c" ∷ codes "a.c:inc" ∷ codes "a.h:inc" ∷ codes "b.h:inc" ∷ codes "c.h:inc"
      ∷ codes "a.h" ∷ codes "b.h" ∷ codes "c.h" ∷ []
  pub absent_header : object_needs (codes "a.c" ∷ []) absent
      ≡ codes "a.c" ∷ codes "a.c:inc" ∷ codes "x.h" ∷ []
  pub own_source_again : object_needs (codes "a.c" ∷ codes "a.h" ∷ []) source_again
      ≡ codes "a.c" ∷ codes "a.c:inc" ∷ codes "a.h:inc" ∷ codes "a.c" ∷ codes "a.h" ∷ []
  pub header_aborted : object_needs (codes "a.c" ∷ codes "a.h" ∷ []) aborted_header
      ≡ codes "a.c" ∷ codes "a.c:inc" ∷ codes "a.h" ∷ []

-- what is needed before the base has a value, and of a pack
pub record FirstNeeds : Type 0 where
  pub base_alone : object_needs [] [] ≡ codes "a.c" ∷ []
  pub base_aborted : object_needs [] (aborted_entry (codes "a.c") ∷ []) ≡ codes "a.c" ∷ []
  pub packed : need_texts kits [] [] ex_kit ≡ codes "m.sm:units:objs:exe" ∷ codes "m.sm" ∷ []
  -- the elements of a list follow it
  pub listed : need_texts c_units []
      (listed_entry (codes "m.sm:units:objs") (object_of (codes "a.c") ∷ object_of (codes "b.c")
      ∷ []) ∷ []) ex_program_node
      ≡ codes "m.sm:units:objs" ∷ codes "a.c:o" ∷ codes "b.c:o" ∷ []

-- ---- calls

-- a.c+debug+opt:o
abbrev pub ex_debug_object : Node
ex_debug_object =
    with_params (parameter (codes "debug") ∷ parameter (codes "opt") ∷ []) (object_of (codes "a.c"))

-- what it needs: the scan nodes have its parameters, the reached sources have none
abbrev pub debugged_needs : List ValueByText
debugged_needs =
    simple_entry (codes "a.c+debug+opt") (codes "include a.h\n")
    ∷ simple_entry (codes "a.c+debug+opt:inc") (codes "a.h\n")
    ∷ simple_entry (codes "a.h") (codes "y=2\n") ∷ simple_entry (codes "a.h+debug+opt:inc") [] ∷ []

abbrev pub debugged_parts : List CallPart
debugged_parts =
    call_part 0 (codes "a.c") (Some (codes "include a.h\n"))
    ∷ call_part 1 (codes "a.h") (Some (codes "y=2\n")) ∷ []

-- the tool uses `debug` alone
abbrev pub debugged_call : Call
debugged_call = record {
  tool = codes "cc";
  version = codes "1";
  words = codes "cc" ∷ [];
  params = parameter (codes "debug") ∷ [];
  parts = debugged_parts;
  outs = codes "o" ∷ [];
}

pub record WholeCall : Type 0 where
  pub call : ex_call_in c_units (codes "a.h" ∷ codes "a.c" ∷ []) debugged_needs ex_debug_object
      ≡ Some debugged_call

-- kits and a tool with extras and a closure
abbrev pub with_both : Graph
with_both =
    kits
    ++ tool_with (codes "both") (codes "c") (codes "txt") (codes "ld") []
    (Also (codes "o") ∷ With (codes "lic.h") ∷ []) (Some (codes "inc"))
    ∷ []

abbrev pub both_needs : List ValueByText
both_needs =
    simple_entry (codes "a.c") (codes "x=1\n") ∷ simple_entry (codes "a.c:o") (codes "x=2\n")
    ∷ simple_entry (codes "lic.h") (codes "L\n")
    ∷ simple_entry (codes "a.c:inc") (codes "a.h\n") ∷ simple_entry (codes "a.h") (codes "y=2\n")
    ∷ simple_entry (codes "a.h:inc") [] ∷ []

-- m.sm:units:objs with two elements
abbrev pub ex_two_objects : ValueByText
ex_two_objects =
    listed_entry (codes "m.sm:units:objs") (object_of (codes "a.c") ∷ object_of (codes "b.c") ∷ [])

-- slot 0 is the base, the extras follow one by one, and the reached sources stand after them
pub record Slots : Type 0 where
  pub extras_and_closure : parts_of_call with_both (codes "a.c" ∷ codes "a.h" ∷ []) both_needs
      (at_steps (codes "a.c") (Maker 7 ∷ []))
      ≡ Some
      (call_part 0 (codes "a.c") (Some (codes "x=1\n"))
      ∷ call_part 1 (codes "a.c:o") (Some (codes "x=2\n"))
      ∷ call_part 2 (codes "lic.h") (Some (codes "L\n"))
      ∷ call_part 3 (codes "a.h") (Some (codes "y=2\n")) ∷ [])
  pub absent_header : parts_of_call c_units (codes "a.c" ∷ []) absent (object_of (codes "a.c"))
      ≡ Some
      (call_part 0 (codes "a.c") (Some (codes "include x.h\n")) ∷ call_part 1 (codes "x.h") None
      ∷ [])
  -- each element of the base by its own label
  pub elements : parts_of_call c_units []
      (ex_two_objects ∷ simple_entry (codes "a.c:o") (codes "x=1\n")
      ∷ simple_entry (codes "b.c:o") (codes "y=2\n") ∷ []) ex_program_node
      ≡ Some
      (call_part 0 (codes "a.c:o") (Some (codes "x=1\n"))
      ∷ call_part 0 (codes "b.c:o") (Some (codes "y=2\n")) ∷ [])
  -- each part of a compound by its name after the label
  pub compound : value_parts kits (known_of kits []) 1 ex_kit
      (Some (Some (Compound (record { name = codes "prog"; body = codes "x=1\n" } ∷ []))))
      ≡ call_part 1 (codes "m.sm:kit%prog") (Some (codes "x=1\n")) ∷ []

-- a tool with an extra to which no path leads
abbrev pub with_far_extra : Graph
with_far_extra =
    two_ways
    ++ simple (codes "far")
    ∷ tool_with (codes "t") (codes "a") (codes "d") (codes "ld") []
    (Also (codes "far") ∷ []) None
    ∷ []

-- tools that aren't run
pub record NotRun : Type 0 where
  pub scan_aborted : parts_of_call c_units (codes "a.c" ∷ [])
      (simple_entry (codes "a.c") [] ∷ aborted_entry (codes "a.c:inc") ∷ [])
      (object_of (codes "a.c"))
      ≡ None
  pub extra_aborted : parts_of_call kits []
      (simple_entry (codes "a.c") [] ∷ simple_entry (codes "a.c:o") []
      ∷ aborted_entry (codes "lic.h") ∷ []) doc
      ≡ None
  pub no_extra : parts_of_call with_far_extra [] (simple_entry (codes "z.a") [] ∷ [])
      (at_steps (codes "z.a") (Maker 4 ∷ []))
      ≡ None

-- ---- roles

abbrev pub counted_of : List Text → List ValueByText → List Text
counted_of listed entries = counted_texts c_units listed entries (object_of (codes "a.c"))

abbrev pub reached_of : List Text → List ValueByText → List Text
reached_of listed entries = reached_texts c_units listed entries (object_of (codes "a.c"))

-- A reached source is a need that isn't counted. The own source can be the base and a reached one.
pub record Roles : Type 0 where
  pub header_uncounted : counted_of (codes "a.c" ∷ []) absent
      ≡ codes "a.c" ∷ codes "a.c:inc" ∷ []
  pub header_reached : reached_of (codes "a.c" ∷ []) absent ≡ codes "x.h" ∷ []
  pub source_counted : counted_of (codes "a.c" ∷ codes "a.h" ∷ []) source_again
      ≡ codes "a.c" ∷ codes "a.c:inc" ∷ codes "a.h:inc" ∷ []
  pub source_reached : reached_of (codes "a.c" ∷ codes "a.h" ∷ []) source_again
      ≡ codes "a.c" ∷ codes "a.h" ∷ []
  -- of a pack each need is counted
  pub pack_counted : counted_texts kits [] [] ex_kit
      ≡ codes "m.sm:units:objs:exe" ∷ codes "m.sm" ∷ []
  pub pack_reached : reached_texts kits [] [] ex_kit ≡ []

abbrev pub absent_message : Message
absent_message = abort_message (codes "x.h") (codes "no source x.h")

abbrev pub absent_results : List Result
absent_results =
    (codes "a.c", simple_view (codes "include x.h\n"))
    ∷ (codes "a.c:inc", simple_view (codes "x.h\n"))
    ∷ (codes "x.h", aborted_view (absent_message ∷ [])) ∷ []

abbrev pub scan_message : Message
scan_message = abort_message (codes "a.c:inc") (codes "bad line")

abbrev pub scan_results : List Result
scan_results =
    (codes "a.c", simple_view (codes "include\n"))
    ∷ (codes "a.c:inc", aborted_view (scan_message ∷ [])) ∷ []

-- the outcome with this output and no messages
abbrev pub ex_one_output : Text → Outcome
ex_one_output body =
    record { status = Ok; lines = []; outputs = record { name = codes "o"; body = body } ∷ [] }

-- A header that is absent leaves a.c:o at `Ok` and without messages. A scan at `Abort` doesn't.
pub record ReachedAddNothing : Type 0 where
  pub absent : view_over c_units (codes "a.c" ∷ []) (ex_results_of c_units absent_results)
      (Some (ex_one_output (codes "x=1\n"))) (object_of (codes "a.c"))
      ≡ simple_view (codes "x=1\n")
  pub scan_aborted : view_over c_units (codes "a.c" ∷ []) (ex_results_of c_units scan_results) None
      (object_of (codes "a.c"))
      ≡ aborted_view (scan_message ∷ [])

-- ---- what is led on

abbrev pub led : Node → Led
led n = record { node = Some n; missing = [] }

abbrev pub not_led : Message → Led
not_led m = record { node = None; missing = m ∷ [] }

abbrev pub debug : List ParamValue
debug = parameter (codes "debug") ∷ []

-- `also` goes on from the base, with its parameters; `with` names a source, which has none
pub record Extras : Type 0 where
  pub also : extra_led kits (with_params debug doc) (Also (codes "o"))
      ≡ led (with_params debug (object_of (codes "a.c")))
  pub named : extra_led kits (with_params debug doc) (With (codes "lic.h"))
      ≡ led (ex_source_node (codes "lic.h"))
  pub no_way : extra_led with_far_extra (at_steps (codes "z.a") (Maker 4 ∷ [])) (Also (codes "far"))
      ≡ not_led (abort_message (codes "z.a:d") (codes "no path far"))
  pub needs : need_texts kits [] (simple_entry (codes "a.c+debug") [] ∷ []) (with_params debug doc)
      ≡ codes "a.c+debug" ∷ codes "a.c+debug:o" ∷ codes "lic.h" ∷ []

-- a pack with a part to which no path leads
abbrev pub with_far_part : Graph
with_far_part =
    c_units
    ++ declared (codes "kit")
    (CompoundKind (ex_part_decl (codes "prog") (codes "exe") ∷ ex_part_decl (codes "head") (codes "hdr") ∷ [])) []
    ∷ maker (codes "pk") Pack (codes "sm") (codes "kit") ∷ []

-- what a pack itself gives, where its program is there
abbrev pub pack_own : Graph → Own
pack_own g =
    stepped_own (codes "m.sm:kit") (task_of g ex_kit)
    (known_of g
    (simple_entry (codes "m.sm:units:objs:exe") (codes "x=1\n")
    ∷ simple_entry (codes "m.sm") (codes "a.c\n") ∷ []))
    None

-- where a part is missing, a pack gives the message alone, and still needs the other parts
pub record Packs : Type 0 where
  pub all_there : pack_own kits
      ≡ fine
      (Compound (record { name = codes "prog"; body = codes "x=1\n" }
      ∷ record { name = codes "src"; body = codes "a.c\n" } ∷ []))
  pub part_missing : pack_own with_far_part
      ≡ aborted (abort_message (codes "m.sm:kit") (codes "no path hdr") ∷ [])
  pub others_needed : need_texts with_far_part [] [] ex_kit ≡ codes "m.sm:units:objs:exe" ∷ []
