-- Worked examples of nodes and their texts.
use Rattle.std.specs.Prelude.{None, ◌≡◌, List, [], ◌∷◌, Some, codes}
use Rattle.object_values.specs.declared.nodes.Step.{Step}
use Rattle.object_values.specs.declared.nodes.Step.TheVariants.{Maker, Pick}
use Rattle.object_values.specs.declared.nodes.Node.{Node}
use Rattle.meaning_graph.specs.Graphs.{Text, Graph}
use Rattle.meaning_graph.specs.Samples.{two_ways, c_units}
use Rattle.object_values.specs.declared.messages.Status.TheVariants.{Ok, Warning, Error, Abort}
use Rattle.object_values.specs.declared.messages.Message.{Message}
use Rattle.object_values.specs.declared.views.Value.{Value}
use Rattle.object_values.specs.declared.views.Value.TheVariants.{Simple, List as Listed, Compound}
use Rattle.meaning_tasks.specs.Labels.{abort_message, label_of, node_text}
use Rattle.meaning_tasks.specs.Values.{element, body, pick, worst, inherit}
use Rattle.meaning_tasks.specs.NodeOf.{NodeAnswer, is_node, unknown_param, unknown_type, no_path}
use Rattle.meaning_tasks.specs.NodeSamples.{ex_node_in, at_steps, parameter}

-- the text is one of the node of this source and these steps
abbrev pub IsNodeIn : Graph → Text → Text → List Step → Type 0
IsNodeIn g text source steps = ex_node_in g text ≡ Some (is_node (at_steps source steps))

abbrev pub IsRefusedIn : Graph → Text → NodeAnswer → Type 0
IsRefusedIn g text refusal = ex_node_in g text ≡ Some refusal

-- the makers of chosen paths, and picks
pub record NodesOfTexts : Type 0 where
  pub two_ways : IsNodeIn two_ways (codes "z.a:d") (codes "z.a") (Maker 0 ∷ Maker 3 ∷ [])
  pub whole : IsNodeIn c_units (codes "m.sm:exe") (codes "m.sm") (Maker 2 ∷ Maker 3 ∷ Maker 4 ∷ [])
  -- further paths go from the type that is reached
  pub in_two : IsNodeIn c_units (codes "m.sm:units:exe") (codes "m.sm")
      (Maker 2 ∷ Maker 3 ∷ Maker 4 ∷ [])
  -- after an empty path the node keeps its own type
  pub keeps_its_type : IsNodeIn c_units (codes "a.c:hdr:o") (codes "a.c") (Maker 1 ∷ [])
  pub picked : IsNodeIn c_units (codes "m.sm:objs%2") (codes "m.sm")
      (Maker 2 ∷ Maker 3 ∷ Pick (codes "2") ∷ [])

-- what is refused for what it names: a parameter first, then the steps in order
pub record RefusedNodes : Type 0 where
  pub param : IsRefusedIn c_units (codes "a.c+opt:zz") (unknown_param (codes "opt"))
  pub type : IsRefusedIn c_units (codes "a.c:zz") (unknown_type (codes "zz"))
  pub path : IsRefusedIn c_units (codes "a.c:exe") (no_path 1)
  pub first_step : IsRefusedIn c_units (codes "a.c%1:zz") (no_path 1)
  pub pick_of_simple : IsRefusedIn c_units (codes "a.c:o%1") (no_path 2)
  -- keys that are no number of an element
  pub leading_zero : IsRefusedIn c_units (codes "m.sm:units%01") (no_path 2)
  pub zero : IsRefusedIn c_units (codes "m.sm:units%0") (no_path 2)
  pub past_all : IsRefusedIn c_units (codes "m.sm:units%4294967296") (no_path 2)

-- this source with the parameter `debug` and these steps
abbrev pub ex_debug_node : Text → List Step → Node
ex_debug_node source steps =
    record { source = source; params = parameter (codes "debug") ∷ []; steps = steps }

-- labels have no parameters, texts have
pub record LabelsAndTexts : Type 0 where
  pub label : label_of c_units (ex_debug_node (codes "m.sm") (Maker 2 ∷ Maker 3 ∷ Pick (codes "9") ∷ []))
      ≡ codes "m.sm:units:objs%9"
  pub text : node_text c_units (ex_debug_node (codes "a.c") (Maker 1 ∷ [])) ≡ codes "a.c+debug:o"

abbrev pub two_units : List Node
two_units = at_steps (codes "a.c") [] ∷ at_steps (codes "b.c") [] ∷ []

abbrev pub ex_two_part_value : Value
ex_two_part_value =
    Compound
    (record { name = codes "prog"; body = codes "x=1\n" }
    ∷ record { name = codes "src"; body = codes "a.c\n" } ∷ [])

-- what keys pick: elements from 1, parts by their names, and nothing of a simple object
pub record Picks : Type 0 where
  pub first : pick (Listed two_units) (codes "1") ≡ Some (element (at_steps (codes "a.c") []))
  pub second : pick (Listed two_units) (codes "2") ≡ Some (element (at_steps (codes "b.c") []))
  pub past : pick (Listed two_units) (codes "3") ≡ None
  pub leading_zero : pick (Listed two_units) (codes "02") ≡ None
  pub part : pick ex_two_part_value (codes "src") ≡ Some (body (codes "a.c\n"))
  pub no_part : pick ex_two_part_value (codes "2") ≡ None
  pub simple : pick (Simple (codes "x=1\n")) (codes "1") ≡ None

-- the later of two statuses
pub record WorstStatuses : Type 0 where
  pub later : worst Warning Error ≡ Error
  pub earlier : worst Abort Ok ≡ Abort
  pub alike : worst Warning Warning ≡ Warning

abbrev pub said_a : Message
said_a = abort_message (codes "a") (codes "x")

abbrev pub said_b : Message
said_b = abort_message (codes "b") (codes "x")

abbrev pub said_more : Message
said_more = abort_message (codes "a") (codes "y")

abbrev pub ex_warning : Message
ex_warning = record { label = codes "a"; level = Warning; text = codes "x" }

-- those of the needs before the own ones, each once
pub record InheritedMessages : Type 0 where
  pub order : inherit (said_a ∷ said_b ∷ []) (said_a ∷ said_more ∷ [])
      ≡ said_a ∷ said_b ∷ said_more ∷ []
  -- the level counts
  pub levels : inherit (ex_warning ∷ []) (said_a ∷ []) ≡ ex_warning ∷ said_a ∷ []
