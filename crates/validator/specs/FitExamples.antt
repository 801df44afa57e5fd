-- Worked examples of records that fit a graph, and of such as don't.
use Rattle.std.specs.Prelude.{List, [], ◌∷◌, map, Option, Some, None, codes}
use Rattle.object_values.specs.declared.messages.Status.TheVariants.{Ok}
use Rattle.object_values.specs.declared.nodes.Step.TheVariants.{Maker, Pick}
use Rattle.object_values.specs.declared.nodes.Node.{Node}
use Rattle.object_values.specs.declared.views.Part.{Part}
use Rattle.object_values.specs.declared.views.Value.{Value}
use Rattle.object_values.specs.declared.views.Value.TheVariants.{Simple, List as Listed, Compound}
use Rattle.object_values.specs.declared.records.Role.TheVariants.{Needed}
use Rattle.object_values.specs.declared.facts.Fact.{Fact}
use Rattle.meaning_graph.specs.Graphs.{Text}
use Rattle.meaning_graph.specs.Samples.{c_units, joined_texts, kits}
use Rattle.meaning_tasks.specs.NodeSamples.{at_steps, parameter}
use Rattle.validator.specs.Fitting.{FactFits}

-- a record of the node over these deps, with this value
abbrev pub fact_of : Node → List Node → Option Value → Fact
fact_of n deps value = record {
  node = n;
  deps = map (λ d. record { node = d; role = Needed; value = None }) deps;
  value = value;
  own_status = Ok;
  own_messages = [];
}

abbrev pub ex_source : Text → Node
ex_source name = at_steps name []

-- m.sm:units, a list of units in C, over its source
abbrev pub ex_units : Option Value → Fact
ex_units = fact_of (at_steps (codes "m.sm") (Maker 2 ∷ [])) (ex_source (codes "m.sm") ∷ [])

abbrev pub ex_units_are : List Node → Fact
ex_units_are elements = ex_units (Some (Listed elements))

-- m.sm:kit, whose parts are `prog` and `src`
abbrev pub ex_kit_is : Value → Fact
ex_kit_is value = fact_of (at_steps (codes "m.sm") (Maker 5 ∷ [])) [] (Some value)

abbrev pub ex_part : Text → Part
ex_part name = record { name = name; body = [] }

-- a.t:l, a list of texts, one of which is a joined one
abbrev pub ex_texts : Fact
ex_texts =
    fact_of (at_steps (codes "a.t") (Maker 0 ∷ [])) []
    (Some
    (Listed
    (ex_source (codes "b.t") ∷ at_steps (codes "b.t") (Maker 0 ∷ Maker 1 ∷ []) ∷ [])))

-- a record of a source, with a simple value
abbrev pub ex_of_source : Node → Fact
ex_of_source n = fact_of n [] (Some (Simple []))

-- a record of a.c over this node
abbrev pub ex_over : Node → Fact
ex_over d = fact_of (ex_source (codes "a.c")) (d ∷ []) None

-- Values of each kind.
pub record RecordsThatFit : Type 0 where
  pub listed : FactFits c_units
      (ex_units_are (ex_source (codes "a.c") ∷ ex_source (codes "b.c") ∷ []))
  pub empty : FactFits c_units (ex_units_are [])
  -- a type serves as its supertypes
  pub subtype : FactFits joined_texts ex_texts
  pub compound : FactFits kits
      (ex_kit_is (Compound (ex_part (codes "prog") ∷ ex_part (codes "src") ∷ [])))
  pub simple : FactFits c_units
      (fact_of (at_steps (codes "a.c") (Maker 1 ∷ [])) [] (Some (Simple [])))
  -- a source without a type that is declared is a text
  pub text : FactFits c_units (ex_of_source (ex_source (codes "README")))
  -- a node at `Abort` has no value
  pub none : FactFits c_units (ex_units None)

-- Values of another kind, with other elements or with other parts.
pub record ValuesThatDoNotFit : Type 0 where
  -- a header is no unit, and neither is an object
  pub header : ¬ FactFits c_units (ex_units_are (ex_source (codes "a.h") ∷ []))
  pub last : ¬ FactFits c_units
      (ex_units_are
      (ex_source (codes "a.c") ∷ at_steps (codes "a.c") (Maker 1 ∷ []) ∷ []))
  -- an element that fits no graph
  pub strange : ¬ FactFits c_units (ex_units_are (at_steps (codes "a.c") (Maker 9 ∷ []) ∷ []))
  pub simple_for_list : ¬ FactFits c_units (ex_units (Some (Simple (codes "a.c\n"))))
  pub compound_for_list : ¬ FactFits c_units (ex_units (Some (Compound [])))
  pub list_for_simple : ¬ FactFits c_units (fact_of (ex_source (codes "a.c")) [] (Some (Listed [])))
  pub list_for_text : ¬ FactFits c_units (fact_of (ex_source (codes "README")) [] (Some (Listed [])))
  pub simple_for_compound : ¬ FactFits kits (ex_kit_is (Simple []))

-- Parts that are missing, that are too many, in another order, and with another name.
pub record PartsThatDoNotFit : Type 0 where
  pub missing : ¬ FactFits kits (ex_kit_is (Compound (ex_part (codes "prog") ∷ [])))
  pub more : ¬ FactFits kits
      (ex_kit_is
      (Compound (ex_part (codes "prog") ∷ ex_part (codes "src") ∷ ex_part (codes "src") ∷ [])))
  pub turned : ¬ FactFits kits
      (ex_kit_is (Compound (ex_part (codes "src") ∷ ex_part (codes "prog") ∷ [])))
  pub renamed : ¬ FactFits kits
      (ex_kit_is (Compound (ex_part (codes "prog") ∷ ex_part (codes "sources") ∷ [])))

-- Nodes that fit no graph, the record's own and a dep's.
pub record NodesThatDoNotFit : Type 0 where
  -- there are five makers
  pub no_maker : ¬ FactFits c_units (ex_of_source (at_steps (codes "a.c") (Maker 5 ∷ [])))
  -- what is linked is a list of objects
  pub other_maker : ¬ FactFits c_units (ex_of_source (at_steps (codes "a.c") (Maker 4 ∷ [])))
  pub picked : ¬ FactFits c_units (ex_of_source (at_steps (codes "a.c") (Pick (codes "1") ∷ [])))
  pub name : ¬ FactFits c_units (ex_of_source (ex_source (codes "a c")))
  pub param : ¬ FactFits c_units
      (ex_of_source (record { source = codes "a.c"; params = parameter [] ∷ []; steps = [] }))
  pub dep : ¬ FactFits c_units (ex_over (at_steps (codes "a.h") (Maker 1 ∷ [])))
  pub dep_name : ¬ FactFits c_units (ex_over (ex_source []))
  -- and the last dep
  pub last_dep : ¬ FactFits c_units
      (fact_of (ex_source (codes "a.c")) (ex_source (codes "a.h") ∷ ex_source [] ∷ []) None)
