-- The nodes of the worked chains.
use Rattle.std.specs.Prelude.{[], ◌∷◌, codes}
use Rattle.object_values.specs.declared.nodes.Step.TheVariants.{Maker}
use Rattle.object_values.specs.declared.nodes.Node.{Node}
use Rattle.meaning_tasks.specs.NodeSamples.{at_steps}

-- m.sm:units:objs, and :exe after it
abbrev pub objs : Node
objs = at_steps (codes "m.sm") (Maker 2 ∷ Maker 3 ∷ [])

abbrev pub exe : Node
exe = at_steps (codes "m.sm") (Maker 2 ∷ Maker 3 ∷ Maker 4 ∷ [])

-- m.sm:units:objs:exe:c, and :o after it
abbrev pub back : Node
back = at_steps (codes "m.sm") (Maker 2 ∷ Maker 3 ∷ Maker 4 ∷ Maker 5 ∷ [])

abbrev pub back_again : Node
back_again = at_steps (codes "m.sm") (Maker 2 ∷ Maker 3 ∷ Maker 4 ∷ Maker 5 ∷ Maker 1 ∷ [])

-- a1.t:l, and :u after it
abbrev pub lines : Node
lines = at_steps (codes "a1.t") (Maker 0 ∷ [])

abbrev pub ex_joined_node : Node
ex_joined_node = at_steps (codes "a1.t") (Maker 0 ∷ Maker 1 ∷ [])
