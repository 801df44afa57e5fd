-- The words of a node.
use Rattle.std.specs.Prelude.{Bool, ◌&&◌}
use Rattle.std.specs.List.{list_all}
use Rattle.object_values.specs.declared.nodes.Node.{Node}
use Rattle.meaning_texts.specs.Tests.{is_name, is_param_of_class}
use Rattle.meaning_tasks.specs.Nodes.{has_key_of_class}

-- its name, its parameters and its keys are of their classes
abbrev pub has_words_of_class : Node → Bool
has_words_of_class n =
    is_name n.source && list_all is_param_of_class n.params && list_all has_key_of_class n.steps
