-- The colours of messages.
use Rattle.std.specs.Prelude.{ℕ, false, List, [], ◌++◌, map, flat_map, codes}
use Rattle.object_values.specs.declared.messages.Message.{Message}
use Rattle.object_values.specs.declared.messages.Status.{Status}
use Rattle.object_values.specs.declared.messages.Status.TheVariants.{Ok, Warning, Error, Abort}
use Rattle.build_files.specs.MessageLines.{firsts, message_line}
use Rattle.build_view.specs.Progress.{escape}

-- a warning is yellow, and an error red
abbrev pub colour_of : Status → List ℕ
colour_of Ok = []
colour_of Warning = escape (codes "33m")
colour_of Error = escape (codes "31m")
colour_of Abort = escape (codes "31m")

abbrev pub painted : Status → List ℕ → List ℕ
painted level line = colour_of level ++ line ++ escape (codes "0m") ++ codes "\n"

-- a message's line in its colour, and each such line once, where it stands first
abbrev pub painted_message : Message → List ℕ
painted_message m = painted m.level (message_line false m)

abbrev pub painted_messages : List Message → List ℕ
painted_messages messages = flat_map (λ line. line) (firsts (map painted_message messages))
