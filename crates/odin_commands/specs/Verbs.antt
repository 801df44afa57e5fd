-- The words that replies begin with, and the reply of each by what is said after them.
use Rattle.std.specs.Prelude.{ℕ, List, codes}
use Rattle.object_values.specs.declared.replies.Reply.{Reply}
use Rattle.object_values.specs.declared.replies.Reply.TheVariants as reply
use Rattle.odin_commands.specs.declared.verbs.Alone.{Alone}
use Rattle.odin_commands.specs.declared.verbs.Alone.TheVariants.{Bye, RefusedCommand, RefusedName, RefusedSize, RefusedRead, RefusedToolStart}
use Rattle.odin_commands.specs.declared.verbs.Numbered.{Numbered}
use Rattle.odin_commands.specs.declared.verbs.Numbered.TheVariants.{Kept, RefusedExpression, RefusedPath}
use Rattle.odin_commands.specs.declared.verbs.Named.{Named}
use Rattle.odin_commands.specs.declared.verbs.Named.TheVariants.{NoFile, Dropped, NoSource}
use Rattle.odin_commands.specs.declared.verbs.Identified.{Identified}
use Rattle.odin_commands.specs.declared.verbs.Identified.TheVariants.{RefusedParam, RefusedType}
use Rattle.odin_commands.specs.declared.verbs.Measured.{Measured}
use Rattle.odin_commands.specs.declared.verbs.Measured.TheVariants.{Put, Took}
use Rattle.odin_commands.specs.declared.verbs.Listed.{Listed}
use Rattle.odin_commands.specs.declared.verbs.Listed.TheVariants.{Sources, Plan, RefusedCircular, RefusedDeep}
use Rattle.odin_commands.specs.declared.verbs.Verb.{Verb}
use Rattle.odin_commands.specs.declared.verbs.Verb.TheVariants as verb

-- ---- the words, with the space after them where something is said

-- of a reply that says nothing more
abbrev pub alone_word : Alone → List ℕ
alone_word Bye = codes "bye"
alone_word RefusedCommand = codes "refused command"
alone_word RefusedName = codes "refused name"
alone_word RefusedSize = codes "refused size"
alone_word RefusedRead = codes "refused read"
alone_word RefusedToolStart = codes "refused tool start"

-- of one that says a number
abbrev pub numbered_word : Numbered → List ℕ
numbered_word Kept = codes "kept "
numbered_word RefusedExpression = codes "refused expression "
numbered_word RefusedPath = codes "refused path "

-- of one that names a source
abbrev pub named_word : Named → List ℕ
named_word NoFile = codes "no file "
named_word Dropped = codes "dropped "
named_word NoSource = codes "no source "

-- of one that names a parameter or a type
abbrev pub identified_word : Identified → List ℕ
identified_word RefusedParam = codes "refused param "
identified_word RefusedType = codes "refused type "

-- of one that names a source and says how long it is
abbrev pub measured_word : Measured → List ℕ
measured_word Put = codes "put "
measured_word Took = codes "took "

-- of one that lists lines
abbrev pub listed_word : Listed → List ℕ
listed_word Sources = codes "sources "
listed_word Plan = codes "plan "
listed_word RefusedCircular = codes "refused circular "
listed_word RefusedDeep = codes "refused deep "

-- of any reply
abbrev pub word_of : Verb → List ℕ
word_of (verb.Alone v) = alone_word v
word_of (verb.Numbered v) = numbered_word v
word_of (verb.Named v) = named_word v
word_of (verb.Identified v) = identified_word v
word_of (verb.Measured v) = measured_word v
word_of (verb.Listed v) = listed_word v
word_of verb.Object = codes "object "

-- ---- the replies

-- with nothing more
abbrev pub alone_reply : Alone → Reply
alone_reply Bye = reply.Bye
alone_reply RefusedCommand = reply.RefusedCommand
alone_reply RefusedName = reply.RefusedName
alone_reply RefusedSize = reply.RefusedSize
alone_reply RefusedRead = reply.RefusedRead
alone_reply RefusedToolStart = reply.RefusedToolStart

-- with this number
abbrev pub numbered_reply : Numbered → ℕ → Reply
numbered_reply Kept = reply.Kept
numbered_reply RefusedExpression = reply.RefusedExpression
numbered_reply RefusedPath = reply.RefusedPath

-- with this name
abbrev pub named : Named → List ℕ → Reply
named NoFile = reply.NoFile
named Dropped = reply.Dropped
named NoSource = reply.NoSource

-- with this parameter or type
abbrev pub identified : Identified → List ℕ → Reply
identified RefusedParam = reply.RefusedParam
identified RefusedType = reply.RefusedType

-- with this name and this count
abbrev pub measured : Measured → List ℕ → ℕ → Reply
measured Put = reply.Put
measured Took = reply.Took

-- with these lines
abbrev pub listed : Listed → List (List ℕ) → Reply
listed Sources = reply.Sources
listed Plan = reply.Plan
listed RefusedCircular = reply.RefusedCircular
listed RefusedDeep = reply.RefusedDeep
