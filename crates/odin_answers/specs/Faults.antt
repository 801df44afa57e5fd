-- An ask without a view: the reply that refuses it, or the fault of the store for which it has none.
use Rattle.std.specs.Prelude.{◌≡◌}
use Rattle.meaning_graph.specs.Graphs.{Graph}
use Rattle.object_values.specs.declared.replies.Reply.{Reply}
use Rattle.object_values.specs.declared.replies.Reply.TheVariants.{RefusedExpression, RefusedParam, RefusedType, RefusedPath, RefusedToolStart}
use Rattle.meaning_derive.specs.Replies.{refused_circular, refused_deep}
use Rattle.odin_journal.specs.declared.fault.JournalFault.{JournalFault}
use Rattle.odin_journal.specs.declared.fault.JournalFault.TheVariants as store
use Rattle.odin_engine.specs.declared.fault.AskFault.{AskFault}
use Rattle.odin_engine.specs.declared.fault.AskFault.TheVariants as fault

-- the reply for a fault; the store's faults and want of memory have none
abbrev pub IsReplyToFault : Graph → AskFault → Reply → Type 0
IsReplyToFault g (fault.Expression place) reply = reply ≡ RefusedExpression place
IsReplyToFault g (fault.UnknownType name) reply = reply ≡ RefusedType name
IsReplyToFault g (fault.UnknownParam name) reply = reply ≡ RefusedParam name
IsReplyToFault g (fault.Path step) reply = reply ≡ RefusedPath step
IsReplyToFault g (fault.Circular chain) reply = reply ≡ refused_circular g chain
IsReplyToFault g (fault.Deep chain) reply = reply ≡ refused_deep g chain
IsReplyToFault g fault.Spawn reply = reply ≡ RefusedToolStart
IsReplyToFault g fault.Disk reply = ⊥
IsReplyToFault g (fault.Full end length) reply = ⊥
IsReplyToFault g fault.Memory reply = ⊥

-- why there is no reply: the store's fault, or want of memory; a refused start always has one
abbrev pub StopsWithoutReply : AskFault → JournalFault → Type 0
StopsWithoutReply fault.Spawn why = ⊥
StopsWithoutReply fault.Disk why = why ≡ store.Disk
StopsWithoutReply (fault.Full end length) why = why ≡ store.Full end length
StopsWithoutReply other why = why ≡ store.Memory
