-- The replies, each by its text. Each line ends with LF.
use Rattle.std.specs.Prelude.{ℕ, List, ◌++◌, length, flat_map, codes, decimal}
use Rattle.object_values.specs.declared.messages.Status.{Status}
use Rattle.object_values.specs.declared.messages.Status.TheVariants.{Ok, Warning, Error, Abort}
use Rattle.object_values.specs.declared.messages.Message.{Message}
use Rattle.object_values.specs.declared.views.Part.{Part}
use Rattle.meaning_texts.specs.Escapes.{escaped}
use Rattle.meaning_texts.specs.Lines.{with_lf}
use Rattle.object_values.specs.declared.replies.Reply.{Reply}
use Rattle.object_values.specs.declared.replies.Reply.TheVariants as reply
use Rattle.object_values.specs.declared.replies.ShownBody.{ShownBody}
use Rattle.object_values.specs.declared.replies.ShownBody.TheVariants.{Nothing, Simple, List as Listed, Compound}

-- a word and a number
abbrev pub word_and_number : List ℕ → ℕ → List ℕ
word_and_number word n = word ++ codes " " ++ decimal n

-- a line with the count of the lines after it, and these lines
abbrev pub counted_lines : List ℕ → List (List ℕ) → List ℕ
counted_lines word lines = with_lf (word_and_number word (length lines)) ++ flat_map with_lf lines

-- ---- objects

abbrev pub status_word : Status → List ℕ
status_word Ok = codes "ok"
status_word Warning = codes "warning"
status_word Error = codes "error"
status_word Abort = codes "abort"

-- `NAME LEN`, the bytes and an LF
abbrev pub part_text : Part → List ℕ
part_text p = with_lf (word_and_number p.name (length p.body)) ++ with_lf p.body

-- the kind and the count, and what is shown
abbrev pub body_text : ShownBody → List ℕ
body_text Nothing = with_lf (word_and_number (codes "none") 0)
body_text (Simple text) = with_lf (word_and_number (codes "simple") (length text)) ++ with_lf text
body_text (Listed lines) = counted_lines (codes "list") lines
body_text (Compound parts) =
    with_lf (word_and_number (codes "compound") (length parts)) ++ flat_map part_text parts

-- `LEVEL LABEL TEXT`, the text escaped
abbrev pub message_text : Message → List ℕ
message_text m =
    with_lf (status_word m.level ++ codes " " ++ m.label ++ codes " " ++ escaped m.text)

abbrev pub messages_text : List Message → List ℕ
messages_text messages =
    with_lf (word_and_number (codes "messages") (length messages)) ++ flat_map message_text messages

-- the object, and then its messages
abbrev pub object_text : Status → ShownBody → List Message → List ℕ
object_text status body messages =
    codes "object " ++ ((status_word status ++ codes " ") ++ (body_text body ++ messages_text messages))

-- ---- replies

abbrev pub reply_text : Reply → List ℕ
reply_text (reply.Put name count) = with_lf (word_and_number (codes "put " ++ name) count)
reply_text (reply.Took name count) = with_lf (word_and_number (codes "took " ++ name) count)
reply_text (reply.NoFile name) = with_lf (codes "no file " ++ name)
reply_text (reply.Dropped name) = with_lf (codes "dropped " ++ name)
reply_text (reply.NoSource name) = with_lf (codes "no source " ++ name)
reply_text (reply.Sources lines) = counted_lines (codes "sources") lines
reply_text (reply.Kept count) = with_lf (word_and_number (codes "kept") count)
reply_text (reply.Plan lines) = counted_lines (codes "plan") lines
reply_text reply.Bye = with_lf (codes "bye")
reply_text reply.RefusedCommand = with_lf (codes "refused command")
reply_text reply.RefusedName = with_lf (codes "refused name")
reply_text reply.RefusedSize = with_lf (codes "refused size")
reply_text reply.RefusedRead = with_lf (codes "refused read")
reply_text (reply.RefusedExpression place) = with_lf (word_and_number (codes "refused expression") place)
reply_text (reply.RefusedParam name) = with_lf (codes "refused param " ++ name)
reply_text (reply.RefusedType name) = with_lf (codes "refused type " ++ name)
reply_text (reply.RefusedPath step) = with_lf (word_and_number (codes "refused path") step)
reply_text (reply.RefusedCircular lines) = counted_lines (codes "refused circular") lines
reply_text (reply.RefusedDeep lines) = counted_lines (codes "refused deep") lines
reply_text reply.RefusedToolStart = with_lf (codes "refused tool start")
reply_text (reply.Shown status body messages) = object_text status body messages
