-- The replies that are well formed: names are names, lines have no LF, and counts fit. Their texts tell them apart.
use Rattle.std.specs.Prelude.{◌≡◌, ◌≢◌, ⊤, ℕ, ◌<◌, ◌^◌, All, List, ◌++◌, length}
use Rattle.object_values.specs.declared.messages.Status.{Status}
use Rattle.object_values.specs.declared.messages.Status.TheVariants.{Abort}
use Rattle.object_values.specs.declared.messages.Message.{Message}
use Rattle.object_values.specs.declared.views.Part.{Part}
use Rattle.odin_bytes.specs.Spellings.{AreBytes}
use Rattle.meaning_texts.specs.Classes.{IsName, IsId}
use Rattle.meaning_texts.specs.Lists.{HasNo}
use Rattle.meaning_texts.specs.Lines.{HasNoLf}
use Rattle.object_values.specs.declared.replies.Reply.{Reply}
use Rattle.object_values.specs.declared.replies.Reply.TheVariants as reply
use Rattle.object_values.specs.declared.replies.ShownBody.{ShownBody}
use Rattle.object_values.specs.declared.replies.ShownBody.TheVariants.{Nothing, Simple, List as Listed, Compound}
use Rattle.meaning_commands.specs.Replies.{reply_text}

-- The number is one that a count has room for.
abbrev pub IsSmall : ℕ → Type 0
IsSmall number = number < 2 ^ 64

-- Each item is good, and a count has room for their number.
pub record AreFormed {A : Type 0} (IsGood : A → Type 0) (items : List A) : Type 0 where
  pub each : All IsGood items
  pub few : IsSmall (length items)

-- the name of a source, and a number
pub record IsMeasured (name : List ℕ) (count : ℕ) : Type 0 where
  pub named : IsName name
  pub small : IsSmall count

-- ---- objects

-- a part with the name that a graph may give it
pub record IsFormedPart (part : Part) : Type 0 where
  pub named : IsId part.name
  pub short : IsSmall (length part.body)

-- a message whose label is one word of a line
pub record IsFormedMessage (message : Message) : Type 0 where
  pub spaceless : HasNo 32 message.label
  pub one_line : HasNoLf message.label
  pub bytes : AreBytes message.text

-- what is shown of an object at any status
abbrev pub IsFormedBody : ShownBody → Type 0
IsFormedBody Nothing = ⊤
IsFormedBody (Simple text) = IsSmall (length text)
IsFormedBody (Listed lines) = AreFormed HasNoLf lines
IsFormedBody (Compound parts) = AreFormed IsFormedPart parts

-- Nothing is shown exactly at Abort.
abbrev pub IsShownAt : Status → ShownBody → Type 0
IsShownAt status Nothing = status ≡ Abort
IsShownAt status other = status ≢ Abort

-- an object with its messages
pub record IsFormedObject (status : Status) (body : ShownBody) (messages : List Message)
    : Type 0 where
  pub shown : IsShownAt status body
  pub body_formed : IsFormedBody body
  pub messages_formed : AreFormed IsFormedMessage messages

-- ---- replies

-- a reply by its names, its lines and its counts
abbrev pub IsFormed : Reply → Type 0
IsFormed (reply.Put name count) = IsMeasured name count
IsFormed (reply.Took name count) = IsMeasured name count
IsFormed (reply.NoFile name) = IsName name
IsFormed (reply.Dropped name) = IsName name
IsFormed (reply.NoSource name) = IsName name
IsFormed (reply.Sources lines) = AreFormed HasNoLf lines
IsFormed (reply.Kept count) = IsSmall count
IsFormed (reply.Plan lines) = AreFormed HasNoLf lines
IsFormed reply.Bye = ⊤
IsFormed reply.RefusedCommand = ⊤
IsFormed reply.RefusedName = ⊤
IsFormed reply.RefusedSize = ⊤
IsFormed reply.RefusedRead = ⊤
IsFormed (reply.RefusedExpression place) = IsSmall place
IsFormed (reply.RefusedParam name) = IsId name
IsFormed (reply.RefusedType name) = IsId name
IsFormed (reply.RefusedPath step) = IsSmall step
IsFormed (reply.RefusedCircular lines) = AreFormed HasNoLf lines
IsFormed (reply.RefusedDeep lines) = AreFormed HasNoLf lines
IsFormed reply.RefusedToolStart = ⊤
IsFormed (reply.Shown status body messages) = IsFormedObject status body messages

-- ---- texts that tell what they spell

-- Where two values' texts begin what is the same, they and what is after them are the same.
abbrev pub IsTold : {A : Type 0} → (A → List ℕ) → (A → Type 0) → Type 0
IsTold {A} spelled IsGood =
    (a b : A) (behind rest : List ℕ) → IsGood a → IsGood b
    → spelled a ++ behind ≡ spelled b ++ rest → (a ≡ b) × (behind ≡ rest)

-- At a place stands the text of one well formed reply at most.
abbrev pub RepliesReadBack : Type 0
RepliesReadBack = IsTold reply_text IsFormed
