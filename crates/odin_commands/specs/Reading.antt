-- What is read of a text, and where a reply stands in one.
use Rattle.std.specs.Prelude.{◌≡◌, ◌≢◌, ◌≤◌, ℕ, All, List, ◌++◌, length, Option, Some, None, slice_range, flat_map, decimal}
use Rattle.std.specs.Borrow.{Bor}
use Rattle.object_values.specs.declared.replies.Reply.{Reply}
use Rattle.object_values.specs.declared.messages.Message.{Message}
use Rattle.meaning_texts.specs.Lines.{with_lf}
use Rattle.meaning_commands.specs.Replies.{message_text, reply_text}
use Rattle.meaning_commands.specs.Formed.{IsFormedMessage, IsFormed}

-- The text begins with the spelling of this good value, and this is after it; or it begins with the spelling of none.
abbrev pub ReadsFront : {A : Type 0} → (A → List ℕ) → (A → Type 0)
    → List ℕ → Option (A × Bor (List ℕ)) → Type 0
ReadsFront spelled IsGood text (Some read) = (text ≡ spelled read.0 ++ read.1.now) × IsGood read.0
ReadsFront {A} spelled IsGood text None =
    (value : A) (behind : List ℕ) → IsGood value → text ≢ spelled value ++ behind

-- so many good items
pub record AreSoMany {A : Type 0} (IsGood : A → Type 0) (count : ℕ) (items : List A) : Type 0 where
  pub many : length items ≡ count
  pub each : All IsGood items

-- The text begins with the spellings of so many good items, one after another.
abbrev pub ReadsFrontItems : {A : Type 0} → (A → List ℕ) → (A → Type 0) → ℕ
    → List ℕ → Option (List A × Bor (List ℕ)) → Type 0
ReadsFrontItems spelled IsGood count = ReadsFront (flat_map spelled) (AreSoMany IsGood count)

-- the line of a count, and so many items
abbrev pub counted_items : {A : Type 0} → (A → List ℕ) → List A → List ℕ
counted_items spelled items = with_lf (decimal (length items)) ++ flat_map spelled items

-- The line is that of this well formed message, or of none.
abbrev pub SpellsMessage : List ℕ → Option Message → Type 0
SpellsMessage line (Some message) = (with_lf line ≡ message_text message) × IsFormedMessage message
SpellsMessage line None =
    (message : Message) → IsFormedMessage message → with_lf line ≢ message_text message

-- From a place to an end of the text stands the text of this well formed reply.
pub record IsReplyAt (text : List ℕ) (at : ℕ) (reply : Reply) (end : ℕ) : Type 0 where
  pub in_range : (at ≤ end) × (end ≤ length text)
  pub is : slice_range text at end ≡ reply_text reply
  pub formed : IsFormed reply

-- At a place stands this reply, up to its end; or none stands there.
abbrev pub ParsesReplyAt : List ℕ → ℕ → Option (Reply × ℕ) → Type 0
ParsesReplyAt text at (Some read) = IsReplyAt text at read.0 read.1
ParsesReplyAt text at None = (reply : Reply) (end : ℕ) → ¬ IsReplyAt text at reply end

-- The text is the texts of these well formed replies, one after another; or it is those of none.
abbrev pub AreReplies : List ℕ → Option (List Reply) → Type 0
AreReplies text (Some replies) = (text ≡ flat_map reply_text replies) × All IsFormed replies
AreReplies text None =
    (replies : List Reply) → All IsFormed replies → text ≢ flat_map reply_text replies
