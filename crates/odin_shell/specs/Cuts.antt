-- How an input is cut into commands, as its bytes come.
use Rattle.std.specs.Prelude.{◌≡◌, ℕ, ◌<◌, ◌≤◌, List, [], length, take, Option, Some, None}
use Rattle.meaning_commands.specs.Items.{IsItem, IsCutShort, last_item}
use Rattle.meaning_commands.specs.Streams.{Extends, CompletesItem}
use Rattle.odin_shell.specs.declared.cutter.Cutter.{Cutter}
use Rattle.odin_shell.specs.declared.whole.Whole.{Whole}
use Rattle.odin_shell.specs.declared.cutter.Front.{Front}
use Rattle.odin_shell.specs.Language.{commands}
use Rattle.odin_shell.specs.Held.{Keeps}

-- after what was held nothing is held
abbrev pub ClearsCutter : Cutter → Cutter → Type 0
ClearsCutter old new = (part : List ℕ) → Keeps old part → Keeps new []

-- The bytes make what is held longer, or make it a whole command, after which nothing is held.
abbrev pub CutterTakes : List ℕ → Cutter → Option Whole → Cutter → Type 0
CutterTakes bytes old None new = Extends commands Keeps bytes old new
CutterTakes bytes old (Some whole) new = CompletesItem commands Keeps bytes old whole.command whole.body × ClearsCutter old new

-- The first bytes of a piece were taken, at least one.
pub record Cuts (old : Cutter) (piece : List ℕ) (new : Cutter) (front : Front) : Type 0 where
  pub some : 0 < front.count
  pub within : front.count ≤ length piece
  pub takes : CutterTakes (take front.count piece) old front.whole new

-- At the end of the input what is held is a last line of this command, or ends the input inside a command.
abbrev pub IsLastOfInput : Cutter → Option Whole → Type 0
IsLastOfInput held None = (part : List ℕ) → Keeps held part → IsCutShort commands part
IsLastOfInput held (Some whole) = ((part : List ℕ) → Keeps held part → IsItem commands (last_item part) whole.command) × (whole.body ≡ [])
