-- What is held of an item that is not whole yet.
use Rattle.std.specs.Prelude.{◌≡◌, ℕ, ◌+◌, List, [], length, take, Option, Some, None}
use Rattle.meaning_texts.specs.Lines.{HasNoLf}
use Rattle.meaning_commands.specs.Items.{IsPartialCommand, SameBody}
use Rattle.odin_bytes.specs.declared.commands.Command.{Command}
use Rattle.meaning_commands.specs.Commands.{bytes_after_line}
use Rattle.odin_shell.specs.declared.pending.Pending.{Pending}
use Rattle.odin_shell.specs.declared.cutter.Cutter.{Cutter}
use Rattle.odin_shell.specs.Language.{commands}

-- how many bytes of a line are held: more than the longest command and its CR have
abbrev pub held_length : ℕ
held_length = 1026

-- a command that lacks some of the bytes after its line; those that are there are held where it keeps them
pub record IsPendingPart (held : Pending) (part : List ℕ) : Type 0 where
  pub begun : IsPartialCommand commands part held.command
  pub lacking : length begun.body + held.missing ≡ bytes_after_line held.command
  pub text : SameBody commands held.command begun.body held.text

-- what is held of a part of an item
abbrev pub KeepsPart : List ℕ → Option Pending → List ℕ → Type 0
KeepsPart line None part = HasNoLf part × (line ≡ take held_length part)
KeepsPart line (Some held) part = (line ≡ []) × IsPendingPart held part

abbrev pub Keeps : Cutter → List ℕ → Type 0
Keeps cutter part = KeepsPart cutter.line cutter.pending part

-- this command before the first of the bytes after its line
pub record PendingIsNew (command : Command) (held : Pending) : Type 0 where
  pub command_is : held.command ≡ command
  pub empty : held.text ≡ []
  pub lacking : held.missing ≡ bytes_after_line command
