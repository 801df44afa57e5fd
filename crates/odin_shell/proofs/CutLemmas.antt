-- What is held of a command, as bytes come: it grows, or is made a whole command.
use Rattle.std.proofs.Common.{◌≡◌, ℕ, ◌+◌, ◌-◌, ◌<◌, min, true, List, [], ◌∷◌, ◌++◌, take, length, get_or, Option, Some, None, ap, sym, ◌∙◌, subst}
use Rattle.std.proofs.Math.Nat.{le_refl}
use Rattle.std.proofs.lemmas.List.{append_assoc, take_more, take_all}
use Rattle.std.specs.Option.{is_some}
use Rattle.meaning_texts.specs.Lines.{HasNoLf, without_cr}
use Rattle.meaning_commands.specs.Items.{IsItem, last_item}
use Rattle.meaning_commands.specs.Streams.{Extends, CompletesItem}
use Rattle.odin_bytes.specs.declared.commands.Command.{Command}
use Rattle.meaning_commands.specs.Commands.{Spells, bytes_after_line}
use Rattle.odin_shell.specs.declared.pending.Pending.{Pending}
use Rattle.odin_shell.specs.declared.cutter.Cutter.{Cutter}
use Rattle.odin_shell.specs.declared.whole.Whole.{Whole}
use Rattle.odin_shell.specs.Language.{keeps_body, commands}
use Rattle.odin_shell.specs.Held.{held_length, KeepsPart, Keeps, PendingIsNew}
use Rattle.odin_shell.specs.Cuts.{CutterTakes, ClearsCutter, IsLastOfInput}
use Rattle.odin_shell.proofs.HeldLemmas.{Keeps-line, Keeps-ended, Keeps-begun, Keeps-text, Keeps-last, Keeps-last_line, Keeps-unended, Keeps-pending}

-- bytes of a line
pub held : (bytes line line' : List ℕ) (pending : Option Pending) (room : ℕ) → pending ≡ None → room ≡ min (held_length - length line) (length bytes) → line' ≡ line ++ take room bytes → HasNoLf bytes
    → Extends commands Keeps bytes (record { line = line; pending = pending }) (record { line = line'; pending = pending })
held bytes line line' pending room none room_is is no_lf part k =
    subst (λ p. KeepsPart line' p (part ++ bytes)) (sym none) (Keeps-line line line' part bytes room room_is is no_lf (subst (λ p. KeepsPart line p part) none k))

-- bytes after a line, and not the last one
pub text_held : (bytes line : List ℕ) (held held' : Pending) → held'.command ≡ held.command → (keeps_body held.command ≡ true → held'.text ≡ held.text ++ bytes) → held'.missing + length bytes ≡ held.missing
    → Extends commands Keeps bytes (record { line = line; pending = Some held }) (record { line = line; pending = Some held' })
text_held bytes line held held' command text missing part k = Keeps-text line part bytes held held' command text missing k

-- the last bytes after a line
pub text_ended : (bytes line : List ℕ) (held : Pending) (command : Command) (body : List ℕ) → command ≡ held.command → length bytes ≡ held.missing → (keeps_body held.command ≡ true → body ≡ held.text ++ bytes)
    → CompletesItem commands Keeps bytes (record { line = line; pending = Some held }) command body
text_ended bytes line held command body is last text part k = rw is (Keeps-last line part bytes held body last text k)

-- the LF of a line whose command takes no bytes
pub line_ended : (line line' : List ℕ) (pending : Option Pending) (command : Command) (body : List ℕ) → pending ≡ None → line' ≡ [] → Spells (without_cr line) command → bytes_after_line command ≡ 0 → body ≡ []
    → CompletesItem commands Keeps (10 ∷ []) (record { line = line; pending = pending }) command body × ClearsCutter (record { line = line; pending = pending }) (record { line = line'; pending = pending })
line_ended line line' pending command body none clear spelled no_bytes empty = (
  λ part k. rw empty (Keeps-ended line part command spelled no_bytes (subst (λ p. KeepsPart line p part) none k)),
  λ part k. subst (λ p. KeepsPart line' p []) (sym none) (tt, clear),
)

-- the LF of a line whose command takes bytes
pub line_begun : (line line' : List ℕ) (pending : Option Pending) (held : Pending) (command : Command) → pending ≡ None → line' ≡ [] → Spells (without_cr line) command → 0 < bytes_after_line command → PendingIsNew command held
    → Extends commands Keeps (10 ∷ []) (record { line = line; pending = pending }) (record { line = line'; pending = Some held })
line_begun line line' pending held command none clear spelled some is part k =
    subst (λ l. KeepsPart l (Some held) (part ++ 10 ∷ [])) (sym clear) (Keeps-begun line part command held spelled some is (subst (λ p. KeepsPart line p part) none k))

-- some bytes and then others
takes_after : (a b : List ℕ) (old mid new : Cutter) (whole : Option Whole) → Extends commands Keeps a old mid → CutterTakes b mid whole new → CutterTakes (a ++ b) old whole new
takes_after a b old mid new None f g = λ part k. subst (λ t. Keeps new t) (append_assoc part a b) (g (part ++ a) (f part k))
takes_after a b old mid new (Some whole) f g = (
  λ part k.
      let w = g.0 (part ++ a) (f part k) in
      record { item = w.item; bytes_are = sym (append_assoc part a b) ∙ w.bytes_are; item_is = w.item_is; body_is = w.body_is },
  λ part k. g.1 (part ++ a) (f part k),
)

-- a line that ends in a piece: its bytes, and then its LF
pub line_taken : (piece : List ℕ) (at : ℕ) (old mid new : Cutter) (whole : Option Whole) → at < length piece → get_or piece at 0 ≡ 10
    → Extends commands Keeps (take at piece) old mid → CutterTakes (10 ∷ []) mid whole new → CutterTakes (take (at + 1) piece) old whole new
line_taken piece at old mid new whole lt lf f g =
    let front : take at piece ++ 10 ∷ [] ≡ take (at + 1) piece = ap (λ b. take at piece ++ b ∷ []) (sym lf) ∙ sym (take_more piece at 0 lt) in
    subst (λ t. CutterTakes t old whole new) front (takes_after (take at piece) (10 ∷ []) old mid new whole f g)

-- a line that does not end in a piece
pub all_held : (piece : List ℕ) (size : ℕ) (old new : Cutter) → size ≡ length piece → Extends commands Keeps piece old new → Extends commands Keeps (take size piece) old new
all_held piece size old new all f = subst (λ t. Extends commands Keeps t old new) (sym (take_all size piece (rw all (le_refl (length piece))))) f

-- the end of the input
pub last_pending : (line : List ℕ) (pending : Option Pending) → is_some pending ≡ true → IsLastOfInput (record { line = line; pending = pending }) None
last_pending line pending some part k = Keeps-pending line part pending some k

pub last_begun : (line : List ℕ) (pending : Option Pending) (command : Command) → pending ≡ None → Spells (without_cr line) command → 0 < bytes_after_line command → IsLastOfInput (record { line = line; pending = pending }) None
last_begun line pending command none spelled some part k = Keeps-unended line part pending command none spelled some k

pub last_line : (line : List ℕ) (pending : Option Pending) (command : Command) (body : List ℕ) → pending ≡ None → Spells (without_cr line) command → bytes_after_line command ≡ 0 → body ≡ []
    → ((part : List ℕ) → Keeps (record { line = line; pending = pending }) part → IsItem commands (last_item part) command) × (body ≡ [])
last_line line pending command body none spelled no_bytes empty = (λ part k. Keeps-last_line line part pending command none spelled no_bytes k, empty)
