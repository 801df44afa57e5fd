-- How what is held of an item grows, and when the item is whole.
use Rattle.std.proofs.Common.{◌≡◌, ℕ, ◌+◌, ◌-◌, ◌<◌, min, true, List, [], ◌∷◌, ◌++◌, take, length, Option, Some, None, ap, sym, refl, ◌∙◌, subst, arith, inl, inr}
use Rattle.std.proofs.lemmas.List.{append_assoc, length-append, length-take, take_all}
use Rattle.std.proofs.lemmas.Bool.{cases_lt}
use Rattle.std.specs.Option.{is_some}
use Rattle.meaning_commands.specs.Items as items
use Rattle.meaning_commands.specs.Streams as streams
use Rattle.meaning_commands.specs.Items.{last_item}
use Rattle.meaning_commands.proofs.Lemmas.{take-append}
use Rattle.meaning_texts.specs.Lines.{HasNoLf, without_cr}
use Rattle.meaning_texts.proofs.Lemmas.{HasNo-append}
use Rattle.odin_bytes.specs.declared.commands.Command.{Command}
use Rattle.meaning_commands.specs.Commands.{Spells, bytes_after_line}
use Rattle.odin_shell.specs.declared.pending.Pending.{Pending}
use Rattle.odin_shell.specs.declared.cutter.Cutter.{Cutter}
use Rattle.odin_shell.specs.Language.{keeps_body, commands}
use Rattle.odin_shell.specs.Held.{held_length, KeepsPart, Keeps, PendingIsNew}
use Rattle.odin_shell.proofs.LineLemmas.{Spells-held}

-- more than all is all
take_min : (n : ℕ) (xs : List ℕ) → take (min n (length xs)) xs ≡ take n xs
take_min n xs =
    elim (cases_lt n (length xs)) [
      | inl less ↦ let is : min n (length xs) ≡ n = omega arith in ap (λ k. take k xs) is
      | inr more ↦ let is : min n (length xs) ≡ length xs = omega arith in ap (λ k. take k xs) is ∙ take_all (length xs) xs (omega arith) ∙ sym (take_all n xs more)
    ]

-- bytes of a line
pub Keeps-line : (line line' part bytes : List ℕ) (room : ℕ) → room ≡ min (held_length - length line) (length bytes) → line' ≡ line ++ take room bytes → HasNoLf bytes
    → KeepsPart line None part → KeepsPart line' None (part ++ bytes)
Keeps-line line line' part bytes room room_is is no_lf k =
    let size : length line ≡ min held_length (length part) = ap length k.1 ∙ length-take held_length part in
    let left : held_length - length line ≡ held_length - length part = omega arith in (
      HasNo-append 10 part bytes k.0 no_lf,
      is
          ∙ ap (λ n. line ++ take n bytes) room_is
          ∙ ap (λ t. line ++ t) (take_min (held_length - length line) bytes)
          ∙ ap (λ t. t ++ take (held_length - length line) bytes) k.1
          ∙ ap (λ n. take held_length part ++ take n bytes) left
          ∙ sym (take-append held_length part bytes),
    )

-- the LF of a line whose command takes no bytes
pub Keeps-ended : (line part : List ℕ) (command : Command) → Spells (without_cr line) command → bytes_after_line command ≡ 0 → KeepsPart line None part
    → streams.IsMadeWhole commands Keeps part (10 ∷ []) command []
Keeps-ended line part command s none k = record {
  item = record { line = part; body = [] };
  bytes_are = refl;
  item_is = record { no_lf = k.0; spelled = Spells-held command line part k.1 s; size = sym none };
  body_is = λ keeps. refl;
}

-- the LF of a line whose command takes bytes
pub Keeps-begun : (line part : List ℕ) (command : Command) (held : Pending) → Spells (without_cr line) command → 0 < bytes_after_line command → PendingIsNew command held → KeepsPart line None part
    → KeepsPart [] (Some held) (part ++ 10 ∷ [])
Keeps-begun line part command held s some is k =
    let same : bytes_after_line held.command ≡ bytes_after_line command = ap bytes_after_line is.command_is in
    let lacking = is.lacking in (
      refl,
      record {
        begun = record {
          line = part;
          body = [];
          no_lf = k.0;
          spelled = subst (λ (c : Command). Spells (without_cr part) c) (sym is.command_is) (Spells-held command line part k.1 s);
          missing = omega arith;
          is = refl;
        };
        lacking = omega arith;
        text = λ keeps. sym is.empty;
      },
    )

-- bytes after the line, and not the last one
pub Keeps-text : (line part bytes : List ℕ) (held held' : Pending) → held'.command ≡ held.command → (keeps_body held.command ≡ true → held'.text ≡ held.text ++ bytes) → held'.missing + length bytes ≡ held.missing
    → KeepsPart line (Some held) part → KeepsPart line (Some held') (part ++ bytes)
Keeps-text line part bytes held held' command text missing k =
    let begun = k.1.begun in
    let all : length (begun.body ++ bytes) ≡ length begun.body + length bytes = length-append begun.body bytes in
    let same : bytes_after_line held'.command ≡ bytes_after_line held.command = ap bytes_after_line command in
    let lacking = k.1.lacking in
    let some = held'.lacks in (
      k.0,
      record {
        begun = record {
          line = begun.line;
          body = begun.body ++ bytes;
          no_lf = begun.no_lf;
          spelled = subst (λ (c : Command). Spells (without_cr begun.line) c) (sym command) begun.spelled;
          missing = omega arith;
          is = ap (λ t. t ++ bytes) begun.is ∙ append_assoc begun.line (10 ∷ begun.body) bytes;
        };
        lacking = omega arith;
        text = λ keeps. let kept : keeps_body held.command ≡ true = ap keeps_body (sym command) ∙ keeps in ap (λ t. t ++ bytes) (k.1.text kept) ∙ sym (text kept);
      },
    )

-- the last bytes after the line
pub Keeps-last : (line part bytes : List ℕ) (held : Pending) (body : List ℕ) → length bytes ≡ held.missing → (keeps_body held.command ≡ true → body ≡ held.text ++ bytes) → KeepsPart line (Some held) part
    → streams.IsMadeWhole commands Keeps part bytes held.command body
Keeps-last line part bytes held body last text k =
    let begun = k.1.begun in
    let lacking = k.1.lacking in
    let size : length (begun.body ++ bytes) ≡ bytes_after_line held.command = omega (arith, length-append begun.body bytes) in
    record {
      item = record { line = begun.line; body = begun.body ++ bytes };
      bytes_are = ap (λ t. t ++ bytes) begun.is ∙ append_assoc begun.line (10 ∷ begun.body) bytes;
      item_is = record { no_lf = begun.no_lf; spelled = begun.spelled; size = size };
      body_is = λ keeps. ap (λ t. t ++ bytes) (k.1.text keeps) ∙ sym (text keeps);
    }

-- what is held is less than an item
pub Keeps-less : (held : Cutter) (part : List ℕ) → Keeps held part → items.IsPart commands part
Keeps-less held part k = by held.line held.pending k
  where
    by : (line : List ℕ) (pending : Option Pending) → KeepsPart line pending part → items.IsPart commands part
    by line None k = inl k.0
    by line (Some held) k = inr (held.command, k.1.begun)

-- the end of the input after a line whose command takes no bytes
pub Keeps-last_line : (line part : List ℕ) (pending : Option Pending) (command : Command) → pending ≡ None → Spells (without_cr line) command → bytes_after_line command ≡ 0 → KeepsPart line pending part
    → items.IsItem commands (last_item part) command
Keeps-last_line line part pending command e s none k =
    let held = subst (λ p. KeepsPart line p part) e k in
    record { no_lf = held.0; spelled = Spells-held command line part held.1 s; size = sym none }

-- the end of the input inside a command
pub Keeps-unended : (line part : List ℕ) (pending : Option Pending) (command : Command) → pending ≡ None → Spells (without_cr line) command → 0 < bytes_after_line command → KeepsPart line pending part
    → items.IsCutShort commands part
Keeps-unended line part pending command e s some k =
    let held = subst (λ p. KeepsPart line p part) e k in
    record { command = command; where_it_ends = inr (record { no_lf = held.0; spelled = Spells-held command line part held.1 s; takes_some = some }) }

pub Keeps-pending : (line part : List ℕ) (pending : Option Pending) → is_some pending ≡ true → KeepsPart line pending part → items.IsCutShort commands part
Keeps-pending line part None some k = cc
Keeps-pending line part (Some held) some k = record { command = held.command; where_it_ends = inl k.1.begun }
