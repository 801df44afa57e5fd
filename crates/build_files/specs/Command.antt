-- The command by which the words are read: the option `-o` with one value, and the flags `-m` and `-l`, each at most once. There is no help flag.
use Rattle.std.specs.Prelude.{◌≡◌, ◌↔◌, ◌⊎◌, ℕ, IsTrue, Bool, List, [], Option, Some, true, codes}
use Rattle.clap.specs.Words.{App, Rule, fault_of, matches_of, first_of, new_app, new_rule, with_rule}
use Rattle.clap.specs.declared.builder.ArgAction.TheVariants.{Set, SetTrue}

-- `-o`, `-m` and `-l`
abbrev pub file : Rule
file = record (new_rule (codes "file")) { short = Some 111; action = Some Set }

abbrev pub messages : Rule
messages = record (new_rule (codes "messages")) { short = Some 109; action = Some SetTrue }

abbrev pub labels : Rule
labels = record (new_rule (codes "labels")) { short = Some 108; action = Some SetTrue }

abbrev pub bare_odin_get : App
bare_odin_get =
    let app = new_app (codes "odin_get") in
    record app { top = record app.top { disable_help_flag = true } }

abbrev pub command : App
command = with_rule (with_rule (with_rule bare_odin_get file) messages) labels

-- the flag stands among the words
abbrev pub HasFlag : List (List ℕ) → List ℕ → Type 0
HasFlag words id = first_of id (matches_of command words) ≡ Some (codes "true")

-- The command takes the words, which name this file, and ask for messages and labels or don't. Who asks for labels asks for messages.
pub record AsksForFile (words : List (List ℕ)) (name : Option (List ℕ)) (shows labels : Bool) : Type 0 where
  pub taken : fault_of command words ≡ []
  pub named : first_of (codes "file") (matches_of command words) ≡ name
  pub shown : IsTrue shows ↔ HasFlag words (codes "messages") ⊎ HasFlag words (codes "labels")
  pub labelled : IsTrue labels ↔ HasFlag words (codes "labels")
