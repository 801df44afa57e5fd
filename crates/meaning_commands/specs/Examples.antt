-- Worked examples of commands and replies.
use Rattle.std.specs.Prelude.{◌≡◌, ℕ, ◌++◌, List, [], ◌∷◌, replicate, codes, true, false}
use Rattle.object_values.specs.declared.messages.Status.TheVariants.{Ok, Warning, Error, Abort}
use Rattle.object_values.specs.declared.messages.Message.{Message}
use Rattle.object_values.specs.declared.views.Part.{Part}
use Rattle.odin_bytes.specs.declared.commands.Command.TheVariants.{Put, Take, Remove, Ask, Plan, Sources, Kept, Quit, Nothing, Bad, BadName}
use Rattle.object_values.specs.declared.replies.Reply.TheVariants as reply
use Rattle.object_values.specs.declared.replies.ShownBody.TheVariants as body
use Rattle.meaning_commands.specs.Commands.{bytes_after_line, ends_run}
use Rattle.meaning_commands.specs.Reading.{command_of}
use Rattle.meaning_commands.specs.Replies.{reply_text}

-- ---- commands

-- so many times the letter `a`
abbrev pub letters : ℕ → List ℕ
letters n = replicate n 97

-- `put NAME LEN`, the number with its least and its greatest value
pub record PutCommands : Type 0 where
  pub some : command_of (codes "put a.c 3") ≡ Put (codes "a.c") 3
  pub none : command_of (codes "put a.c 0") ≡ Put (codes "a.c") 0
  pub greatest : command_of (codes "put x 18446744073709551615") ≡ Put (codes "x") 18446744073709551615
  pub too_much : command_of (codes "put x 16777217") ≡ Put (codes "x") 16777217
  pub longest : command_of (codes "put " ++ (letters 255 ++ codes " 1")) ≡ Put (letters 255) 1

-- no number, one with a zero in front, a sign or too many digits, and words too few or too many
pub record BadPuts : Type 0 where
  pub alone : command_of (codes "put") ≡ Bad
  pub nameless : command_of (codes "put ") ≡ Bad
  pub numberless : command_of (codes "put a.c") ≡ Bad
  pub empty_number : command_of (codes "put a.c ") ≡ Bad
  pub zero : command_of (codes "put a.c 03") ≡ Bad
  pub sign : command_of (codes "put a.c +3") ≡ Bad
  pub past : command_of (codes "put x 18446744073709551616") ≡ Bad
  pub digits : command_of (codes "put x 99999999999999999999") ≡ Bad
  pub two_spaces : command_of (codes "put  a.c 3") ≡ Bad
  pub behind_name : command_of (codes "put a.c  3") ≡ Bad
  pub behind : command_of (codes "put a.c 3 ") ≡ Bad
  pub four : command_of (codes "put a.c 3 4") ≡ Bad
  pub no_number_first : command_of (codes "put a?c x") ≡ Bad

-- words that are no names, and what is passed over after them
pub record BadNames : Type 0 where
  pub byte : command_of (codes "put a?c 2") ≡ BadName 2
  pub much : command_of (codes "put a?c 1000000000") ≡ BadName 1000000000
  pub long : command_of (codes "put " ++ (letters 256 ++ codes " 1")) ≡ BadName 1
  pub take : command_of (codes "take a?c") ≡ BadName 0
  pub drop : command_of (codes "drop a:o") ≡ BadName 0
  pub long_take : command_of (codes "take " ++ letters 256) ≡ BadName 0

-- `take NAME` and `drop NAME`
pub record Namings : Type 0 where
  pub take : command_of (codes "take t.c") ≡ Take (codes "t.c")
  pub drop : command_of (codes "drop a/b.c") ≡ Remove (codes "a/b.c")
  pub take_alone : command_of (codes "take") ≡ Bad
  pub take_nothing : command_of (codes "take ") ≡ Bad
  pub take_two : command_of (codes "take a b") ≡ Bad
  pub drop_behind : command_of (codes "drop a ") ≡ Bad

-- the text after `ask ` and `plan ` is whatever stands there
pub record Requests : Type 0 where
  pub ask : command_of (codes "ask a.c +debug:o") ≡ Ask (codes "a.c +debug:o")
  pub plan : command_of (codes "plan m.sm:exe") ≡ Plan (codes "m.sm:exe")
  pub ask_nothing : command_of (codes "ask ") ≡ Ask []
  pub ask_space : command_of (codes "ask  ") ≡ Ask (codes " ")
  pub ask_alone : command_of (codes "ask") ≡ Bad
  pub plan_alone : command_of (codes "plan") ≡ Bad
  pub longer_word : command_of (codes "asks a.c") ≡ Bad

-- the single words, and lines that are none
pub record Words : Type 0 where
  pub sources : command_of (codes "sources") ≡ Sources
  pub kept : command_of (codes "kept") ≡ Kept
  pub quit : command_of (codes "quit") ≡ Quit
  pub empty : command_of [] ≡ Nothing
  pub space : command_of (codes " ") ≡ Bad
  pub other : command_of (codes "frob") ≡ Bad
  pub capital : command_of (codes "Quit") ≡ Bad
  pub before : command_of (codes " quit") ≡ Bad
  pub behind : command_of (codes "quit ") ≡ Bad
  pub second : command_of (codes "quit x") ≡ Bad

-- a line of 1,024 bytes is a command, and one of 1,025 is none
pub record LongLines : Type 0 where
  pub longest : command_of (codes "ask " ++ letters 1020) ≡ Ask (letters 1020)
  pub longer : command_of (codes "ask " ++ letters 1021) ≡ Bad
  pub name : command_of (codes "take " ++ letters 1019) ≡ BadName 0
  pub longer_name : command_of (codes "take " ++ letters 1020) ≡ Bad

-- how many bytes belong to a command after its line, and which one is the last
pub record Sizes : Type 0 where
  pub put : bytes_after_line (Put (codes "a.c") 3) ≡ 3
  pub bad_name : bytes_after_line (BadName 2) ≡ 2
  pub take : bytes_after_line (Take (codes "a.c")) ≡ 0
  pub bad : bytes_after_line Bad ≡ 0
  pub quit : ends_run Quit ≡ true
  pub other : ends_run Kept ≡ false

-- ---- replies

pub record SourceReplies : Type 0 where
  pub put : reply_text (reply.Put (codes "a.c") 4) ≡ codes "put a.c 4\n"
  pub took : reply_text (reply.Took (codes "t.c") 4) ≡ codes "took t.c 4\n"
  pub no_file : reply_text (reply.NoFile (codes "z.c")) ≡ codes "no file z.c\n"
  pub dropped : reply_text (reply.Dropped (codes "a.c")) ≡ codes "dropped a.c\n"
  pub no_source : reply_text (reply.NoSource (codes "a.c")) ≡ codes "no source a.c\n"
  pub none : reply_text (reply.Sources []) ≡ codes "sources 0\n"
  pub two : reply_text (reply.Sources (codes "a.c 4" ∷ codes "b.c 0" ∷ []))
      ≡ codes "sources 2\na.c 4\nb.c 0\n"

pub record OtherReplies : Type 0 where
  pub kept : reply_text (reply.Kept 99) ≡ codes "kept 99\n"
  pub plan : reply_text (reply.Plan (codes "cc" ∷ codes "%1" ∷ [])) ≡ codes "plan 2\ncc\n%1\n"
  pub no_steps : reply_text (reply.Plan []) ≡ codes "plan 0\n"
  pub bye : reply_text reply.Bye ≡ codes "bye\n"

pub record Refusals : Type 0 where
  pub command : reply_text reply.RefusedCommand ≡ codes "refused command\n"
  pub name : reply_text reply.RefusedName ≡ codes "refused name\n"
  pub size : reply_text reply.RefusedSize ≡ codes "refused size\n"
  pub read : reply_text reply.RefusedRead ≡ codes "refused read\n"
  pub expression : reply_text (reply.RefusedExpression 5) ≡ codes "refused expression 5\n"
  pub param : reply_text (reply.RefusedParam (codes "opt")) ≡ codes "refused param opt\n"
  pub type : reply_text (reply.RefusedType (codes "zz")) ≡ codes "refused type zz\n"
  pub path : reply_text (reply.RefusedPath 2) ≡ codes "refused path 2\n"
  pub start : reply_text reply.RefusedToolStart ≡ codes "refused tool start\n"
  pub circular : reply_text (reply.RefusedCircular (codes "a1.t:l:u" ∷ codes "a1.t:l:u" ∷ []))
      ≡ codes "refused circular 2\na1.t:l:u\na1.t:l:u\n"
  pub deep : reply_text (reply.RefusedDeep (codes "a" ∷ codes "b" ∷ []))
      ≡ codes "refused deep 2\na\nb\n"

abbrev pub ex_part : List ℕ → List ℕ → Part
ex_part name text = record { name = name; body = text }

-- a tab in a message is escaped
abbrev pub tabbed : Message
tabbed = record { label = codes "a.c:o"; level = Warning; text = codes "a\tb" }

pub record Objects : Type 0 where
  pub empty : reply_text (reply.Shown Ok (body.Simple []) [])
      ≡ codes "object ok simple 0\n\nmessages 0\n"
  pub simple : reply_text (reply.Shown Ok (body.Simple (codes "x=1\n")) [])
      ≡ codes "object ok simple 4\nx=1\n\nmessages 0\n"
  pub list : reply_text (reply.Shown Error (body.List (codes "a.c" ∷ codes "b.c" ∷ [])) [])
      ≡ codes "object error list 2\na.c\nb.c\nmessages 0\n"
  pub compound : reply_text (reply.Shown Ok (body.Compound
      (ex_part (codes "prog") (codes "x=1\n") ∷ ex_part (codes "src") (codes "a.c\n") ∷ [])) [])
      ≡ codes "object ok compound 2\nprog 4\nx=1\n\nsrc 4\na.c\n\nmessages 0\n"
  pub aborted : reply_text (reply.Shown Abort body.Nothing [])
      ≡ codes "object abort none 0\nmessages 0\n"
  pub messages : reply_text (reply.Shown Warning (body.Simple []) (tabbed ∷ []))
      ≡ codes "object warning simple 0\n\nmessages 1\nwarning a.c:o a\\x09b\n"
