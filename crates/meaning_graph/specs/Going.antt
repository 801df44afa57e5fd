-- Whether tokens can go on to a graph, computed: what is expected after them.
use Rattle.std.specs.Prelude.{ℕ, Bool, true, false, List, [], ◌∷◌, Option, Some, None, codes, bytes_eq, is_some, if◌then◌else◌}
use Rattle.std.specs.Option.{option_and_then}
use Rattle.meaning_texts.specs.Tests.{is_name, is_id, is_string_text}
use Rattle.meaning_graph.specs.Tokens.{Token, word, string, semicolon, comma, opening, closing}

-- what a token must be
pub data Class : Type 0 where
  keyword : List ℕ → Class
  identifier : Class
  any_word : Class
  any_string : Class
  name_string : Class
  open_mark : Class

abbrev pub accepts : Class → Token → Bool
accepts (keyword w) (word v) = bytes_eq v w
accepts identifier (word v) = is_id v
accepts any_word (word v) = is_name v
accepts any_string (string s) = is_string_text s
accepts name_string (string s) = is_name s
accepts open_mark opening = true
accepts class token = false

-- where tokens may stop, or go on in several ways: between declarations, before a kind, after a
-- kind, and so on
pub data Stage : Type 0 where
  between : Stage
  kind : Stage
  supers : Stage
  super_ids : Stage
  parts : Stage
  ending : Stage
  strings : Stage
  used_ids : Stage
  extras : Stage

-- the tokens that must come, and the stage after them
pub record Expected : Type 0 where
  pub must : List Class
  pub stage : Stage

abbrev pub expect : List Class → Stage → Expected
expect must stage = record { must = must; stage = stage }

abbrev pub start : Expected
start = expect [] between

-- the way of a read, an each and a pack
abbrev pub way : List Class
way = identifier ∷ keyword (codes "from") ∷ identifier ∷ keyword (codes "to") ∷ identifier ∷ []

-- a tool up to its first word
abbrev pub tool_front : List Class
tool_front =
    identifier ∷ any_word ∷ keyword (codes "from") ∷ identifier ∷ keyword (codes "to") ∷ identifier
    ∷ keyword (codes "run") ∷ any_string ∷ []

-- the word of an extra or of the closure
abbrev pub extra_word : List ℕ → Option Expected
extra_word w =
    if bytes_eq w (codes "also") then Some (expect (identifier ∷ []) extras)
    else if bytes_eq w (codes "with") then Some (expect (name_string ∷ []) extras)
    else if bytes_eq w (codes "closure") then Some (expect (identifier ∷ []) ending)
    else None

abbrev pub decl_word : List ℕ → Option Expected
decl_word w =
    if bytes_eq w (codes "type") then Some (expect (identifier ∷ []) kind)
    else if bytes_eq w (codes "suffix") then Some (expect (any_word ∷ identifier ∷ []) ending)
    else if bytes_eq w (codes "param") then Some (expect (identifier ∷ []) ending)
    else if bytes_eq w (codes "tool") then Some (expect tool_front strings)
    else if bytes_eq w (codes "read") then Some (expect way ending)
    else if bytes_eq w (codes "each") then Some (expect way ending)
    else if bytes_eq w (codes "pack") then Some (expect way ending)
    else None

abbrev pub kind_word : List ℕ → Option Expected
kind_word w =
    if bytes_eq w (codes "simple") then Some (expect [] supers)
    else if bytes_eq w (codes "list") then
    Some (expect (keyword (codes "of") ∷ identifier ∷ []) supers)
    else if bytes_eq w (codes "compound") then
    Some (expect (open_mark ∷ identifier ∷ identifier ∷ []) parts)
    else None

abbrev pub step_at : Stage → Token → Option Expected
step_at between (word w) = decl_word w
step_at kind (word w) = kind_word w
step_at supers (word w) =
    if bytes_eq w (codes "is") then Some (expect (identifier ∷ []) super_ids) else None
step_at supers semicolon = Some start
step_at super_ids comma = Some (expect (identifier ∷ []) super_ids)
step_at super_ids semicolon = Some start
step_at parts comma = Some (expect (identifier ∷ identifier ∷ []) parts)
step_at parts closing = Some (expect [] ending)
step_at ending semicolon = Some start
step_at strings (word w) =
    if bytes_eq w (codes "uses") then Some (expect (identifier ∷ []) used_ids) else extra_word w
step_at strings (string s) = if is_string_text s then Some (expect [] strings) else None
step_at strings semicolon = Some start
step_at used_ids (word w) = extra_word w
step_at used_ids comma = Some (expect (identifier ∷ []) used_ids)
step_at used_ids semicolon = Some start
step_at extras (word w) = extra_word w
step_at extras semicolon = Some start
step_at stage token = None

abbrev pub expected_after : List Class → Stage → Token → Option Expected
expected_after [] stage token = step_at stage token
expected_after (class ∷ rest) stage token = if accepts class token then Some (expect rest stage) else None

-- what is expected after these tokens, where they can go on
abbrev pub run : Expected → List Token → Option Expected
run e [] = Some e
run e (t ∷ tokens) = option_and_then (λ (f : Expected). run f tokens) (expected_after e.must e.stage t)

unfoldable pub can_go_on : List Token → Bool
can_go_on tokens = is_some (run start tokens)
