-- What a document says of a project, and what is wrong with it where it says nothing.
use Rattle.std.specs.Prelude.{ℕ, suc, not, nat_lt, List, [], ◌∷◌, Option, Some, None, Result, Ok, Err, codes, bytes_eq, find, if◌then◌else◌}
use Rattle.std.specs.List.{list_any}
use Rattle.toml.specs.Data.{Data, string, array, Items, no_items, item, Members, no_members, member, get_member, as_str, as_table}
use Rattle.project_file.specs.Places.{is_below, is_file_below}
use Rattle.project_file.specs.declared.project.Flaw.{Flaw}
use Rattle.project_file.specs.declared.project.Flaw.TheVariants.{Unknown, Missing, NotTable, NotText, NotTexts, TooMany, LeadsOut, NoFile}
use Rattle.project_file.specs.declared.project.Problem.{Problem}
use Rattle.project_file.specs.declared.project.Target.{Target}
use Rattle.project_file.specs.declared.project.Project.{Project}

-- ---- what is read, or the first problem

abbrev pub Reading : Type 0 → Type 0
Reading A = Result A Problem

abbrev pub problem : {A : Type 0} → List (List ℕ) → Flaw → Reading A
problem place flaw = Err (record { place = place; flaw = flaw })

infixl 10 ◌>>=◌
abbrev pub ◌>>=◌ : {A B : Type 0} → Reading A → (A → Reading B) → Reading B
Ok x >>= more = more x
Err p >>= more = Err p

-- one more in front
abbrev pub with_first : {A : Type 0} → A → Reading (List A) → Reading (List A)
with_first x (Ok xs) = Ok (x ∷ xs)
with_first x (Err p) = Err p

-- each member, in their order
abbrev pub each_member : {A : Type 0} → (List ℕ → Data → Reading A) → Members → Reading (List A)
each_member read no_members = Ok []
each_member read (member key value rest) =
    read key value >>= λ x. with_first x (each_member read rest)

-- a problem with the first such text, if there is one
abbrev pub unless_found : {A : Type 0}
    → Option (List ℕ) → List (List ℕ) → (List ℕ → Flaw) → Reading A → Reading A
unless_found None place flaw reading = reading
unless_found (Some text) place flaw reading = problem place (flaw text)

-- an unknown key of a table, if there is one
abbrev pub unless_unknown : {A : Type 0}
    → Option (List ℕ) → (List ℕ → List (List ℕ)) → Reading A → Reading A
unless_unknown None place reading = reading
unless_unknown (Some key) place reading = problem (place key) Unknown

-- the first key that is none of these
abbrev pub other_key : List (List ℕ) → Members → Option (List ℕ)
other_key known no_members = None
other_key known (member key value rest) =
    if list_any (λ name. bytes_eq name key) known then other_key known rest else Some key

-- ---- texts

abbrev pub with_text : List ℕ → Option (List (List ℕ)) → Option (List (List ℕ))
with_text text None = None
with_text text (Some texts) = Some (text ∷ texts)

abbrev pub texts_in : Items → Option (List (List ℕ))
texts_in no_items = Some []
texts_in (item (string text) rest) = with_text text (texts_in rest)
texts_in (item other rest) = None

-- the texts of a list that has nothing else
abbrev pub texts_of : Data → Option (List (List ℕ))
texts_of (array items) = texts_in items
texts_of other = None

-- ---- the graph and the sources

abbrev pub file_in : List (List ℕ) → Option (List ℕ) → Reading (List ℕ)
file_in place None = problem place NotText
file_in place (Some path) = if is_file_below path then Ok path else problem place (NoFile path)

abbrev pub graph_of : Option Data → Reading (List ℕ)
graph_of None = problem (codes "graph" ∷ []) Missing
graph_of (Some value) = file_in (codes "graph" ∷ []) (as_str value)

abbrev pub sources_in : Option (List (List ℕ)) → Reading (List (List ℕ))
sources_in None = problem (codes "sources" ∷ []) NotTexts
sources_in (Some paths) =
    unless_found (find (λ path. not (is_below path)) paths) (codes "sources" ∷ []) LeadsOut (Ok paths)

abbrev pub sources_of : Option Data → Reading (List (List ℕ))
sources_of None = problem (codes "sources" ∷ []) Missing
sources_of (Some value) = sources_in (texts_of value)

-- ---- targets

-- a key of a target
abbrev pub target_key : List ℕ → List ℕ → List (List ℕ)
target_key name key = codes "target" ∷ name ∷ key ∷ []

abbrev pub ask_in : List ℕ → Option (List ℕ) → Reading (List ℕ)
ask_in name None = problem (target_key name (codes "ask")) NotText
ask_in name (Some text) = Ok text

abbrev pub ask_of : List ℕ → Option Data → Reading (List ℕ)
ask_of name None = problem (target_key name (codes "ask")) Missing
ask_of name (Some value) = ask_in name (as_str value)

-- the target's name where no file is told
abbrev pub file_of : List ℕ → Option Data → Reading (List ℕ)
file_of name None = file_in (target_key name (codes "file")) (Some name)
file_of name (Some value) = file_in (target_key name (codes "file")) (as_str value)

abbrev pub target : List ℕ → List ℕ → List ℕ → Target
target name ask file = record { name = name; ask = ask; file = file }

abbrev pub target_keys : List (List ℕ)
target_keys = codes "ask" ∷ codes "file" ∷ []

abbrev pub target_with : List ℕ → Members → Reading Target
target_with name keys =
    ask_of name (get_member (codes "ask") keys) >>= λ ask.
    file_of name (get_member (codes "file") keys) >>= λ file. Ok (target name ask file)

abbrev pub target_in : List ℕ → Option Members → Reading Target
target_in name None = problem (codes "target" ∷ name ∷ []) NotTable
target_in name (Some keys) =
    unless_unknown (other_key target_keys keys) (target_key name) (target_with name keys)

abbrev pub target_of : List ℕ → Data → Reading Target
target_of name value = target_in name (as_table value)

abbrev pub target_limit : ℕ
target_limit = 1000

abbrev pub count_of : Members → ℕ
count_of no_members = 0
count_of (member key value rest) = suc (count_of rest)

abbrev pub targets_in : Option Members → Reading (List Target)
targets_in None = problem (codes "target" ∷ []) NotTable
targets_in (Some targets) =
    if nat_lt target_limit (count_of targets) then problem (codes "target" ∷ []) TooMany
    else each_member target_of targets

abbrev pub targets_of : Option Data → Reading (List Target)
targets_of None = problem (codes "target" ∷ []) Missing
targets_of (Some value) = targets_in (as_table value)

-- ---- a project

abbrev pub project : List ℕ → List (List ℕ) → List Target → Project
project graph sources targets = record { graph = graph; sources = sources; targets = targets }

abbrev pub project_keys : List (List ℕ)
project_keys = codes "graph" ∷ codes "sources" ∷ codes "target" ∷ []

abbrev pub project_with : Members → Reading Project
project_with keys =
    graph_of (get_member (codes "graph") keys) >>= λ graph.
    sources_of (get_member (codes "sources") keys) >>= λ sources.
    targets_of (get_member (codes "target") keys) >>= λ targets. Ok (project graph sources targets)

abbrev pub project_of : Members → Reading Project
project_of keys =
    unless_unknown (other_key project_keys keys) (λ key. key ∷ []) (project_with keys)
