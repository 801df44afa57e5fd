-- What the payloads of a store file make of what is kept: a payload is one batch, one or more items with nothing after them.
use Rattle.std.specs.Prelude.{◌≡◌, ◌≢◌, ⊤, ℕ, List, [], ◌∷◌, ◌++◌, Option, Some, None, IsSome}
use Rattle.std.specs.List.{flat_map, All}
use Rattle.std.specs.FinMap as map
use Rattle.object_values.specs.declared.facts.Fact.{Fact}
use Rattle.object_values.specs.declared.views.Value.{Value}
use Rattle.object_values.specs.Texts.{Text, Texts, no_texts}
use Rattle.object_values.specs.declared.items.Item.{Item}
use Rattle.object_values.specs.declared.items.Item.TheVariants.{Graph, Put, Dropped, Node}
use Rattle.meaning_records.specs.Records.{item}
use Rattle.meaning_records.specs.Tables.{Tables, IsText, IsFactOf, Loads}

-- what is kept: the tables, the sources, the text of the last graph, and all that was noted of nodes since, also what was replaced
pub record State : Type 0 where
  pub tables : Tables
  pub sources : Texts
  pub graph : Option Text
  pub noted : List Fact

-- nothing
abbrev pub nothing : State
nothing = record { tables = record { contents = []; calls = []; records = [] }; sources = no_texts; graph = None; noted = [] }

-- ---- items

-- What an item makes of the sources. A source that is dropped is there.
abbrev pub ItemEditsSources : List Value → Item → Texts → Texts → Type 0
ItemEditsSources contents (Put name number) old new = (text : Text) × IsText contents number text × (new ≡ map.insert old name text)
ItemEditsSources contents (Dropped name) old new = IsSome (map.get old name) × (new ≡ map.remove old name)
ItemEditsSources contents other old new = new ≡ old

abbrev pub graph_after : Item → Option Text → Option Text
graph_after (Graph text) old = Some text
graph_after other old = old

-- What an item makes of all that was noted: a graph begins anew.
abbrev pub ItemNotes : List Value → Item → List Fact → List Fact → Type 0
ItemNotes contents (Graph text) old new = new ≡ []
ItemNotes contents (Node stored) old new = (fact : Fact) × IsFactOf contents stored fact × (new ≡ old ++ fact ∷ [])
ItemNotes contents other old new = new ≡ old

-- The record of a node comes after a graph.
abbrev pub HasGround : Item → Option Text → Type 0
HasGround (Node stored) graph = IsSome graph
HasGround other graph = ⊤

-- An item may come after what is kept, and this is kept then.
pub record TakesOne (old : State) (it : Item) (new : State) : Type 0 where
  pub loads : Loads old.tables it new.tables
  pub edits : ItemEditsSources old.tables.contents it old.sources new.sources
  pub graph : new.graph ≡ graph_after it old.graph
  pub ground : HasGround it old.graph
  pub noted : ItemNotes old.tables.contents it old.noted new.noted

abbrev pub TakesAll : State → List Item → State → Type 0
TakesAll old [] new = new ≡ old
TakesAll old (it ∷ items) new = (next : State) × TakesOne old it next × TakesAll next items new

-- ---- payloads

-- the bytes of a batch
abbrev pub spell_batch : List Item → List ℕ
spell_batch = flat_map item.spell

-- A payload reads after what is kept, and this is kept then.
pub record Reads (old : State) (payload : List ℕ) (new : State) : Type 0 where
  pub items : List Item
  pub some : items ≢ []
  pub fit : All item.fits items
  pub spelled : payload ≡ spell_batch items
  pub taken : TakesAll old items new

abbrev pub ReadsAll : State → List (List ℕ) → State → Type 0
ReadsAll old [] new = new ≡ old
ReadsAll old (payload ∷ payloads) new = (next : State) × Reads old payload next × ReadsAll next payloads new
