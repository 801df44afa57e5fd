-- What the reading of an item brings into the tables, and what it gives.
use Rattle.std.specs.Prelude.{◌≡◌, ℕ, List, [], Some, slice_get}
use Rattle.object_values.specs.declared.records.NodeRecord.{NodeRecord}
use Rattle.object_values.specs.declared.views.Value.{Value}
use Rattle.object_values.specs.Texts.{Text}
use Rattle.object_values.specs.declared.items.StoredRecord.{StoredRecord}
use Rattle.object_values.specs.declared.items.Item.{Item}
use Rattle.object_values.specs.declared.facts.Fact.{Fact}
use Rattle.object_values.specs.declared.items.Item.TheVariants.{Graph, Content, Put, Dropped, Kept, Node}
use Rattle.meaning_records.specs.Forms.{ParsesAt}
use Rattle.meaning_records.specs.Records.{item}
use Rattle.meaning_records.specs.Tables.{Tables, IsFactOf, IsText, Loads}
use Rattle.kept_records.specs.Records.{put_record}
use Rattle.kept_notes.specs.Loaded.{loaded_record}
use Rattle.kept_tables.specs.declared.loaded.Loaded.{Loaded}
use Rattle.kept_tables.specs.declared.loaded.Loaded.TheVariants as loaded

-- The record of a node is given by the place at which the tables have what it says.
pub record IsPlaced (contents : List Value) (facts : List Fact) (stored : StoredRecord) (given : Loaded) : Type 0 where
  pub fact : Fact
  pub says : IsFactOf contents stored fact
  pub place : ℕ
  pub there : slice_get facts place ≡ Some fact
  pub is : given ≡ loaded.Noted place

-- What is given of an item, once the tables have these facts: of a put the text itself, and of the record of a node its place.
abbrev pub IsLoaded : List Value → List Fact → Item → Loaded → Type 0
IsLoaded contents facts (Graph text) given = given ≡ loaded.Graph text
IsLoaded contents facts (Content value) given = given ≡ loaded.Content
IsLoaded contents facts (Put name number) given = (text : Text) × IsText contents number text × (given ≡ loaded.Put name text)
IsLoaded contents facts (Dropped name) given = given ≡ loaded.Dropped name
IsLoaded contents facts (Kept call outcome) given = given ≡ loaded.CallKept
IsLoaded contents facts (Node stored) given = IsPlaced contents facts stored given

-- An item stands at a place, may come after these tables, and makes those of them.
pub record LoadsItem (payload : List ℕ) (at end : ℕ) (given : Loaded) (old new : Tables) : Type 0 where
  pub it : Item
  pub stands : ParsesAt item payload at end it
  pub loads : Loads old it new
  pub gives : IsLoaded old.contents new.records it given

-- No item stands there that may come after these tables.
abbrev pub LoadsNothing : List ℕ → ℕ → Tables → Type 0
LoadsNothing payload at old = (it : Item) (end : ℕ) (new : Tables) → ParsesAt item payload at end it → ¬ Loads old it new

-- An item may come after these tables, and this is given of it.
pub record TakesInItem (it : Item) (old new : Tables) (given : Loaded) : Type 0 where
  pub loads : Loads old it new
  pub gives : IsLoaded old.contents new.records it given

-- ---- the records in memory

-- A graph forgets them, and the record of a node comes into the place of its node.
abbrev pub records_after : Item → List NodeRecord → List NodeRecord
records_after (Graph text) old = []
records_after (Node stored) old = put_record (loaded_record stored) old
records_after other old = old

-- So the item that stands at a place makes those of them.
pub record RemembersItem (payload : List ℕ) (at end : ℕ) (old new : List NodeRecord) : Type 0 where
  pub it : Item
  pub stands : ParsesAt item payload at end it
  pub is : new ≡ records_after it old
