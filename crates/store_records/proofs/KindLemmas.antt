-- Things that begin with a byte for their kind.
use Rattle.std.proofs.Common.{◌≡◌, ℕ, ◌+◌, List, [], ◌∷◌, Some, None, sym, subst, ◌∙◌, arith}
use Rattle.object_values.specs.declared.nodes.Step.TheVariants.{Maker, Pick}
use Rattle.object_values.specs.declared.views.Value.TheVariants.{Simple, List as Listed, Compound}
use Rattle.odin_bytes.specs.Fields.{IsFieldAt}
use Rattle.object_values.specs.declared.items.Item.TheVariants.{Graph, Content, Put, Dropped, Kept, Node}
use Rattle.meaning_records.specs.Forms.{Form, StandsNowhere, bytes, number, both, list_of, option_of}
use Rattle.meaning_records.specs.Records.{node, part, step, value, content, call, outcome, node_record, item}
use Rattle.meaning_records.specs.PlaceLemmas.{field_end, field_join, tag_there}

-- a kind that was read, and what stands after it
pub kind_join : (from : List ℕ) (at start end kind named : ℕ) (field : List ℕ) → IsFieldAt from at start (kind ∷ []) → kind ≡ named → IsFieldAt from start end field → IsFieldAt from at end (named ∷ field)
kind_join from at start end kind named field read is rest = subst (λ n. IsFieldAt from at end (n ∷ field)) is (field_join from at start end (kind ∷ []) field read rest)

-- what begins with a kind stands where that was read, and the rest after it
pub kind_split : (from : List ℕ) (at start end kind named : ℕ) (field : List ℕ) → IsFieldAt from at start (kind ∷ []) → IsFieldAt from at end (named ∷ field) → (kind ≡ named) × IsFieldAt from start end field
kind_split from at start end kind named field read there =
    let first = tag_there from at start kind [] read in
    let whole = tag_there from at end named field there in
    let behind : start ≡ at + 1 = field_end from at start (kind ∷ []) read in
    (sym first.byte ∙ whole.byte, subst (λ place. IsFieldAt from place end field) (sym behind) whole.rest)

pub option_nowhere : {T : Type 0} (form : Form T) (from : List ℕ) (at start kind : ℕ) → IsFieldAt from at start (kind ∷ []) → kind ≡ 1 → StandsNowhere form from start → StandsNowhere (option_of form) from at
option_nowhere form from at start kind read is none None end there =
    let parts = kind_split from at start end kind 0 [] read there.field in
    let no : ◌≡◌ {A = ℕ} 1 0 = sym is ∙ parts.0 in
    absurd (omega (arith, no))
option_nowhere form from at start kind read is none (Some x) end there = none x end (record { fits = there.fits; field = (kind_split from at start end kind 1 (form.spell x) read there.field).1 })

-- No step stands where the one of the kind that was read doesn't.
pub step_nowhere : (from : List ℕ) (at start kind : ℕ) → IsFieldAt from at start (kind ∷ [])
    → (kind ≡ 1 → StandsNowhere number from start) → (kind ≡ 2 → StandsNowhere bytes from start) → StandsNowhere step from at
step_nowhere from at start kind read makers picks (Maker maker) end there =
    let parts = kind_split from at start end kind 1 (number.spell maker) read there.field in makers parts.0 maker end (record { fits = there.fits; field = parts.1 })
step_nowhere from at start kind read makers picks (Pick key) end there =
    let parts = kind_split from at start end kind 2 (bytes.spell key) read there.field in picks parts.0 key end (record { fits = there.fits; field = parts.1 })

-- and no value
pub value_nowhere : (from : List ℕ) (at start kind : ℕ) → IsFieldAt from at start (kind ∷ [])
    → (kind ≡ 1 → StandsNowhere bytes from start) → (kind ≡ 2 → StandsNowhere (list_of node) from start) → (kind ≡ 3 → StandsNowhere (list_of part) from start)
    → StandsNowhere value from at
value_nowhere from at start kind read simples lists compounds (Simple text) end there =
    let parts = kind_split from at start end kind 1 (bytes.spell text) read there.field in simples parts.0 text end (record { fits = there.fits; field = parts.1 })
value_nowhere from at start kind read simples lists compounds (Listed nodes) end there =
    let parts = kind_split from at start end kind 2 ((list_of node).spell nodes) read there.field in lists parts.0 nodes end (record { fits = there.fits; field = parts.1 })
value_nowhere from at start kind read simples lists compounds (Compound named) end there =
    let parts = kind_split from at start end kind 3 ((list_of part).spell named) read there.field in compounds parts.0 named end (record { fits = there.fits; field = parts.1 })

-- and no item
pub item_nowhere : (from : List ℕ) (at start kind : ℕ) → IsFieldAt from at start (kind ∷ [])
    → (kind ≡ 1 → StandsNowhere bytes from start) → (kind ≡ 2 → StandsNowhere content from start) → (kind ≡ 3 → StandsNowhere (both bytes number) from start)
    → (kind ≡ 4 → StandsNowhere bytes from start) → (kind ≡ 5 → StandsNowhere (both call outcome) from start)
    → (kind ≡ 6 → StandsNowhere node_record from start) → StandsNowhere item from at
item_nowhere from at start kind read graphs contents puts drops calls nodes (Graph text) end there =
    let parts = kind_split from at start end kind 1 (bytes.spell text) read there.field in graphs parts.0 text end (record { fits = there.fits; field = parts.1 })
item_nowhere from at start kind read graphs contents puts drops calls nodes (Content v) end there =
    let parts = kind_split from at start end kind 2 (content.spell v) read there.field in contents parts.0 v end (record { fits = there.fits; field = parts.1 })
item_nowhere from at start kind read graphs contents puts drops calls nodes (Put name n) end there =
    let parts = kind_split from at start end kind 3 ((both bytes number).spell (name, n)) read there.field in puts parts.0 (name, n) end (record { fits = there.fits; field = parts.1 })
item_nowhere from at start kind read graphs contents puts drops calls nodes (Dropped name) end there =
    let parts = kind_split from at start end kind 4 (bytes.spell name) read there.field in drops parts.0 name end (record { fits = there.fits; field = parts.1 })
item_nowhere from at start kind read graphs contents puts drops calls nodes (Kept c o) end there =
    let parts = kind_split from at start end kind 5 ((both call outcome).spell (c, o)) read there.field in calls parts.0 (c, o) end (record { fits = there.fits; field = parts.1 })
item_nowhere from at start kind read graphs contents puts drops calls nodes (Node r) end there =
    let parts = kind_split from at start end kind 6 (node_record.spell r) read there.field in nodes parts.0 r end (record { fits = there.fits; field = parts.1 })
