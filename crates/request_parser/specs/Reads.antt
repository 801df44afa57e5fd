-- What is read of an expression, item by item, and where a reading halts.
use Rattle.std.specs.Prelude.{◌≡◌, ℕ, ◌<◌, ◌⊎◌, List, [], ◌∷◌, ◌++◌, length, Some, ⊤}
use Rattle.object_values.specs.declared.nodes.ParamValue.{ParamValue}
use Rattle.object_values.specs.declared.expressions.ExprStep.{ExprStep}
use Rattle.object_values.specs.declared.expressions.Expression.{Expression}
use Rattle.meaning_texts.specs.Classes.{is_value_byte, IsParamValue}
use Rattle.meaning_texts.specs.Expressions.{Items, SpellsExpression, AreKeptAs}
use Rattle.request_parser.specs.Runs.{next, IsPast}
use Rattle.request_parser.specs.declared.cursor.Stop.{Stop}
use Rattle.request_parser.specs.declared.cursor.Stop.TheVariants.{Unexpected, Memory}
use Rattle.request_parser.specs.declared.items.Item.{Item}
use Rattle.request_parser.specs.declared.items.Item.TheVariants.{Param, Step}

-- ---- halts

-- The bytes before the place go on to a text of this kind, and with what comes there they don't, or
-- the text ends there and is none.
pub record HaltsAt (is_text : List ℕ → Type 0) (text place : List ℕ) : Type 0 where
  pub done : List ℕ
  pub more : List ℕ
  pub is : text ≡ done ++ place
  pub goes : is_text (done ++ more)
  pub stops : (behind : List ℕ) → next behind ≡ next place → is_text (done ++ behind) → ⊥

-- what a reading that stopped says of the place; nothing at want of memory
abbrev pub Halts : Stop → (List ℕ → Type 0) → List ℕ → List ℕ → Type 0
Halts Unexpected is_text text place = HaltsAt is_text text place
Halts Memory is_text text place = ⊤

-- the same of what stopped it
abbrev pub HaltsIn : (List ℕ → Type 0) → List ℕ → List ℕ → Stop → Type 0
HaltsIn is_text text place stop = Halts stop is_text text place

-- ---- items

-- spaces and items
abbrev pub AreItems : List ℕ → Type 0
AreItems text = (params : List ParamValue) × (steps : List ExprStep) × Items text params steps

-- what makes items after this mark
abbrev pub AreItemsBehind : ℕ → List ℕ → Type 0
AreItemsBehind mark text = AreItems (mark ∷ text)

-- `=` and a value were taken, at their longest, or nothing for the empty value.
abbrev pub HasValue : List ℕ → List ℕ → List ℕ → Type 0
HasValue value text rest = (text ≡ 61 ∷ (value ++ rest)) × IsParamValue value × IsPast is_value_byte rest

abbrev pub HasNoValue : List ℕ → List ℕ → List ℕ → Type 0
HasNoValue value text rest = (value ≡ []) × (text ≡ rest) × (next rest ≡ Some 61 → ⊥)

abbrev pub TakesValue : List ℕ → List ℕ → List ℕ → Type 0
TakesValue value text rest = HasValue value text rest ⊎ HasNoValue value text rest

abbrev pub params_with : Item → List ParamValue → List ParamValue
params_with (Param p) params = p ∷ params
params_with (Step s) params = params

abbrev pub steps_with : Item → List ExprStep → List ExprStep
steps_with (Param p) steps = steps
steps_with (Step s) steps = s ∷ steps

-- The item was read: with it the text is of the items that the rest is of, and halts where the rest does.
pub record ReadsItem (item : Item) (text rest : List ℕ) : Type 0 where
  pub reads : (params : List ParamValue) (steps : List ExprStep) → Items rest params steps
      → Items text (params_with item params) (steps_with item steps)
  pub halts : (place : List ℕ) → HaltsAt AreItems rest place → HaltsAt AreItems text place
  pub shorter : length rest < length text

-- Items were read up to the rest, and are kept so.
pub record ReadsItems (text rest : List ℕ) (kept : List ParamValue) (steps : List ExprStep) : Type 0 where
  pub written : List ParamValue
  pub are_kept : AreKeptAs written kept
  pub reads : (more : List ParamValue) (behind : List ExprStep) → Items rest more behind
      → Items text (written ++ more) (steps ++ behind)
  pub halts : (place : List ℕ) → HaltsAt AreItems rest place → HaltsAt AreItems text place

-- ---- texts

-- a text of the grammar, of any length
abbrev pub IsOfGrammar : List ℕ → Type 0
IsOfGrammar text =
    (source : List ℕ) × (params : List ParamValue) × (steps : List ExprStep)
    × SpellsExpression text source params steps

-- The expression of a text of any length.
pub record IsWrittenAs (text : List ℕ) (e : Expression) : Type 0 where
  pub params : List ParamValue
  pub written : SpellsExpression text e.source params e.steps
  pub kept : AreKeptAs params e.params
