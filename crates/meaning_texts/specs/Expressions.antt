-- Expressions: their grammar as a relation on whole texts, the place of a fault, and the canonical
-- spelling.
use Rattle.std.specs.Prelude.{◌≡◌, ℕ, ◌+◌, ◌<◌, ◌≤◌, List, [], ◌∷◌, ◌++◌, length, take, map, filter, replicate, bytes_eq}
use Rattle.std.specs.List.{flat_map, All}
use Rattle.std.specs.List.Sorted.{IsSortedByKey}
use Rattle.std.specs.Cmp.Lexicographic.{slice_cmp}
use Rattle.std.specs.declared.cmp.Ordering.{Ordering}
use Rattle.std.specs.Ordering.{nat_cmp}
use Rattle.object_values.specs.declared.nodes.ParamValue.{ParamValue}
use Rattle.object_values.specs.declared.expressions.ExprStep.{ExprStep}
use Rattle.object_values.specs.declared.expressions.ExprStep.TheVariants.{To, Pick}
use Rattle.object_values.specs.declared.expressions.Expression.{Expression}
use Rattle.meaning_texts.specs.Lists.{once}
use Rattle.meaning_texts.specs.Classes.{IsName, IsId, IsKey, IsParamValue}
use Rattle.meaning_texts.specs.Limits.{expression_limit}

-- ---- the grammar

-- What stands after the name: spaces and items, with the parameters and the steps in the order in
-- which they are written.
pub data Items : List ℕ → List ParamValue → List ExprStep → Type 0 where
  no_more : Items [] [] []
  space : (rest : List ℕ) (ps : List ParamValue) (ss : List ExprStep) → Items rest ps ss
      → Items (32 ∷ rest) ps ss
  -- `+ID=VALUE`
  param_value : (id of rest : List ℕ) (ps : List ParamValue) (ss : List ExprStep) → IsId id
      → IsParamValue of → Items rest ps ss
      → Items (43 ∷ (id ++ 61 ∷ (of ++ rest))) (record { param = id; value = of } ∷ ps) ss
  -- `+ID`
  param_alone : (id rest : List ℕ) (ps : List ParamValue) (ss : List ExprStep) → IsId id
      → Items rest ps ss → Items (43 ∷ (id ++ rest)) (record { param = id; value = [] } ∷ ps) ss
  -- `:ID`
  type_step : (id rest : List ℕ) (ps : List ParamValue) (ss : List ExprStep) → IsId id
      → Items rest ps ss → Items (58 ∷ (id ++ rest)) ps (To id ∷ ss)
  -- `%KEY`
  pick_step : (key rest : List ℕ) (ps : List ParamValue) (ss : List ExprStep) → IsKey key
      → Items rest ps ss → Items (37 ∷ (key ++ rest)) ps (Pick key ∷ ss)

-- A text of the grammar, of any length: so many spaces, the name, and the items.
pub record SpellsExpression (text source : List ℕ) (params : List ParamValue)
    (steps : List ExprStep) : Type 0 where
  pub spaces : ℕ
  pub behind : List ℕ
  pub is : text ≡ replicate spaces 32 ++ (source ++ behind)
  pub name : IsName source
  pub items : Items behind params steps

-- ---- parameters

-- names by their bytes
abbrev pub name_cmp : List ℕ → List ℕ → Ordering
name_cmp = slice_cmp nat_cmp

-- the values of one name, in order
abbrev pub values_of_param : List ℕ → List ParamValue → List (List ℕ)
values_of_param name params =
    map (λ (p : ParamValue). p.value) (filter (λ (p : ParamValue). bytes_eq p.param name) params)

-- The parameters as an expression keeps them: sorted by name, and for each name its values in
-- order, a value that was there before dropped.
pub record AreKeptAs (written kept : List ParamValue) : Type 0 where
  pub sorted : IsSortedByKey (λ (p : ParamValue). p.param) name_cmp kept
  pub values : (name : List ℕ) → values_of_param name kept ≡ once bytes_eq (values_of_param name written)

-- ---- texts and expressions

-- The text is one of this expression.
pub record ExpressionText (text : List ℕ) (e : Expression) : Type 0 where
  pub params : List ParamValue
  pub written : SpellsExpression text e.source params e.steps
  pub kept : AreKeptAs params e.params
  pub short : length text ≤ expression_limit

-- ---- the place of a fault

-- These bytes are of the grammar, or become so by further ones.
pub record IsFront (bytes : List ℕ) : Type 0 where
  pub more : List ℕ
  pub source : List ℕ
  pub params : List ParamValue
  pub steps : List ExprStep
  pub written : SpellsExpression (bytes ++ more) source params steps

-- Why a text can't go on at a place, all before it being a front.
pub data IsStop (text : List ℕ) (place : ℕ) : Type 0 where
  -- no text of the grammar begins so
  no_front : place ≤ length text → (IsFront (take place text) → ⊥) → IsStop text place
  -- the first byte past the limit
  past_limit : expression_limit < length text → place ≡ expression_limit + 1 → IsStop text place
  -- the text ends there too early
  too_short : place ≡ length text + 1 → ((e : Expression) → ExpressionText text e → ⊥)
      → IsStop text place

-- All bytes before this place can go on, and the one at the place can't. Places are counted from 1.
pub record IsFaultPlace (text : List ℕ) (place : ℕ) : Type 0 where
  pub counted : 0 < place
  pub before : (n : ℕ) → n < place → IsFront (take n text)
  pub within : place ≤ expression_limit + 1
  pub there : IsStop text place

-- ---- canonical expressions

abbrev pub IsStepOfClass : ExprStep → Type 0
IsStepOfClass (To id) = IsId id
IsStepOfClass (Pick key) = IsKey key

pub record IsParamOfClass (p : ParamValue) : Type 0 where
  pub name : IsId p.param
  pub value : IsParamValue p.value

-- Its names are of their classes, and its parameters are as an expression keeps them.
pub record IsCanonical (e : Expression) : Type 0 where
  pub source : IsName e.source
  pub params : All IsParamOfClass e.params
  pub steps : All IsStepOfClass e.steps
  pub kept : AreKeptAs e.params e.params

-- nothing for the empty value, else `=` and the value
abbrev pub value_spelling : List ℕ → List ℕ
value_spelling [] = []
value_spelling (b ∷ rest) = 61 ∷ b ∷ rest

abbrev pub param_spelling : ParamValue → List ℕ
param_spelling p = 43 ∷ (p.param ++ value_spelling p.value)

abbrev pub step_spelling : ExprStep → List ℕ
step_spelling (To id) = 58 ∷ id
step_spelling (Pick key) = 37 ∷ key

-- the canonical spelling: the name, each parameter, then the steps, without spaces
abbrev pub spelling : Expression → List ℕ
spelling e = e.source ++ (flat_map param_spelling e.params ++ flat_map step_spelling e.steps)
