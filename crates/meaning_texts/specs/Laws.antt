-- What the laws of texts say.
use Rattle.std.specs.Prelude.{◌≡◌, ◌↔◌, ℕ, ◌≤◌, List, length, Some, IsTrue, MatchOption}
use Rattle.object_values.specs.declared.nodes.ParamValue.{ParamValue}
use Rattle.object_values.specs.declared.expressions.Expression.{Expression}
use Rattle.meaning_texts.specs.Classes.{IsName, IsId, IsKey, IsParamValue, IsStringText}
use Rattle.meaning_texts.specs.Limits.{expression_limit}
use Rattle.meaning_texts.specs.Tests.{is_name, is_id, is_key, is_param_value, is_string_text}
use Rattle.meaning_texts.specs.Expressions.{ExpressionText, AreKeptAs, IsFront, IsFaultPlace, IsCanonical, spelling}
use Rattle.meaning_texts.specs.Reading.{expression_of, kept_params}
use Rattle.meaning_texts.specs.Fronts.{is_front, fault_place}
use Rattle.meaning_texts.specs.Lines.{AreLines, cut_lines}
use Rattle.meaning_texts.specs.References.{ReferenceList, references}
use Rattle.object_values.specs.declared.expressions.Lines.{Lines}

-- The tests of classes hold of the words of the classes alone.
pub record TestsAreExact (text : List ℕ) : Type 0 where
  pub names : IsTrue (is_name text) ↔ IsName text
  pub ids : IsTrue (is_id text) ↔ IsId text
  pub keys : IsTrue (is_key text) ↔ IsKey text
  pub values : IsTrue (is_param_value text) ↔ IsParamValue text
  pub strings : IsTrue (is_string_text text) ↔ IsStringText text

-- The computed expression of a text is the one that the text is related to.
abbrev pub ReadingIsExact : Type 0
ReadingIsExact =
    (text : List ℕ) (e : Expression) → (expression_of text ≡ Some e) ↔ ExpressionText text e

-- The computed parameters are those that an expression keeps, and there are no others.
abbrev pub KeptParamsAreOne : Type 0
KeptParamsAreOne =
    (written kept : List ParamValue) → AreKeptAs written kept ↔ (kept ≡ kept_params written)

-- The spelling of a canonical expression is a text of it, and of no other, where it isn't too long.
abbrev pub SpellingReadsBack : Type 0
SpellingReadsBack =
    (e : Expression) → IsCanonical e → length (spelling e) ≤ expression_limit → (other : Expression)
    → ExpressionText (spelling e) other ↔ (other ≡ e)

-- A text has one expression at most.
abbrev pub ExpressionIsOne : Type 0
ExpressionIsOne =
    (text : List ℕ) (e other : Expression) → ExpressionText text e → ExpressionText text other
    → other ≡ e

-- The expression of a text is canonical.
abbrev pub ExpressionIsCanonical : Type 0
ExpressionIsCanonical = (text : List ℕ) (e : Expression) → ExpressionText text e → IsCanonical e

-- A text has one place of a fault at most.
abbrev pub FaultPlaceIsOne : Type 0
FaultPlaceIsOne =
    (text : List ℕ) (place other : ℕ) → IsFaultPlace text place → IsFaultPlace text other
    → other ≡ place

-- A text with a fault has no expression.
abbrev pub FaultHasNoExpression : Type 0
FaultHasNoExpression =
    (text : List ℕ) (place : ℕ) (e : Expression) → IsFaultPlace text place → ExpressionText text e
    → ⊥

-- The computed test holds of the bytes that can go on to a text of the grammar.
abbrev pub FrontsAreTested : Type 0
FrontsAreTested = (bytes : List ℕ) → IsTrue (is_front bytes) ↔ IsFront bytes

-- A text has an expression, or it has a fault, at the computed place.
abbrev pub EachTextIsAnswered : Type 0
EachTextIsAnswered =
    (text : List ℕ)
    → MatchOption (expression_of text) (IsFaultPlace text (fault_place text)) (ExpressionText text)

-- The computed lines of a text are its lines, and there are no others.
abbrev pub LinesAreOne : Type 0
LinesAreOne =
    (text : List ℕ) (full : List (List ℕ)) (last : List ℕ)
    → AreLines text full last ↔ (cut_lines text ≡ record { full = full; last = last })

-- The computed reference list is what the text says, line by line, and it says nothing else.
abbrev pub ReferencesAreSaid : Type 0
ReferencesAreSaid =
    (text : List ℕ) (said : Lines) → ReferenceList text said ↔ (references text ≡ said)
