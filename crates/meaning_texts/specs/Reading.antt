-- The expression of a text, computed: the text is cut at its marks, and each piece is read by
-- itself.
use Rattle.std.specs.Prelude.{ℕ, Bool, ◌||◌, ◌&&◌, nat_le, ◌==◌, List, [], ◌∷◌, length, Option, Some, None, bytes_eq, if◌then◌else◌}
use Rattle.std.specs.Option.{option_map, option_and_then}
use Rattle.std.specs.Ordering.{is_lt}
use Rattle.object_values.specs.declared.nodes.ParamValue.{ParamValue}
use Rattle.object_values.specs.declared.expressions.ExprStep.{ExprStep}
use Rattle.object_values.specs.declared.expressions.ExprStep.TheVariants.{To, Pick}
use Rattle.object_values.specs.declared.expressions.Expression.{Expression}
use Rattle.meaning_texts.specs.Lists.{is_empty, once}
use Rattle.meaning_texts.specs.Limits.{expression_limit}
use Rattle.meaning_texts.specs.Tests.{is_name, is_id, is_key, is_param_of_class}
use Rattle.meaning_texts.specs.Expressions.{name_cmp}

-- ---- pieces

-- a space, `+`, `:` and `%` stand before or between pieces, and in none
abbrev pub is_mark : ℕ → Bool
is_mark b = b == 32 || b == 43 || b == 58 || b == 37

-- a mark, and what follows it up to the next
pub record Piece : Type 0 where
  pub mark : ℕ
  pub word : List ℕ

-- what stands before the first mark, and the pieces
pub record PieceCut : Type 0 where
  pub head : List ℕ
  pub pieces : List Piece

abbrev pub cut_before : ℕ → PieceCut → PieceCut
cut_before b rest =
    if is_mark b then record {
      head =
          [];
      pieces = record { mark = b; word = rest.head } ∷ rest.pieces;
    }
    else record { head = b ∷ rest.head; pieces = rest.pieces }

abbrev pub cut_at_marks : List ℕ → PieceCut
cut_at_marks [] = record { head = []; pieces = [] }
cut_at_marks (b ∷ rest) = cut_before b (cut_at_marks rest)

-- ---- items

-- the parameters and the steps
pub record ItemList : Type 0 where
  pub params : List ParamValue
  pub steps : List ExprStep

abbrev pub put_param : ParamValue → ItemList → ItemList
put_param p items = record { params = p ∷ items.params; steps = items.steps }

abbrev pub put_step : ExprStep → ItemList → ItemList
put_step s items = record { params = items.params; steps = s ∷ items.steps }

-- what stands before the first `=`, and what after it, nothing where there is none
abbrev pub name_part : List ℕ → List ℕ
name_part [] = []
name_part (b ∷ rest) = if b == 61 then [] else b ∷ name_part rest

abbrev pub value_part : List ℕ → List ℕ
value_part [] = []
value_part (b ∷ rest) = if b == 61 then rest else value_part rest

-- the parameter of a piece
abbrev pub param_of : List ℕ → ParamValue
param_of word = record { param = name_part word; value = value_part word }

-- what the piece adds to the items after it, if it is an item
abbrev pub read_piece : Piece → ItemList → Option ItemList
read_piece p items =
    if p.mark == 32 then (if is_empty p.word then Some items else None)
    else if p.mark == 43 then
    (if is_param_of_class (param_of p.word) then Some (put_param (param_of p.word) items) else None)
    else if p.mark == 58 then (if is_id p.word then Some (put_step (To p.word) items) else None)
    else if p.mark == 37 then (if is_key p.word then Some (put_step (Pick p.word) items) else None)
    else None

abbrev pub read_pieces : List Piece → Option ItemList
read_pieces [] = Some (record { params = []; steps = [] })
read_pieces (p ∷ rest) = option_and_then (read_piece p) (read_pieces rest)

-- ---- parameters

-- the same name and the same value
abbrev pub same_param : ParamValue → ParamValue → Bool
same_param p q = bytes_eq p.param q.param && bytes_eq p.value q.value

-- before the first parameter whose name isn't less
abbrev pub put_sorted : ParamValue → List ParamValue → List ParamValue
put_sorted p [] = p ∷ []
put_sorted p (q ∷ rest) =
    if is_lt (name_cmp q.param p.param) then q ∷ put_sorted p rest else p ∷ q ∷ rest

-- in the order of the names, those of one name in their order
abbrev pub sorted : List ParamValue → List ParamValue
sorted [] = []
sorted (p ∷ rest) = put_sorted p (sorted rest)

-- the parameters as an expression keeps them
unfoldable pub kept_params : List ParamValue → List ParamValue
kept_params written = sorted (once same_param written)

-- ---- texts

abbrev pub past_spaces : List ℕ → List ℕ
past_spaces [] = []
past_spaces (b ∷ rest) = if b == 32 then past_spaces rest else b ∷ rest

abbrev pub expression_with : List ℕ → ItemList → Expression
expression_with source items =
    record { source = source; params = kept_params items.params; steps = items.steps }

abbrev pub read_cut : PieceCut → Option Expression
read_cut c =
    if is_name c.head then option_map (expression_with c.head) (read_pieces c.pieces) else None

-- the expression of a text, if it has one
unfoldable pub expression_of : List ℕ → Option Expression
expression_of text =
    if nat_le (length text) expression_limit then read_cut (cut_at_marks (past_spaces text))
    else None
