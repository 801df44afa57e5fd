-- Worked examples of the definitions of texts.
use Rattle.std.specs.Prelude.{◌≡◌, ℕ, ◌++◌, List, [], ◌∷◌, replicate, codes}
use Rattle.object_values.specs.declared.nodes.ParamValue.{ParamValue}
use Rattle.object_values.specs.declared.expressions.ExprStep.{ExprStep}
use Rattle.object_values.specs.declared.expressions.ExprStep.TheVariants.{To, Pick}
use Rattle.object_values.specs.declared.expressions.Expression.{Expression}
use Rattle.object_values.specs.declared.expressions.Line.TheVariants.{Good, Bad}
use Rattle.object_values.specs.declared.expressions.Lines.TheVariants.{These, TooMany}
use Rattle.meaning_texts.specs.Escapes.{escaped}
use Rattle.meaning_texts.specs.Expressions.{ExpressionText, IsFaultPlace, spelling}
use Rattle.std.specs.List.{flat_map}
use Rattle.meaning_texts.specs.Lines.{with_lf, lines_of, warning_lines}
use Rattle.meaning_texts.specs.References.{references, scanned_names}

abbrev pub expression : List ℕ → List ParamValue → List ExprStep → Expression
expression source params steps = record { source = source; params = params; steps = steps }

abbrev pub ex_bare : List ℕ → Expression
ex_bare source = expression source [] []

abbrev pub param : List ℕ → List ℕ → ParamValue
param name value = record { param = name; value = value }

-- the text is one of the name `a` with this value of the parameter `b`
abbrev pub HasExampleValue : List ℕ → List ℕ → Type 0
HasExampleValue text value = ExpressionText text (expression (codes "a") (param (codes "b") value ∷ []) [])

-- `a.c+debug:o`
abbrev pub ex_debug_expression : Expression
ex_debug_expression = expression (codes "a.c") (param (codes "debug") [] ∷ []) (To (codes "o") ∷ [])

-- ` a.c +debug :o ` is written `a.c+debug:o`, and that reads as the same
pub record CanonicalSpelling : Type 0 where
  pub read : ExpressionText (codes " a.c +debug :o ") ex_debug_expression
  pub written : spelling ex_debug_expression ≡ codes "a.c+debug:o"
  pub again : ExpressionText (codes "a.c+debug:o") ex_debug_expression

-- `a+b=2+a+b=1+b=2%1`, as it is kept
abbrev pub sorted : Expression
sorted =
    expression (codes "a")
    (param (codes "a") [] ∷ param (codes "b") (codes "2") ∷ param (codes "b") (codes "1") ∷ [])
    (Pick (codes "1") ∷ [])

-- the names are sorted, the values of one name stay in their order, and a value that was there
-- before is dropped
pub record SortedParams : Type 0 where
  pub read : ExpressionText (codes "a+b=2+a+b=1+b=2%1") sorted

-- the texts that are refused for what they name are expressions
pub record NamedLater : Type 0 where
  pub kind : ExpressionText (codes "a.c:zz") (expression (codes "a.c") [] (To (codes "zz") ∷ []))
  pub step : ExpressionText (codes "a.c%1:zz")
      (expression (codes "a.c") [] (Pick (codes "1") ∷ To (codes "zz") ∷ []))

-- a text that ends too early, one that begins wrongly, and those that are too long
pub record FaultPlaces : Type 0 where
  pub ends_early : IsFaultPlace (codes "a.c:") 5
  pub empty : IsFaultPlace [] 1
  pub begins : IsFaultPlace (codes "?") 1
  pub too_long : IsFaultPlace (97 ∷ replicate 1000 32) 1001
  -- what begins wrongly isn't too long
  pub wrong_first : IsFaultPlace (63 ∷ replicate 1000 32) 1

-- the byte that can't go on: a digit, a space or nothing where a letter must stand, and a letter
-- after a space
pub record MoreFaultPlaces : Type 0 where
  pub digit : IsFaultPlace (codes "a.c:1") 5
  pub inside : IsFaultPlace (codes "a.c +=b") 6
  pub spaced : IsFaultPlace (codes "a.c: o") 5
  pub behind : IsFaultPlace (codes "a.c x") 5
  pub after_value : IsFaultPlace (codes "a.c+b=c d") 9
  pub key : IsFaultPlace (codes "a%-") 3

-- the 256th byte of a name, an identifier and a key
pub record LongWords : Type 0 where
  pub name : IsFaultPlace (replicate 256 97) 256
  pub id : IsFaultPlace (codes "a:" ++ replicate 256 97) 258
  pub key : IsFaultPlace (codes "a%" ++ replicate 256 49) 258

-- a name, an identifier and a key of 255 bytes, a text of 1,000 bytes, and a key that begins with a
-- digit
pub record LongestTexts : Type 0 where
  pub name : ExpressionText (replicate 255 97) (ex_bare (replicate 255 97))
  pub id : ExpressionText (codes "a:" ++ replicate 255 97)
      (expression (codes "a") [] (To (replicate 255 97) ∷ []))
  pub key : ExpressionText (codes "a%" ++ replicate 255 49)
      (expression (codes "a") [] (Pick (replicate 255 49) ∷ []))
  pub text : ExpressionText (97 ∷ replicate 999 32) (ex_bare (codes "a"))
  pub digit : ExpressionText (codes "a%1b") (expression (codes "a") [] (Pick (codes "1b") ∷ []))

-- a value is empty or ends at `~`; it may hold `=`, and no byte past `~`
pub record Values : Type 0 where
  pub empty : HasExampleValue (codes "a+b=") []
  pub last : HasExampleValue (codes "a+b=~") (codes "~")
  pub equals : HasExampleValue (codes "a+b=c=") (codes "c=")
  pub delete : IsFaultPlace (codes "a+b=" ++ 127 ∷ []) 5

-- The second line is none. A comment and an empty line are counted and passed over, and a CR at the
-- end of a line is dropped.
pub record ReferenceLists : Type 0 where
  pub bad : references (codes "a.c\n?\n") ≡ These (Good 1 (ex_bare (codes "a.c")) ∷ Bad 2 ∷ [])
  pub passed : references (codes "#a" ++ 13 ∷ 10 ∷ 13 ∷ 10 ∷ codes "b.c:o" ++ 13 ∷ [])
      ≡ These (Good 3 (expression (codes "b.c") [] (To (codes "o") ∷ [])) ∷ [])
  pub two : references (codes "a b\n a ") ≡ These (Bad 1 ∷ Good 2 (ex_bare (codes "a")) ∷ [])
  -- after a space `#` begins no comment
  pub spaced : references (codes " #") ≡ These (Bad 1 ∷ [])
  pub one_cr : references (97 ∷ 13 ∷ 13 ∷ 10 ∷ []) ≡ These (Bad 1 ∷ [])

-- the lines of a scan output that are names
pub record ScanOutputs : Type 0 where
  pub names : scanned_names (codes "a.h\nb h\n\nb.h") ≡ codes "a.h" ∷ codes "b.h" ∷ []

-- a CR before an LF is dropped; at the end of a last line it stays in `warnings` alone
pub record LastLines : Type 0 where
  pub full : warning_lines (97 ∷ 13 ∷ 10 ∷ []) ≡ codes "a" ∷ []
  pub stays : warning_lines (97 ∷ 13 ∷ []) ≡ (97 ∷ 13 ∷ []) ∷ []
  pub dropped : lines_of (97 ∷ 13 ∷ []) ≡ codes "a" ∷ []
  pub one : lines_of (97 ∷ 13 ∷ 13 ∷ 10 ∷ []) ≡ (97 ∷ 13 ∷ []) ∷ []

-- a tab between two letters, a backslash, and bytes past `~`
pub record Escaped : Type 0 where
  pub tab : escaped (97 ∷ 9 ∷ 98 ∷ []) ≡ 97 ∷ 92 ∷ codes "x09b"
  pub backslash : escaped (92 ∷ []) ≡ 92 ∷ 92 ∷ []
  pub high : escaped (126 ∷ 127 ∷ 255 ∷ []) ≡ 126 ∷ 92 ∷ codes "x7f" ++ 92 ∷ codes "xff"

-- one line more than a list may have; passed over lines don't count
pub record TooManyLines : Type 0 where
  pub many : references (flat_map with_lf (replicate 10001 (codes "?"))) ≡ TooMany
  pub most : references (flat_map with_lf (replicate 10000 (codes "?"))) ≡ TooMany → ⊥
  pub passed : references (flat_map with_lf (replicate 10001 (codes "#"))) ≡ These []
