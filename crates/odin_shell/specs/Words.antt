-- The usage line of the program. What its words ask for is `odin_words/specs/Asked`.
use Rattle.std.specs.Prelude.{ℕ, List, codes}
use Rattle.meaning_texts.specs.Lines.{with_lf}

abbrev pub usage_line : List ℕ
usage_line = with_lf (codes "usage: odin [--jobs N] GRAPH, or odin [--jobs N] --load N")
