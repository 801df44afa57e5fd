use Rattle.std.proofs.Common.{refl}
use Rattle.meaning_graph.specs.Stopping.{syntax_stop}
use Rattle.meaning_graph.proofs.Answered.{fault_by}
use Rattle.meaning_graph.proofs.text_examples.syntax_faults.Goals as goal

pub returns : goal.returns
unfolding syntax_stop
returns c = record {
  missing = fault_by _ _ _ _ refl refl refl refl;
  ends_early = fault_by _ _ _ _ refl refl refl refl;
  unclosed = fault_by _ _ _ _ refl refl refl refl;
  no_name = fault_by _ _ _ _ refl refl refl refl;
  new_line = fault_by _ _ _ _ refl refl refl refl;
  crlf = fault_by _ _ _ _ refl refl refl refl;
  comment = fault_by _ _ _ _ refl refl refl refl;
  long_word = fault_by _ _ _ _ refl refl refl refl;
  long_string = fault_by _ _ _ _ refl refl refl refl;
  forbidden = fault_by _ _ _ _ refl refl refl refl;
  glued = fault_by _ _ _ _ refl refl refl refl;
}
