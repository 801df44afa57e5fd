-- The lines of a reference list, and the answers to their expressions.
use Rattle.std.proofs.Common.{◌≡◌, ◌≤◌, ◌+◌, ℕ, List, [], ◌∷◌, inl, inr, sym, ap, ◌∙◌, subst, refl, length, arith}
use Rattle.std.specs.Prelude.{Option, None, codes}
use Rattle.object_values.specs.declared.nodes.Node.{Node}
use Rattle.object_values.specs.declared.views.Value.{Value}
use Rattle.object_values.specs.declared.views.Value.TheVariants.{Simple}
use Rattle.object_values.specs.declared.expressions.Line.{Line}
use Rattle.object_values.specs.declared.expressions.Lines.{Lines}
use Rattle.meaning_texts.specs.Lines.{lines_of}
use Rattle.meaning_texts.specs.Lists.{IsIn}
use Rattle.meaning_texts.specs.References.{LineReadsAs, good, bad, LinesReadAs, no_more, passed, counted, ReferenceList, these, too_many, references}
use Rattle.meaning_texts.proofs.Lemmas.{all_in, references_said, few_steps}
use Rattle.meaning_graph.specs.Graphs.{Text, Graph}
use Rattle.meaning_tasks.specs.Labels.{label_of, abort_message, at_line}
use Rattle.meaning_tasks.specs.NodeOf.{NodeAnswer, is_node}
use Rattle.meaning_tasks.specs.Nodes.{onward_named}
use Rattle.meaning_tasks.specs.Tasks.{Led, unless_node, lines_own, read_own, with_params_of}
use Rattle.odin_nodes.specs.Refusals.{IsFaultOfAnswer}
use Rattle.odin_nodes.specs.declared.fault.NodeFault.{NodeFault}
use Rattle.odin_nodes.specs.declared.fault.NodeFault.TheVariants.{UnknownParam, UnknownType, NoPath, Memory}
use Rattle.node_tasks.specs.Reading.{answer_led, fault_text, HasFewSteps, AreOfFewSteps}

-- ---- lines

line_few : (number : ℕ) (text : List ℕ) (line : Line) → LineReadsAs number text line → HasFewSteps line
line_few number text line (good e t) = let few : length e.steps ≤ 1000 = few_steps text e t in omega (arith, few)
line_few number text line (bad none) = tt

in_few : (number : ℕ) (texts : List (List ℕ)) (lines : List Line) → LinesReadAs number texts lines → (line : Line) → IsIn line lines → HasFewSteps line
in_few number texts lines (no_more k) line h = absurd h
in_few number texts lines (passed k text rest ls p r) line h = in_few (k + 1) rest ls r line h
in_few number texts lines (counted k text rest l ls p reads r) line (inl e) = subst HasFewSteps (sym e) (line_few k text l reads)
in_few number texts lines (counted k text rest l ls p reads r) line (inr h) = in_few (k + 1) rest ls r line h

pub few_lines : (text : List ℕ) (lines : Lines) → ReferenceList text lines → AreOfFewSteps lines
few_lines text lines (these ls read short) = all_in HasFewSteps ls (λ line h. in_few 1 (lines_of text) ls read line h)
few_lines text lines (too_many ls read long) = tt

-- what is read from a text
pub lines_read : (g : Graph) (n : Node) (of : Text) (value : Value) (text slice : Text) (lines : Lines) → value ≡ Simple text → slice ≡ text → ReferenceList slice lines → lines_own g n of lines ≡ read_own g n of value
lines_read g n of value text slice lines is same read =
    ap (lines_own g n of) (sym (references_said slice lines read) ∙ ap references same) ∙ ap (read_own g n of) (sym is)

-- ---- answers

module _ (g : Graph) (n : Node) (of : Text) (number : ℕ) where
  abbrev missing_by : Text → Led
  missing_by fault = record { node = None; missing = abort_message (label_of g n) (at_line number fault) ∷ [] }

  pub refused : (fault : NodeFault) (answer : NodeAnswer) → IsFaultOfAnswer answer fault → (fault ≡ Memory → ⊥) → answer_led g n of number answer ≡ missing_by (fault_text fault)
  refused (UnknownParam name) answer e h = ap (answer_led g n of number) e
  refused (UnknownType name) answer e h = ap (answer_led g n of number) e
  refused (NoPath k) answer e h = ap (answer_led g n of number) e
  refused Memory answer e h = absurd (h refl)

  abbrev by_onward : Option Node → Led
  by_onward led = record { node = led; missing = unless_node (abort_message (label_of g n) (at_line number (codes "no path"))) led }

  pub read_to : (read m : Node) (led : Option Node) → m ≡ with_params_of n read → led ≡ onward_named g m of → by_onward led ≡ answer_led g n of number (is_node read)
  read_to read m led same e = ap by_onward (e ∙ ap (λ k. onward_named g k of) same)
