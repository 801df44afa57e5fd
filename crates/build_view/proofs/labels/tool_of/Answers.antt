use Rattle.std.proofs.Common.{◌≡◌, [], ◌∷◌, ◌++◌, List, ℕ, refl, Option, Some, None, IfNone, codes, ap, sym, subst, ◌∙◌}
use Rattle.std.proofs.lemmas.Bool.Decides.{Decides-eqb}
use Rattle.std.proofs.lemmas.List.{append_cancel_left}
use Rattle.std.proofs.lemmas.Slice.Eq.{strip_prefix_is}
use Rattle.meaning_texts.specs.Lists.{HasNo}
use Rattle.build_view.specs.Labels.{IsToolOf}
use Rattle.build_view.proofs.labels.tool_of.Goals as goal

abbrev front : List ℕ
front = codes "odin 1\ntool "

not_without : (before rest : List ℕ) → HasNo 32 (before ++ 32 ∷ rest) → ⊥
not_without [] rest none = none.0 refl
not_without (b ∷ before) rest none = not_without before rest none.1

-- a line without a space has no word before one
no_tool : (call line name : List ℕ) → call ≡ front ++ line → HasNo 32 line → ¬ IsToolOf call name
no_tool call line name is none tool =
    not_without name tool.rest (subst (HasNo 32) (append_cancel_left front line (name ++ 32 ∷ tool.rest) (sym is ∙ tool.is)) none)

if_none : {T : Type 0} (answer : Option T) (P : Type 0) → P → IfNone answer P
if_none None P holds = holds
if_none (Some x) P holds = tt

pub returns-in_err-name-clause-none : goal.returns-in_err-name-clause-none
returns-in_err-name-clause-none c =
    let call = c.args.call.now in
    let is = strip_prefix_is Decides-eqb call front (Some c.in_ok-line.line) c.in_ok-line.ensures.cases in
    if_none c.from_residual-in_err-name.result ((name : List ℕ) → ¬ IsToolOf call name)
    (λ name. no_tool call c.in_ok-line.line.now name is c.in_err-name.ensures.none)

pub returns-clause-some : goal.returns-clause-some
returns-clause-some c =
    let cut = c.in_ok-name.ensures.some in
    record {
      rest = c.in_ok-name.field-0-1.now;
      is = strip_prefix_is Decides-eqb c.args.call.now front (Some c.in_ok-line.line) c.in_ok-line.ensures.cases ∙ ap (λ l. front ++ l) cut.0;
      word = cut.1;
    }
