use Rattle.std.proofs.Common.{◌∙◌, rules}
use Rattle.std.proofs.lemmas.Iterator.{YieldsList-from_slice}
use Rattle.std.proofs.lemmas.Iterator.Consumers.{YieldsList-from_filter, count_from_yields_List}
use Rattle.object_values.specs.declared.facts.FactDep.{FactDep}
use Rattle.kept_notes.specs.Numbered.{is_reached}
use Rattle.kept_notes.proofs.NumberLemmas.{count_kept}
use borrow.Author.Tests.{tests}
use Rattle.kept_notes.proofs.numbering.count_reached.Goals as goal

pub returns : goal.returns
returns c =
    count_from_yields_List _ _ c.count-count.ensures.ran
    (YieldsList-from_filter _ (λ (d : FactDep). is_reached d.role) (YieldsList-from_slice c.args.deps.now cc) c.filter.ensures.closure
    (λ x b q k. search (rules, tests)))
    ∙ count_kept c.args.deps.now
