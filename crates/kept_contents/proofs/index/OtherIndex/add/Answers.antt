use Rattle.std.proofs.Common.{◌≡◌, ◌∙◌, ap, not, sym, true}
use Rattle.std.specs.Prelude.{is_some, nat_eq}
use Rattle.std.specs.Cmp.Lexicographic.{pointwise}
use Rattle.std.specs.HashMap.{get}
use Rattle.meaning_records.specs.Numbers.{number_of}
use Rattle.kept_contents.specs.Stocks.{values_of_contents}
use Rattle.kept_contents.proofs.IndexLemmas.{index_stays, some_there}
use Rattle.kept_contents.proofs.index.OtherIndex.add.Goals as goal

pub returns-else-is_none-clause-index : goal.returns-else-is_none-clause-index
returns-else-is_none-clause-index c =
    let values = values_of_contents c.args.contents.now in
    let value = c.args.value.now in
    let known : is_some (number_of value values) ≡ true = ap is_some (sym c.find_digested.ensures) ∙ c.is_none.ensures ∙ ap not c.if-is_none.false in
    index_stays values (get (pointwise nat_eq) c.args.self.now.first) c.args.self.now.clashing.items c.requires.index value (λ other. some_there (number_of value values) known)
