use Rattle.std.proofs.Common.{◌≡◌, ◌∙◌}
use Rattle.kept_contents.specs.Stocks.{values_of_contents}
use Rattle.kept_tables.proofs.BatchLemmas.{if_ok, put_prepared, put_short}
use Rattle.kept_tables.proofs.kept.Kept.prepare_text.Goals as goal

pub prepare-requires-clause-short : goal.prepare-requires-clause-short
prepare-requires-clause-short c =
    put_short c.args.self.now.tables.contents c.args.text.now (values_of_contents c.number_text.new.added) c.requires
    (rw c.new-added.ensures at c.in_ok-number.ensures.adds)

pub returns-clause-ok : goal.returns-clause-ok
returns-clause-ok c =
    let same : c.prepare.new.self.tables ≡ c.args.self.now.tables = c.prepare.ensures.same ∙ c.number_text.ensures.same in
    let name_is : c.into_bytes-name.result ≡ c.args.name.now = c.into_bytes-name.ensures.bytes ∙ c.in_ok-copy.ensures in
    let named = rw c.in_ok-copy.ensures at c.into_bytes-name.ensures.named in
    let adds = rw c.new-added.ensures at c.in_ok-number.ensures.adds in
    let made = rw (c.in_ok-rest.ensures, name_is, c.new.ensures.items) at c.prepare.ensures.made in
    if_ok c.prepare.result made (λ batch makes. put_prepared c.args.self.now c.prepare.new.self same c.number_text.new.added batch c.args.name.now c.args.text.now named c.requires adds c.in_ok-number.number c.in_ok-number.ensures.number makes)

pub returns-clause-notes : goal.returns-clause-notes
returns-clause-notes c =
    let made = rw c.new.ensures.items at c.prepare.ensures.made in
    if_ok c.prepare.result made (λ batch makes. makes.notes_are)
