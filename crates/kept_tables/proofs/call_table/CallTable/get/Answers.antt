use Rattle.std.proofs.Common.{◌≡◌, ◌∙◌, ap, sym}
use Rattle.std.specs.Prelude.{Some, option_map}
use Rattle.std.proofs.lemmas.Option.{slice_get-get_or, slice_get_within}
use Rattle.content_store.proofs.Lemmas.{stands_nowhere}
use Rattle.kept_contents.specs.declared.keys.CallKey.{CallKey}
use Rattle.kept_contents.specs.Borrowed.{as_key}
use Rattle.kept_contents.specs.Keys.{marks_of}
use Rattle.kept_tables.specs.declared.call_table.Entry.{Entry}
use Rattle.kept_tables.specs.Calls.{key_at}
use Rattle.kept_tables.proofs.TableLemmas.{entry_of, found_at, nowhere_found}
use Rattle.kept_tables.proofs.call_table.CallTable.get.Goals as goal

pub returns-in-Some : goal.returns-in-Some
returns-in-Some c =
    let entries = c.args.self.now.entries.items in
    let key = as_key c.args.key in
    let number = c.in-Some.number in
    let here = c.index-kept.result.now in
    let at : key_at entries number ≡ Some key = rw c.as_slice.ensures.value at c.in-Some.ensures.some in
    let e = entry_of entries number key at in
    let is : Some here ≡ Some e.0 = ap Some c.index-kept.ensures ∙ sym (slice_get-get_or entries number here (slice_get_within entries number e.0 e.1)) ∙ e.1 in
    ap (option_map (λ (y : CallKey × Entry). y.1)) is ∙ sym (found_at entries number key e.0 c.requires.once e.1 e.2)

pub returns : goal.returns
returns c =
    let entries = c.args.self.now.entries.items in
    let key = as_key c.args.key in
    let none = rw c.as_slice.ensures.value at c.in-None.ensures.none in
    sym (nowhere_found entries key (stands_nowhere (key_at entries) (marks_of c.args.table.now.texts) c.args.self.now.marks key c.requires none))
