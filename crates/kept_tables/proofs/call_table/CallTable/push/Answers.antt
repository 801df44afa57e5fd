use Rattle.std.proofs.Common.{◌≡◌, ◌∙◌, ap, length, sym}
use Rattle.content_store.specs.Marks.{Finds}
use Rattle.kept_contents.specs.Keys.{marks_of}
use Rattle.kept_tables.proofs.TableLemmas.{key_more}
use Rattle.kept_tables.proofs.call_table.CallTable.push.Goals as goal

pub returns-clause-index : goal.returns-clause-index
returns-clause-index c =
    let entries = c.args.self.now.entries.items in
    let texts = c.args.table.now.texts in
    let long : c.len-number.result ≡ length entries = c.len-number.ensures ∙ sym (ap length (sym c.as_slice.ensures.value) ∙ c.as_slice.ensures.len) in
    let there : Finds c.add.new.self (marks_of texts c.args.key) (length entries) = rw (c.as_slice-2.ensures, long) at c.add.ensures.added in
    rw c.push_within.ensures (key_more texts entries c.args.self.now.marks c.add.new.self c.args.key c.args.entry c.requires.index c.add.ensures.kept c.requires.fresh there)
