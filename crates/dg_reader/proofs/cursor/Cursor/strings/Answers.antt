use Rattle.std.proofs.Common.{subst}
use Rattle.meaning_graph.specs.Tokens.{string}
use Rattle.dg_reader.specs.declared.cursor.Wanted.TheVariants.{String}
use Rattle.dg_reader.specs.Walks.{MayFind, Finds}
use Rattle.dg_reader.proofs.TokenLemmas.{takes_shorter}
use Rattle.dg_reader.proofs.ListLemmas.{strings_one, strings_more}
use Rattle.dg_reader.proofs.cursor.Cursor.strings.Goals as goal

pub strings-init : goal.strings-init
strings-init c = rw (c.in_ok-push.ensures.ok, c.new-strings.ensures) (strings_one c.in_ok-first.first c.args.self.now c.take.new.self c.in_ok-first.ensures.ok)

pub strings-smaller : goal.strings-smaller
strings-smaller c =
    let f : Finds String c.in-Some.string c.strings.self c.take_if.new.self = subst (λ o. MayFind String o c.strings.self c.take_if.new.self) c.in-Some.is c.in_ok-string.ensures in
    takes_shorter c.strings.self (string c.in-Some.string) c.take_if.new.self f.taken

pub strings-preserved : goal.strings-preserved
strings-preserved c =
    let f : Finds String c.in-Some.string c.strings.self c.take_if.new.self = subst (λ o. MayFind String o c.strings.self c.take_if.new.self) c.in-Some.is c.in_ok-string.ensures in
    rw c.in_ok-push-2.ensures.ok (strings_more c.strings.strings c.in-Some.string c.args.self.now c.strings.self c.take_if.new.self c.strings.invariant f)
