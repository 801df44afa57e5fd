use Rattle.std.proofs.Common.{◌∙◌, sym}
use Rattle.std.specs.Prelude.{nat_eq}
use Rattle.std.specs.Cmp.Lexicographic.{pointwise}
use Rattle.std.specs.HashMap.{get}
use Rattle.kept_contents.proofs.IndexLemmas.{put_clashing, put_first}
use Rattle.kept_contents.proofs.index.OtherIndex.put.Goals as goal

pub returns-then-contains_key-clause-index : goal.returns-then-contains_key-clause-index
returns-then-contains_key-clause-index c = put_clashing (get (pointwise nat_eq) c.args.self.now.first) c.args.self.now.clashing.items c.args.digest c.args.number c.push_within.new.items.items c.push_within.ensures.items (sym c.contains_key.ensures ∙ c.if-contains_key.true)

pub returns-else-contains_key-clause-index : goal.returns-else-contains_key-clause-index
returns-else-contains_key-clause-index c = put_first (get (pointwise nat_eq) c.args.self.now.first) c.args.self.now.clashing.items c.args.digest c.args.number (get (pointwise nat_eq) c.insert_within.new.map) c.insert_within.ensures.updates.0 (sym c.contains_key.ensures ∙ c.if-contains_key.false)
