-- A name stands before a place where its first place is lower.
use Rattle.std.proofs.Common.{◌∙◌, ap, nat_lt, false}
use Rattle.std.specs.Prelude.{bytes_eq}
use Rattle.std.specs.Option.{option_map_or}
use Rattle.type_graph.proofs.SpaceLemmas.{any-before}
use Rattle.type_graph.proofs.names.Names.stands_before.Goals as goal

pub returns-in-Some : goal.returns-in-Some
returns-in-Some c names are = ap (λ o. option_map_or (λ j. nat_lt j c.args.place) o false) (c.in-Some.ensures ∙ are c.args.name.now) ∙ any-before (λ n. bytes_eq n c.args.name.now) names c.args.place

pub returns-in-None : goal.returns-in-None
returns-in-None c names are = ap (λ o. option_map_or (λ j. nat_lt j c.args.place) o false) (c.in-None.ensures ∙ are c.args.name.now) ∙ any-before (λ n. bytes_eq n c.args.name.now) names c.args.place
