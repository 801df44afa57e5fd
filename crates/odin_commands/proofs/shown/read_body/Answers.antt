use Rattle.std.proofs.Common.{◌++◌, ◌∙◌, ap, codes, Some, None}
use Rattle.std.proofs.lemmas.Bool.Decides.{Decides-eqb}
use Rattle.std.proofs.lemmas.Slice.Eq.{strip_prefix_is}
use Rattle.odin_commands.proofs.ObjectLemmas.{nothing_text, no_body}
use Rattle.odin_commands.proofs.shown.read_body.Goals as goal

pub returns-in-Some : goal.returns-in-Some
returns-in-Some c =
    (strip_prefix_is Decides-eqb c.args.text.now (codes "none 0\n") (Some c.in-Some.behind) c.in-Some.ensures.cases ∙ ap (λ l. l ++ c.in-Some.behind.now) nothing_text, tt)

pub returns : goal.returns
returns c = no_body c.args.text.now (record {
  nothing = strip_prefix_is Decides-eqb c.args.text.now (codes "none 0\n") None c.in_default.ensures.cases;
  simple = strip_prefix_is Decides-eqb c.args.text.now (codes "simple ") None c.in_default-strip_prefix.ensures.cases;
  list = strip_prefix_is Decides-eqb c.args.text.now (codes "list ") None c.in_default-strip_prefix-2.ensures.cases;
  compound = strip_prefix_is Decides-eqb c.args.text.now (codes "compound ") None c.in_default-strip_prefix-3.ensures.cases;
})
