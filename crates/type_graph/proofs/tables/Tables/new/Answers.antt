-- The declarations are checked, and the tables are made of them.
use Rattle.std.proofs.Common.{◌≤◌, length, sym, subst}
use Rattle.meaning_texts.specs.Limits.{declaration_limit}
use Rattle.type_graph.specs.Tables.{AreNamed, AreRows}
use Rattle.type_graph.proofs.tables.Tables.new.Goals as goal

pub returns-clause-ok : goal.returns-clause-ok
returns-clause-ok c =
    let parts = c.into_parts-spaces in
    let few = subst (λ g. length g ≤ declaration_limit) (sym c.in_ok-context.ensures) c.in_ok-check.ensures.ok.few in
    record {
      sound = c.in_ok-check.ensures.ok;
      named = subst (λ g. AreNamed g parts.result.0) c.in_ok-context.ensures parts.ensures.named;
      numbered = c.in_ok-numbers.ensures;
      ordered = subst (λ g. AreRows g parts.result.1) c.in_ok-context.ensures (parts.ensures.ordered few);
    }
