use Rattle.std.proofs.Common.{rules, refl, arith, length, ◌≤◌, codes, []}
use Rattle.std.proofs.lemmas.List.Elements.{All-nil, All-cons, All-head}
use Rattle.object_values.specs.declared.views.Part.{Part}
use Rattle.object_values.specs.declared.views.Value.TheVariants.{Simple}
use Rattle.meaning_texts.specs.Limits.{body_limit}
use Rattle.object_values.specs.declared.items.Item.TheVariants.{Content}
use Rattle.meaning_records.specs.ItemExamples.{old, with_contents, one_part}
use Rattle.meaning_records.proofs.Alone.{alone}
use Rattle.meaning_records.proofs.examples.long_contents.Goals as goal

abbrev IsShortPart : Part → Type 0
IsShortPart part = length part.body ≤ body_limit

pub returns : goal.returns
returns c = record {
  longest = λ text e. alone old (Content (Simple text)) (with_contents (Simple text)) (record { loads = (omega (arith, e), refl); edits = refl; graph = refl; ground = tt; noted = refl });
  longest_part = λ text e. alone old (Content (one_part text)) (with_contents (one_part text))
      (record { loads = (All-cons IsShortPart (record { name = codes "p"; body = text }) [] (omega (arith, e)) (All-nil IsShortPart), refl); edits = refl; graph = refl; ground = tt; noted = refl });
  too_long = search rules;
  too_long_part = λ text e new t. let short = All-head IsShortPart (record { name = codes "p"; body = text }) [] t.1.loads.0 in omega (arith, e, short);
}
