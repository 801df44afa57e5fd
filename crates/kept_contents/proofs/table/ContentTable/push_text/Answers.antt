use Rattle.std.proofs.Common.{◌≡◌, ap, ◌∙◌, sym, arith, length}
use Rattle.std.proofs.Math.ListN.{set}
use Rattle.std.specs.Prelude.{Some, ℕ, nat_eq}
use Rattle.std.specs.Cmp.Lexicographic.{pointwise}
use Rattle.std.specs.HashMap.{get}
use Rattle.object_values.specs.declared.views.Value.TheVariants.{Simple}
use Rattle.content_store.specs.Bodies.{place_of_body}
use Rattle.kept_contents.specs.declared.shared.Content.TheVariants.{Text}
use Rattle.kept_contents.specs.Stocks.{ContentStock, values_of_contents}
use Rattle.kept_contents.proofs.Contents.{held_push, values_long, values_push}
use Rattle.kept_contents.proofs.IndexLemmas.{index_stays}
use Rattle.kept_contents.proofs.Numbers.{id_within, pushed}
use Rattle.kept_contents.proofs.table.ContentTable.push_text.Goals as goal

pub set_first-requires : goal.set_first-requires
set_first-requires c =
    let held = ap (λ (s : ContentStock). place_of_body c.args.shared.text s.texts) c.self.view_is ∙ c.requires.held in
    let within = id_within (values_of_contents c.self.inside.contents.items) c.self.inside.texts c.self.inside.numbers.items c.self.invariant.0 c.args.shared.text c.args.shared.id held in
    omega (arith, within)

pub invariant_of-self : goal.invariant_of-self
invariant_of-self c =
    let items = c.self.inside.contents.items in
    let texts = c.self.inside.texts in
    let numbers = c.self.inside.numbers.items in
    let text = c.args.shared.text in
    let id = c.args.shared.id in
    let held = ap (λ (s : ContentStock). place_of_body text s.texts) c.self.view_is ∙ c.requires.held in
    let many : c.len.result ≡ length items = omega arith in
    let long : c.len.result ≡ length (values_of_contents items) = many ∙ sym (values_long items) in (
      rw (c.push_within.ensures.items, values_push items (Text c.args.shared)) (pushed (values_of_contents items) texts numbers c.self.invariant.0 text id c.set_first.new.numbers.items held c.set_first.ensures.known (λ none. c.set_first.ensures.fresh none ∙ ap (λ (n : ℕ). set numbers id (Some n)) long)),
      rw c.push_within.ensures.items (held_push texts items (Text c.args.shared) c.self.invariant.1 held),
      rw (c.push_within.ensures.items, values_push items (Text c.args.shared)) (index_stays (values_of_contents items) (get (pointwise nat_eq) c.self.inside.others.first) c.self.inside.others.clashing.items c.self.invariant.2 (Simple text) (λ other. absurd other)),
    )
