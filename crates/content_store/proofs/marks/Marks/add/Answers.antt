use Rattle.std.proofs.Common.{◌≡◌, ◌∙◌, ◌∷◌, [], List, ℕ, refl, subst, sym}
use Rattle.std.specs.Prelude.{Contains, None, Some}
use Rattle.std.proofs.lemmas.List.Elements.{Contains-append_left, Contains-push}
use Rattle.content_store.specs.Marks.{first_free, leads}
use Rattle.content_store.proofs.MarkLemmas.{free_nowhere, keeps, led_last, led_there}
use Rattle.content_store.proofs.marks.Marks.add.Goals as goal

pub put-requires-clause-free : goal.put-requires-clause-free
put-requires-clause-free g c = free_nowhere (leads c.args.self.now) (g.S.Sought.marks c.args.sought.now) c.in-Some.mark (sym c.free_mark.ensures ∙ c.in-Some.is)

pub returns-in-Some-clause-added : goal.returns-in-Some-clause-added
returns-in-Some-clause-added g c = led_there (leads c.args.self.now) (leads c.put.new.self) c.put.ensures.kept c.put.new.self.clashing.items (g.S.Sought.marks c.args.sought.now) c.in-Some.mark c.args.number c.put.ensures.there (sym c.free_mark.ensures ∙ c.in-Some.is)

pub returns-in-Some-clause-kept : goal.returns-in-Some-clause-kept
returns-in-Some-clause-kept g c = keeps c.args.self.now c.put.new.self c.put.ensures.kept (λ i h. subst (λ (l : List ℕ). Contains l i) (sym c.put.ensures.clashing) h)

pub returns-in-None-clause-added : goal.returns-in-None-clause-added
returns-in-None-clause-added g c = led_last (leads c.args.self.now) c.push_within.new.numbers.items (g.S.Sought.marks c.args.sought.now) c.args.number (subst (λ (l : List ℕ). Contains l c.args.number) (sym c.push_within.ensures.items) (Contains-push c.args.self.now.clashing.items c.args.number)) (sym c.free_mark.ensures ∙ c.in-None.is)

pub returns-in-None-clause-kept : goal.returns-in-None-clause-kept
returns-in-None-clause-kept g c =
    keeps c.args.self.now (record { quick = c.args.self.now.quick; digests = c.args.self.now.digests; clashing = c.push_within.new.numbers }) (λ mark i at. at)
    (λ i h. subst (λ (l : List ℕ). Contains l i) (sym c.push_within.ensures.items) (Contains-append_left c.args.self.now.clashing.items (c.args.number ∷ []) i h))
