-- What is held of nodes stays true, change by change.
use Rattle.std.proofs.Common.{◌≡◌, ◌⊎◌, ℕ, zero, suc, Bool, true, false, cond, List, [], ◌∷◌, ◌++◌, take, ap, refl, sym, ◌∙◌, subst, inl, inr}
use Rattle.std.specs.Prelude.{⊤, Option, Some, None}
use Rattle.std.specs.Str.{bytes_eq}
use Rattle.object_values.specs.declared.facts.Fact.{Fact}
use Rattle.object_values.specs.declared.nodes.Node.{Node}
use Rattle.object_values.specs.Exact.{node_exact}
use Rattle.object_values.specs.contracts.nodes.NodePartialEq.TheImpl.{ghosts as node_eq}
use Rattle.odin_journal.specs.Trails.{after_changes}
use Rattle.meaning_texts.specs.Lists.{IsIn}
use Rattle.meaning_texts.proofs.Lemmas.{in_all, all_in}
use Rattle.meaning_graph.specs.Graphs.{Text, Graph}
use Rattle.meaning_records.specs.Tables.{Calls, kept_outcome, put_fact, put_facts}
use Rattle.meaning_true.specs.Facts.{RecordIsTrue}
use Rattle.meaning_true.proofs.Lemmas.{truth_stays}
use Rattle.odin_store.specs.Held.{Held, Change, puts, drops, keeps, notes, apply}
use Rattle.odin_store.specs.Keeping.{store_keeping}
use Rattle.kept_derive.specs.Knowing.{AreTrueBeside, RecordsAreTrue}
use Rattle.kept_derive.specs.Runs.{keeps_of, changes_for}
use Rattle.odin_answers.specs.Answers.{HasFact}
use Rattle.odin_answers.specs.Changes.{source_changes}
use Rattle.odin_answers.proofs.Lemmas.{kept_first}

-- changes one after another
pub after_both : (made more : List Change) (held : Held) → after_changes store_keeping (made ++ more) held ≡ after_changes store_keeping more (after_changes store_keeping made held)
after_both [] more held = refl
after_both (change ∷ made) more held = after_both made more (apply change held)

-- ---- facts that are put

put_by : (fact other : Fact) (f : Fact) (facts : List Fact) (same : Bool) → (IsIn other (put_fact fact facts) → (other ≡ fact) ⊎ IsIn other facts)
    → IsIn other (cond same (fact ∷ facts) (f ∷ put_fact fact facts)) → (other ≡ fact) ⊎ IsIn other (f ∷ facts)
put_by fact other f facts true rest (inl is) = inl is
put_by fact other f facts true rest (inr there) = inr (inr there)
put_by fact other f facts false rest (inl is) = inr (inl is)
put_by fact other f facts false rest (inr there) = elim (rest there) [ inl is ↦ inl is | inr before ↦ inr (inr before) ]

from_put : (fact other : Fact) (facts : List Fact) → IsIn other (put_fact fact facts) → (other ≡ fact) ⊎ IsIn other facts
from_put fact other [] there = elim there [ inl is ↦ inl is | inr none ↦ absurd none ]
from_put fact other (f ∷ facts) there = put_by fact other f facts (node_eq.eq fact.node f.node) (from_put fact other facts) there

from_puts : (more : List Fact) (other : Fact) (facts : List Fact) → IsIn other (put_facts more facts) → IsIn other more ⊎ IsIn other facts
from_puts [] other facts there = inr there
from_puts (fact ∷ more) other facts there = elim (from_puts more other (put_fact fact facts) there) [
  | inl later ↦ inl (inr later)
  | inr now ↦ elim (from_put fact other facts now) [ inl is ↦ inl (inl is) | inr before ↦ inr before ]
]

-- ---- changes

-- what is noted is true beside what is held then
abbrev pub NotesTruly : Graph → Held → Change → Type 0
NotesTruly g held (notes facts) = AreTrueBeside g (kept_outcome held.calls) facts
NotesTruly g held other = ⊤

-- so it is with each of these changes
abbrev pub NoteTruly : Graph → Held → List Change → Type 0
NoteTruly g held [] = ⊤
NoteTruly g held (change ∷ changes) = NotesTruly g held change × NoteTruly g (apply change held) changes

module _ (g : Graph) where
  -- what is true stays so where more calls are kept
  more_kept : (calls more : Calls) (facts : List Fact) → AreTrueBeside g (kept_outcome calls) facts → AreTrueBeside g (kept_outcome (calls ++ more)) facts
  more_kept calls more facts are =
      all_in (RecordIsTrue g (kept_outcome (calls ++ more))) facts
      (λ fact i. truth_stays g (kept_outcome calls) (kept_outcome (calls ++ more)) (λ call o e. kept_first calls more call o e) fact (in_all (RecordIsTrue g (kept_outcome calls)) facts are fact i))

  true_next : (held : Held) (change : Change) → RecordsAreTrue g held → NotesTruly g held change → RecordsAreTrue g (apply change held)
  true_next held (puts name text) are notes_true = are
  true_next held (drops name) are notes_true = are
  true_next held (keeps call outcome) are notes_true = more_kept held.calls ((call, outcome) ∷ []) held.records are
  true_next held (notes facts) are notes_true =
      let known = kept_outcome held.calls in
      all_in (RecordIsTrue g known) (put_facts facts held.records)
      (λ fact i. elim (from_puts facts fact held.records i) [
        | inl new ↦ in_all (RecordIsTrue g known) facts notes_true fact new
        | inr before ↦ in_all (RecordIsTrue g known) held.records are fact before
      ])

  pub records_after : (changes : List Change) (held : Held) → RecordsAreTrue g held → NoteTruly g held changes → RecordsAreTrue g (after_changes store_keeping changes held)
  records_after [] held are truly = are
  records_after (change ∷ changes) held are truly = records_after changes (apply change held) (true_next held change are truly.0) truly.1

  pub first_truly : (k : ℕ) (changes : List Change) (held : Held) → NoteTruly g held changes → NoteTruly g held (take k changes)
  first_truly zero changes held truly = tt
  first_truly (suc k) [] held truly = tt
  first_truly (suc k) (change ∷ changes) held truly = (truly.0, first_truly k changes (apply change held) truly.1)

  pub both_truly : (changes more : List Change) (held : Held) → NoteTruly g held changes → NoteTruly g (after_changes store_keeping changes held) more → NoteTruly g held (changes ++ more)
  both_truly [] more held first next = next
  both_truly (change ∷ changes) more held first next = (first.0, both_truly changes more (apply change held) first.1 next)

  -- calls that are kept, and what is noted after them
  keeps_truly : (given : Calls) (held : Held) → NoteTruly g held (keeps_of given)
  keeps_truly [] held = tt
  keeps_truly (x ∷ given) held = (tt, keeps_truly given (apply (keeps x.0 x.1) held))

  pub asked_truly : (given : Calls) (noted : List Fact) (held : Held) → AreTrueBeside g (kept_outcome (after_changes store_keeping (changes_for given noted) held).calls) noted → NoteTruly g held (changes_for given noted)
  asked_truly given [] held truth = keeps_truly given held
  asked_truly given (fact ∷ facts) held truth =
      let last : List Change = notes (fact ∷ facts) ∷ [] in
      both_truly (keeps_of given) last held (keeps_truly given held)
      (subst (λ (h : Held). AreTrueBeside g (kept_outcome h.calls) (fact ∷ facts)) (after_both (keeps_of given) last held) truth, tt)

  -- an edit
  pub edit_truly : (name : Text) (old new : Option Text) (held : Held) → NoteTruly g held (source_changes name old new)
  edit_truly name None None held = tt
  edit_truly name (Some text) None held = (tt, tt)
  edit_truly name None (Some text) held = (tt, tt)
  edit_truly name (Some old) (Some text) held = by_test (bytes_eq old text)
    where
      by_test : (same : Bool) → NoteTruly g held (cond same [] (puts name text ∷ []))
      by_test true = tt
      by_test false = (tt, tt)

  -- changes that note nothing
  pub puts_truly : (held : Held) (name text : Text) (change : Change) → change ≡ puts name text → NotesTruly g held change
  puts_truly held name text change is = subst (NotesTruly g held) (sym is) tt

  pub drops_truly : (held : Held) (name : Text) (change : Change) → change ≡ drops name → NotesTruly g held change
  drops_truly held name change is = subst (NotesTruly g held) (sym is) tt

-- ---- a node that has a record keeps one

put_keeps : (n : Node) (fact f : Fact) (facts : List Fact) (same : Bool) → node_eq.eq fact.node f.node ≡ same → (HasFact n facts → HasFact n (put_fact fact facts)) → HasFact n (f ∷ facts)
    → HasFact n (cond same (fact ∷ facts) (f ∷ put_fact fact facts))
put_keeps n fact f facts true same rest has = elim has.there [
  | inl is ↦ record { fact = fact; there = inl refl; is = (node_exact fact.node f.node).0 same ∙ ap (λ (x : Fact). x.node) (sym is) ∙ has.is }
  | inr there ↦ record { fact = has.fact; there = inr there; is = has.is }
]
put_keeps n fact f facts false same rest has = elim has.there [
  | inl is ↦ record { fact = has.fact; there = inl is; is = has.is }
  | inr there ↦ let more = rest (record { fact = has.fact; there = there; is = has.is }) in record { fact = more.fact; there = inr more.there; is = more.is }
]

fact_put : (n : Node) (fact : Fact) (facts : List Fact) → HasFact n facts → HasFact n (put_fact fact facts)
fact_put n fact [] has = absurd has.there
fact_put n fact (f ∷ facts) has = put_keeps n fact f facts (node_eq.eq fact.node f.node) refl (fact_put n fact facts) has

facts_put : (n : Node) (more facts : List Fact) → HasFact n facts → HasFact n (put_facts more facts)
facts_put n [] facts has = has
facts_put n (fact ∷ more) facts has = facts_put n more (put_fact fact facts) (fact_put n fact facts has)

pub fact_stays : (n : Node) (changes : List Change) (held : Held) → HasFact n held.records → HasFact n (after_changes store_keeping changes held).records
fact_stays n [] held has = has
fact_stays n (puts name text ∷ changes) held has = fact_stays n changes (apply (puts name text) held) has
fact_stays n (drops name ∷ changes) held has = fact_stays n changes (apply (drops name) held) has
fact_stays n (keeps call outcome ∷ changes) held has = fact_stays n changes (apply (keeps call outcome) held) has
fact_stays n (notes facts ∷ changes) held has = fact_stays n changes (apply (notes facts) held) (facts_put n facts held.records has)
