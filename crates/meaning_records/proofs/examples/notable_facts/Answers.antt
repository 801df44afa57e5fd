use Rattle.std.proofs.Common.{◌≡◌, ℕ, ◌≤◌, [], ◌∷◌, Some, All, refl, arith, codes}
use Rattle.std.proofs.lemmas.List.Elements.{All-nil, All-cons, All-head, All-tail}
use Rattle.object_values.specs.declared.messages.Status.TheVariants.{Ok}
use Rattle.object_values.specs.declared.records.Role.TheVariants.{Needed, Reached}
use Rattle.object_values.specs.declared.facts.FactDep.{FactDep}
use Rattle.object_values.specs.declared.views.Value.{Value}
use Rattle.object_values.specs.declared.views.Value.TheVariants.{Simple}
use Rattle.meaning_records.specs.Tables.{IsShort}
use Rattle.meaning_records.specs.Batches.{IsNotable}
use Rattle.meaning_records.specs.NoteExamples.{text_value, first_node, fact_of, fact_dep}
use Rattle.meaning_records.specs.NoteBatchExamples.{fresh_of, fresh_text}
use Rattle.meaning_records.proofs.examples.notable_facts.Goals as goal

abbrev IsReached : FactDep → Type 0
IsReached d = d.role ≡ Reached

-- one short value
one : (value : Value) → IsShort value → All IsShort (value ∷ [])
one value short = All-cons IsShort value [] short (All-nil IsShort)

at_height : (height : ℕ) → 1 ≤ height → height ≤ 64 → IsNotable (fresh_of (fact_of first_node (Some text_value)) Ok height)
at_height height least most = record {
  short = one text_value (omega arith);
  last = tt;
  least = least;
  most = most;
  valued = (λ none. let n : ⊥ = cc in absurd n, λ abort. let n : ⊥ = cc in absurd n);
}

pub returns : goal.returns
returns c = record {
  over_deps = record {
    short = All-cons IsShort fresh_text (text_value ∷ []) (omega arith) (one text_value (omega arith));
    last = (λ needed. let n : ⊥ = cc in absurd n, (λ is. All-nil IsReached, tt));
    least = omega arith;
    most = omega arith;
    valued = (λ none. let n : ⊥ = cc in absurd n, λ abort. let n : ⊥ = cc in absurd n);
  };
  aborted = record { short = All-nil IsShort; last = tt; least = omega arith; most = omega arith; valued = (λ none. refl, λ abort. refl) };
  lowest = at_height 1 (omega arith) (omega arith);
  highest = at_height 64 (omega arith) (omega arith);
  too_low = λ may. let least = may.least in omega (arith, least);
  too_high = λ may. let most = may.most in omega (arith, most);
  valued_abort = λ may. let none = may.valued.1 refl in let n : ⊥ = cc in n;
  no_value = λ may. let abort = may.valued.0 refl in let n : ⊥ = cc in n;
  reached_first = λ may.
      let role = All-head IsReached (fact_dep (codes "a.c") Needed (Some text_value)) [] (may.last.0 refl) in
      let n : ⊥ = cc in n;
  long_value = λ text size may. let short = All-head IsShort (Simple text) [] may.short in omega (arith, size, short);
  long_dep = λ text size may.
      let short = All-head IsShort (Simple text) [] (All-tail IsShort text_value (Simple text ∷ []) may.short) in
      omega (arith, size, short);
}
