-- What is to be noted, by the numbers of its values, while contents come after the others; and what its records say.
use Rattle.std.proofs.Common.{◌≡◌, ◌<◌, ◌+◌, ◌∙◌, ℕ, take, get_or, List, [], ◌∷◌, ◌++◌, length, map, append-nil, ap, sym, subst, refl, arith}
use Rattle.std.specs.Prelude.{Option, Some, None, cond}
use Rattle.std.specs.List.{All, filter, flat_map}
use Rattle.std.proofs.lemmas.Grind.{flat_map-append}
use Rattle.std.proofs.lemmas.List.{take_more}
use Rattle.std.proofs.lemmas.List.Elements.{All-cons, All-head, All-nil, All-tail}
use Rattle.std.proofs.lemmas.Option.{slice_get_within}
use Rattle.object_values.specs.declared.records.NodeRecord.{NodeRecord}
use Rattle.object_values.specs.declared.records.Role.{Role}
use Rattle.object_values.specs.declared.records.Role.TheVariants.{Needed, Reached}
use Rattle.object_values.specs.declared.facts.FactDep.{FactDep}
use Rattle.object_values.specs.declared.facts.Fresh.{Fresh}
use Rattle.object_values.specs.declared.items.StoredDep.{StoredDep}
use Rattle.object_values.specs.declared.items.StoredRecord.{StoredRecord}
use Rattle.object_values.specs.declared.views.Value.{Value}
use Rattle.meaning_records.specs.Tables.{AreDepsOf, IsValueOf}
use Rattle.meaning_records.specs.Batches.{AreReachedLast, AreRecordsOf, IsNotable, IsRecordOf, reached_count, reached_in}
use Rattle.meaning_records.proofs.Lemmas.{AreNeedsOf, as_many, count_within, deps_by_count, may_be_noted, one_fact}
use Rattle.kept_contents.specs.declared.shared.Content.{Content}
use Rattle.kept_contents.specs.Added.{AddsAll, contents_with}
use Rattle.kept_contents.specs.Stocks.{values_of_contents}
use Rattle.kept_contents.proofs.Lemmas.{adds_append, contents_grow, grows}
use Rattle.kept_notes.specs.Facts.{IsNotedIn, IsRecordIn, fact_of, facts_of, fresh_of}
use Rattle.kept_notes.specs.Loaded.{record_with}
use Rattle.kept_notes.specs.Numbered.{AreNumberedDeps, IsNumberedDep, is_reached, notes_of}
use Rattle.kept_notes.proofs.FactLemmas.{get_stays}
use Rattle.kept_notes.proofs.LoadedLemmas.{loadable_says, loadable_within}

abbrev Values : Type 0
Values = List Value

-- ---- contents more

module _ (contents more : Values) where
  value_kept : (number : Option ℕ) (value : Option Value) → IsValueOf contents number value → IsValueOf (contents ++ more) number value
  value_kept None value is = is
  value_kept (Some number) None is = is
  value_kept (Some number) (Some value) is = get_stays contents more number (slice_get_within contents number value is) ∙ is

  numbered_kept : (stored : List StoredDep) (deps : List FactDep) → AreNumberedDeps contents stored deps → AreNumberedDeps (contents ++ more) stored deps
  numbered_kept [] [] are = tt
  numbered_kept [] (d ∷ deps) are = are
  numbered_kept (s ∷ stored) [] are = are
  numbered_kept (s ∷ stored) (d ∷ deps) are = (record { node = are.0.node; value = value_kept s.content d.value are.0.value }, numbered_kept stored deps are.1)

  deps_kept : (reached : ℕ) (stored : List StoredDep) (deps : List FactDep) → AreDepsOf contents reached stored deps
      → AreDepsOf (contents ++ more) reached stored deps
  deps_kept reached [] [] are = tt
  deps_kept reached [] (d ∷ deps) are = are
  deps_kept reached (s ∷ stored) [] are = are
  deps_kept reached (s ∷ stored) (d ∷ deps) are =
      (record { node = are.0.node; role = are.0.role; value = value_kept s.content d.value are.0.value }, deps_kept reached stored deps are.1)

  record_kept : (stored : StoredRecord) (fresh : Fresh) → IsRecordOf contents stored fresh → IsRecordOf (contents ++ more) stored fresh
  record_kept stored fresh is = record {
    says = record {
      node = is.says.node;
      deps = deps_kept stored.reached stored.deps fresh.fact.deps is.says.deps;
      value = value_kept stored.value fresh.fact.value is.says.value;
      own_status = is.says.own_status;
      own_messages = is.says.own_messages;
    };
    reached = is.reached;
    status = is.status;
    messages = is.messages;
    height = is.height;
  }

  records_kept : (stored : List StoredRecord) (fresh : List Fresh) → AreRecordsOf contents stored fresh → AreRecordsOf (contents ++ more) stored fresh
  records_kept [] [] are = tt
  records_kept [] (f ∷ fresh) are = are
  records_kept (s ∷ stored) [] are = are
  records_kept (s ∷ stored) (f ∷ fresh) are = (record_kept s f are.0, records_kept stored fresh are.1)

module _ (contents xs : Values) (old new : List Content) (adds : AddsAll contents xs (values_of_contents old) (values_of_contents new)) where
  numbered_stay : (stored : List StoredDep) (deps : List FactDep) → AreNumberedDeps (contents_with contents old) stored deps
      → AreNumberedDeps (contents_with contents new) stored deps
  numbered_stay stored deps are =
      let g = grows contents xs (values_of_contents old) (values_of_contents new) adds in
      subst (λ (l : Values). AreNumberedDeps l stored deps) (sym (contents_grow contents old new g.0 g.1))
      (numbered_kept (contents_with contents old) g.0 stored deps are)

  pub value_stays : (number : Option ℕ) (value : Option Value) → IsValueOf (contents_with contents old) number value
      → IsValueOf (contents_with contents new) number value
  value_stays number value is =
      let g = grows contents xs (values_of_contents old) (values_of_contents new) adds in
      subst (λ (l : Values). IsValueOf l number value) (sym (contents_grow contents old new g.0 g.1))
      (value_kept (contents_with contents old) g.0 number value is)

  records_stay : (stored : List StoredRecord) (fresh : List Fresh) → AreRecordsOf (contents_with contents old) stored fresh
      → AreRecordsOf (contents_with contents new) stored fresh
  records_stay stored fresh are =
      let g = grows contents xs (values_of_contents old) (values_of_contents new) adds in
      subst (λ (l : Values). AreRecordsOf l stored fresh) (sym (contents_grow contents old new g.0 g.1))
      (records_kept (contents_with contents old) g.0 stored fresh are)

-- ---- one after another

module _ {X : Type 0} (xs : List X) (i : ℕ) (here : X) (lt : i < length xs) (at : here ≡ get_or xs i here) where
  taken : take i xs ++ here ∷ [] ≡ take (i + 1) xs
  taken = ap (λ (x : X). take i xs ++ x ∷ []) at ∙ sym (take_more xs i here lt)

  pub each_adds : (f : X → Values) (file contents a b d : Values) → contents ≡ file → AddsAll file (flat_map f (take i xs)) a b
      → AddsAll contents (f here) b d → AddsAll file (flat_map f (take (i + 1) xs)) a d
  each_adds f file contents a b d same before one =
      let e : flat_map f (take i xs) ++ f here ≡ flat_map f (take (i + 1) xs)
      = ap (λ (l : Values). flat_map f (take i xs) ++ l) (sym (append-nil (f here))) ∙ sym (flat_map-append f (take i xs) (here ∷ []))
      ∙ ap (flat_map f) taken in
      subst (λ (l : Values). AddsAll file l a d) e
      (adds_append file (flat_map f (take i xs)) (f here) a b d before (subst (λ (l : Values). AddsAll l (f here) b d) same one))

numbered_push : (contents : Values) (stored : List StoredDep) (deps : List FactDep) (s : StoredDep) (d : FactDep)
    → AreNumberedDeps contents stored deps → IsNumberedDep contents s d
    → AreNumberedDeps contents (stored ++ s ∷ []) (deps ++ d ∷ [])
numbered_push contents [] [] s d are is = (is, tt)
numbered_push contents [] (e ∷ deps) s d are is = absurd are
numbered_push contents (r ∷ stored) [] s d are is = absurd are
numbered_push contents (r ∷ stored) (e ∷ deps) s d are is = (are.0, numbered_push contents stored deps s d are.1 is)

records_push : (contents : Values) (stored : List StoredRecord) (fresh : List Fresh) (s : StoredRecord) (f : Fresh)
    → AreRecordsOf contents stored fresh → IsRecordOf contents s f
    → AreRecordsOf contents (stored ++ s ∷ []) (fresh ++ f ∷ [])
records_push contents [] [] s f are is = (is, tt)
records_push contents [] (g ∷ fresh) s f are is = absurd are
records_push contents (r ∷ stored) [] s f are is = absurd are
records_push contents (r ∷ stored) (g ∷ fresh) s f are is = (are.0, records_push contents stored fresh s f are.1 is)

notes_push : (checked : Option ℕ) (contents : Values) (stored : List StoredRecord) (fresh : List Fresh) (s : StoredRecord) (f : Fresh)
    → AreRecordsOf contents stored fresh
    → notes_of checked stored fresh ++ record_with s f.present checked ∷ [] ≡ notes_of checked (stored ++ s ∷ []) (fresh ++ f ∷ [])
notes_push checked contents [] [] s f are = refl
notes_push checked contents [] (g ∷ fresh) s f are = absurd are
notes_push checked contents (r ∷ stored) [] s f are = absurd are
notes_push checked contents (r ∷ stored) (g ∷ fresh) s f are =
    ap (λ (l : List NodeRecord). record_with r g.present checked ∷ l) (notes_push checked contents stored fresh s f are.1)

module _ (deps : List FactDep) (i : ℕ) (here : FactDep) (lt : i < length deps) (at : here ≡ get_or deps i here) where
  pub deps_step : (contents after xs : Values) (old new : List Content) (stored next : List StoredDep) (s : StoredDep) → after ≡ contents
      → AddsAll contents xs (values_of_contents old) (values_of_contents new)
      → AreNumberedDeps (contents_with contents old) stored (take i deps) → IsNumberedDep (contents_with after new) s here → next ≡ stored ++ s ∷ []
      → AreNumberedDeps (contents_with after new) next (take (i + 1) deps)
  deps_step contents after xs old new stored next s same adds are is grown =
      let stay = numbered_stay contents xs old new adds stored (take i deps) are in
      let here_is = subst (λ (l : Values). IsNumberedDep (contents_with l new) s here) same is in
      let more = numbered_push (contents_with contents new) stored (take i deps) s here stay here_is in
      subst (λ (l : Values). AreNumberedDeps (contents_with l new) next (take (i + 1) deps)) (sym same)
      (subst (λ (l : List StoredDep). AreNumberedDeps (contents_with contents new) l (take (i + 1) deps)) (sym grown)
      (subst (λ (l : List FactDep). AreNumberedDeps (contents_with contents new) (stored ++ s ∷ []) l) (taken deps i here lt at) more))

module _ (fresh : List Fresh) (i : ℕ) (here : Fresh) (lt : i < length fresh) (at : here ≡ get_or fresh i here) where
  pub records_step : (contents after xs : Values) (old new : List Content) (stored next : List StoredRecord) (s : StoredRecord) → after ≡ contents
      → AddsAll contents xs (values_of_contents old) (values_of_contents new)
      → AreRecordsOf (contents_with contents old) stored (take i fresh) → IsRecordOf (contents_with after new) s here → next ≡ stored ++ s ∷ []
      → AreRecordsOf (contents_with after new) next (take (i + 1) fresh)
  records_step contents after xs old new stored next s same adds are is grown =
      let stay = records_stay contents xs old new adds stored (take i fresh) are in
      let here_is = subst (λ (l : Values). IsRecordOf (contents_with l new) s here) same is in
      let more = records_push (contents_with contents new) stored (take i fresh) s here stay here_is in
      subst (λ (l : Values). AreRecordsOf (contents_with l new) next (take (i + 1) fresh)) (sym same)
      (subst (λ (l : List StoredRecord). AreRecordsOf (contents_with contents new) l (take (i + 1) fresh)) (sym grown)
      (subst (λ (l : List Fresh). AreRecordsOf (contents_with contents new) (stored ++ s ∷ []) l) (taken fresh i here lt at) more))

  pub notes_step : (checked : Option ℕ) (contents : Values) (stored next : List StoredRecord) (notes later : List NodeRecord) (s : StoredRecord)
      (noted : NodeRecord) → AreRecordsOf contents stored (take i fresh)
      → notes ≡ notes_of checked stored (take i fresh) → noted ≡ record_with s here.present checked → next ≡ stored ++ s ∷ [] → later ≡ notes ++ noted ∷ []
      → later ≡ notes_of checked next (take (i + 1) fresh)
  notes_step checked contents stored next notes later s noted are before is grown more =
      more
      ∙ ap (λ (l : List NodeRecord). l ++ noted ∷ []) before
      ∙ ap (λ (r : NodeRecord). notes_of checked stored (take i fresh) ++ r ∷ []) is
      ∙ notes_push checked contents stored (take i fresh) s here are
      ∙ ap (λ (l : List Fresh). notes_of checked (stored ++ s ∷ []) l) (taken fresh i here lt at)
      ∙ ap (λ (l : List StoredRecord). notes_of checked l (take (i + 1) fresh)) (sym grown)

-- ---- the roles of deps

-- the reached sources are as many as are kept of them
pub count_kept : (deps : List FactDep) → length (filter (λ (d : FactDep). is_reached d.role) deps) ≡ reached_count deps
count_kept [] = refl
count_kept (d ∷ deps) = by d.role (count_kept deps)
  where
    kept : List FactDep
    kept = filter (λ (x : FactDep). is_reached x.role) deps

    by : (r : Role) → length kept ≡ reached_count deps → length (cond (is_reached r) (d ∷ kept) kept) ≡ reached_in r + reached_count deps
    by Needed same = omega (arith, same)
    by Reached same = omega (arith, same)

module _ (contents : Values) where
  needs : (stored : List StoredDep) (deps : List FactDep) → AreNumberedDeps contents stored deps → AreNeedsOf contents stored deps
  needs [] [] are = tt
  needs [] (d ∷ deps) are = are
  needs (s ∷ stored) [] are = are
  needs (s ∷ stored) (d ∷ deps) are = (record { node = sym are.0.node; value = are.0.value }, needs stored deps are.1)

  -- ---- records

  pub record_is : (stored : StoredRecord) (fresh : Fresh) → AreReachedLast fresh.fact.deps → stored.node ≡ fresh.fact.node
      → AreNumberedDeps contents stored.deps fresh.fact.deps
      → stored.reached ≡ reached_count fresh.fact.deps → IsValueOf contents stored.value fresh.fact.value → stored.own_status ≡ fresh.fact.own_status
      → stored.own_messages ≡ fresh.fact.own_messages → stored.status ≡ fresh.present.status → stored.messages ≡ fresh.present.messages
      → stored.height ≡ fresh.present.height → IsRecordOf contents stored fresh
  record_is stored fresh last node deps count value own_status own_messages status messages height =
      let are = needs stored.deps fresh.fact.deps deps in
      let few = count_within fresh.fact.deps in
      let long = as_many contents stored.deps fresh.fact.deps are in
      record {
        says = record {
          node = sym node;
          deps = subst (λ n. AreDepsOf contents n stored.deps fresh.fact.deps) (sym count) (deps_by_count contents stored.deps fresh.fact.deps are last);
          value = value;
          own_status = sym own_status;
          own_messages = sym own_messages;
        };
        reached = omega (arith, count, few, long);
        status = status;
        messages = messages;
        height = height;
      }

  module _ (checked : Option ℕ) where
    -- a record in memory says what is to be noted, by numbers of contents
    pub note_says : (stored : StoredRecord) (fresh : Fresh) → IsNotable fresh → IsRecordOf contents stored fresh
        → fact_of contents (record_with stored fresh.present checked) ≡ fresh.fact
    note_says stored fresh may is =
        let noted = loadable_says contents stored (fresh.fact, may_be_noted contents stored fresh may is) in
        one_fact contents stored (fact_of contents (record_with stored fresh.present checked)) fresh.fact noted.says is.says

    pub note_fresh : (stored : StoredRecord) (fresh : Fresh) → IsNotable fresh → IsRecordOf contents stored fresh
        → fresh_of contents (record_with stored fresh.present checked) ≡ fresh
    note_fresh stored fresh may is = let says = note_says stored fresh may is in λ i. record { fact = says i; present = fresh.present }

    pub note_within : (stored : StoredRecord) (fresh : Fresh) → IsNotable fresh → IsRecordOf contents stored fresh
        → IsRecordIn (length contents) (record_with stored fresh.present checked)
    note_within stored fresh may is =
        let within = loadable_within contents stored (fresh.fact, may_be_noted contents stored fresh may is) in
        record { deps = within.deps; value = within.value }

    note_is : (stored : StoredRecord) (fresh : Fresh) → IsNotable fresh → IsRecordOf contents stored fresh
        → IsNotedIn contents (record_with stored fresh.present checked)
    note_is stored fresh may is = record {
      named = note_within stored fresh may is;
      may = subst IsNotable (sym (note_fresh stored fresh may is)) may;
    }

    pub notes_say : (stored : List StoredRecord) (fresh : List Fresh) → All IsNotable fresh → AreRecordsOf contents stored fresh
        → facts_of contents (notes_of checked stored fresh) ≡ map (λ (f : Fresh). f.fact) fresh
    notes_say [] [] may are = refl
    notes_say [] (f ∷ fresh) may are = absurd are
    notes_say (s ∷ stored) [] may are = absurd are
    notes_say (s ∷ stored) (f ∷ fresh) may are =
        let here = note_says s f (All-head IsNotable f fresh may) are.0 in
        let rest = notes_say stored fresh (All-tail IsNotable f fresh may) are.1 in
        λ i. here i ∷ rest i

    pub notes_noted : (stored : List StoredRecord) (fresh : List Fresh) → All IsNotable fresh → AreRecordsOf contents stored fresh
        → All (IsNotedIn contents) (notes_of checked stored fresh)
    notes_noted [] [] may are = All-nil (IsNotedIn contents)
    notes_noted [] (f ∷ fresh) may are = absurd are
    notes_noted (s ∷ stored) [] may are = absurd are
    notes_noted (s ∷ stored) (f ∷ fresh) may are =
        All-cons (IsNotedIn contents) (record_with s f.present checked) (notes_of checked stored fresh) (note_is s f (All-head IsNotable f fresh may) are.0)
        (notes_noted stored fresh (All-tail IsNotable f fresh may) are.1)

    pub notes_present : (stored : List StoredRecord) (fresh : List Fresh) → AreRecordsOf contents stored fresh
        → map (λ (r : NodeRecord). r.present) (notes_of checked stored fresh) ≡ map (λ (f : Fresh). f.present) fresh
    notes_present [] [] are = refl
    notes_present [] (f ∷ fresh) are = absurd are
    notes_present (s ∷ stored) [] are = absurd are
    notes_present (s ∷ stored) (f ∷ fresh) are = ap (λ l. f.present ∷ l) (notes_present stored fresh are.1)

pub all_checked : (checked : Option ℕ) (stored : List StoredRecord) (fresh : List Fresh) → All (λ (r : NodeRecord). r.checked ≡ checked) (notes_of checked stored fresh)
all_checked checked [] fresh = All-nil (λ (r : NodeRecord). r.checked ≡ checked)
all_checked checked (s ∷ stored) [] = All-nil (λ (r : NodeRecord). r.checked ≡ checked)
all_checked checked (s ∷ stored) (f ∷ fresh) = All-cons (λ (r : NodeRecord). r.checked ≡ checked) (record_with s f.present checked)
    (notes_of checked stored fresh) refl (all_checked checked stored fresh)
