-- The test of a record that was just noted.
use Rattle.std.proofs.Common.{◌≡◌, ◌≢◌, ◌∙◌, ℕ, Bool, true, false, cond, ◌&&◌, List, [], ◌∷◌, Option, Some, None, is_some, IsSome, refl, sym, ap, subst, true≢false}
use Rattle.std.specs.Prelude.{◌↔◌, IfOk, IsFalse, IsTrue, Result, Ok, Err, map, slice_get, option_map}
use Rattle.std.specs.List.{list_all}
use Rattle.std.proofs.lemmas.Option.{none-some, same_Some, slice_get-map}
use Rattle.object_values.specs.Exact.{node_exact}
use Rattle.object_values.specs.declared.nodes.Node.{Node}
use Rattle.object_values.specs.contracts.nodes.NodePartialEq.TheImpl.{ghosts as node_eq}
use Rattle.object_values.specs.declared.facts.Fact.{Fact}
use Rattle.object_values.specs.declared.facts.FactDep.{FactDep}
use Rattle.object_values.specs.declared.items.Item.{Item}
use Rattle.object_values.specs.declared.items.Item.TheVariants.{Graph as GraphItem, Content, Put, Dropped, Kept, Node as NodeItem}
use Rattle.object_values.specs.declared.views.Value.{Value}
use Rattle.object_values.specs.declared.records.Dep.{Dep}
use Rattle.object_values.specs.declared.records.NodeRecord.{NodeRecord}
use Rattle.meaning_texts.specs.Tests.{is_name, is_param_of_class}
use Rattle.meaning_graph.specs.Graphs.{Graph}
use Rattle.meaning_graph.specs.Suffixes.{source_type}
use Rattle.meaning_tasks.specs.Nodes.{Fits, fits, has_key_of_class, reached_type, type_after, type_of}
use Rattle.meaning_tasks.proofs.Lemmas.{fits_so, so_fits}
use Rattle.meaning_true.specs.Numbered.{Contents, dep_by, fact_by, value_at}
use Rattle.validator.specs.FitLaws.{FittingIsTested}
use Rattle.validator.specs.Fitting.{FactFits, fact_fits, fits_typed, value_fits}
use Rattle.kept_records.specs.Records.{put_record, record_of}
use Rattle.kept_records.proofs.Lemmas.{put_others}
use Rattle.meaning_records.specs.Records.{item}
use Rattle.meaning_records.specs.FormLemmas.{one_item}
use Rattle.meaning_records.specs.PlaceLemmas.{one_stands}
use Rattle.kept_notes.specs.Facts.{fact_of, facts_of}
use Rattle.kept_notes.specs.Loaded.{loaded_record}
use Rattle.kept_tables.specs.declared.loaded.Loaded.{Loaded}
use Rattle.kept_tables.specs.declared.loaded.Loaded.TheVariants as loaded
use Rattle.kept_tables.specs.Holdings.{Holding}
use Rattle.kept_tables.specs.Loading.{IsLoaded, LoadsItem, RemembersItem, records_after}
use Rattle.odin_store.specs.declared.loading.Ground.{Ground}
use Rattle.odin_store.specs.declared.loading.Ground.TheVariants as ground_is
use Rattle.odin_store.specs.declared.loading.Loading.{Loading}
use Rattle.odin_store.specs.Fitting.{NodesFit, OthersFit}
use Rattle.odin_store.specs.Loading.{FitsAt, HeldFit, MayNote, MayTakeIn, NotesAt, TakesIn, UnfitAt}

-- ---- a source

-- it has a type, whatever its name is
typed_source : (g : Graph) (n : Node) → n.steps ≡ [] → is_some (reached_type g n) ≡ true
unfolding reached_type
typed_source g n none = ap (λ s. is_some (type_after g (Some (source_type g n.source)) s)) none

and_true : (b c : Bool) → c ≡ true → (b && c) ≡ b
and_true true c is = is
and_true false c is = refl

pub source_fits : (g : Graph) (n : Node) → n.steps ≡ [] → n.params ≡ [] → is_name n.source ≡ fits g n
source_fits g n bare plain =
    let params : list_all is_param_of_class n.params ≡ true = ap (list_all is_param_of_class) plain in
    let keys : list_all has_key_of_class n.steps ≡ true = ap (list_all has_key_of_class) bare in
    sym (
    and_true (is_name n.source && list_all is_param_of_class n.params && list_all has_key_of_class n.steps) (is_some (reached_type g n)) (typed_source g n bare)
    ∙ and_true (is_name n.source && list_all is_param_of_class n.params) (list_all has_key_of_class n.steps) keys
    ∙ and_true (is_name n.source) (list_all is_param_of_class n.params) params
    )

-- ---- nodes that have records

module _ (g : Graph) where
  pub kept_fits : (records : List NodeRecord) (n : Node) → NodesFit g records → is_some (record_of n records) ≡ true → true ≡ fits g n
  kept_fits records n all some = sym (so_fits g n (all n some))

  pub typed_fits : (n : Node) → is_some (type_of g n) ≡ fits g n
  typed_fits n = by (fits g n) refl
    where
      by : (b : Bool) → fits g n ≡ b → is_some (cond b (reached_type g n) None) ≡ b
      by true e = (fits_so g n e).typed
      by false e = refl

  -- with the node itself all fit
  pub own_too : (records : List NodeRecord) (own : Node) → OthersFit g records own → Fits g own → NodesFit g records
  own_too records own others fit n some = by (node_eq.eq n own) refl
    where
      by : (b : Bool) → node_eq.eq n own ≡ b → Fits g n
      by true e = subst (Fits g) (sym ((node_exact n own).0 e)) fit
      by false e = others n (λ is. (let no : ⊥ = cc (sym e, (node_exact n own).1 is) in no)) some

  -- the deps of what a record says
  pub deps_say : (contents : Contents) (deps : List Dep) → list_all (λ (d : Dep). fits g d.node) deps ≡ list_all (λ (d : FactDep). fits g d.node) (map (dep_by contents) deps)
  deps_say contents [] = refl
  deps_say contents (d ∷ deps) = ap (λ b. fits g d.node && b) (deps_say contents deps)

-- ---- while items are taken in

-- the record at the place of a fact
there_of : (contents : List Value) (records : List NodeRecord) (place : ℕ) (fact : Fact) → slice_get (facts_of contents records) place ≡ Some fact
    → (r : NodeRecord) × (slice_get records place ≡ Some r) × (fact_of contents r ≡ fact)
there_of contents records place fact at = by (slice_get records place) refl
  where
    placed : option_map (fact_of contents) (slice_get records place) ≡ Some fact
    placed = sym (slice_get-map (fact_of contents) records place) ∙ at

    by : (o : Option NodeRecord) → slice_get records place ≡ o → (r : NodeRecord) × (slice_get records place ≡ Some r) × (fact_of contents r ≡ fact)
    by None e = absurd (none-some fact (sym (ap (option_map (fact_of contents)) e) ∙ placed))
    by (Some r) e = (r, e, same_Some (fact_of contents r) fact (sym (ap (option_map (fact_of contents)) e) ∙ placed))

-- what was noted last isn't one of the others
others_stay : (g : Graph) (noted : NodeRecord) (records : List NodeRecord) → NodesFit g records → OthersFit g (put_record noted records) noted.node
others_stay g noted records all n apart some = all n (sym (ap is_some (put_others noted n apart records)) ∙ some)

module _ (payload : List ℕ) (at end : ℕ) (given : Loaded) (old : Loading) (kept : Holding) where
  may_take : (it : Item) → IsLoaded old.kept.tables.contents kept.tables.records it given → kept.records.records ≡ records_after it old.kept.records.records
      → kept.tables.records ≡ facts_of kept.tables.contents kept.records.records → HeldFit old → MayTakeIn given (record old { kept = kept })
  may_take (GraphItem text) gives after say held = subst (λ l. MayTakeIn l (record old { kept = kept })) (sym gives) after
  may_take (Content value) gives after say held =
      subst (λ l. MayTakeIn l (record old { kept = kept })) (sym gives) (λ this. subst (NodesFit old.graph.now) (sym after) (held this))
  may_take (Put name number) gives after say held =
      subst (λ l. MayTakeIn l (record old { kept = kept })) (sym gives.2) (λ this. subst (NodesFit old.graph.now) (sym after) (held this))
  may_take (Dropped name) gives after say held =
      subst (λ l. MayTakeIn l (record old { kept = kept })) (sym gives) (λ this. subst (NodesFit old.graph.now) (sym after) (held this))
  may_take (Kept call outcome) gives after say held =
      subst (λ l. MayTakeIn l (record old { kept = kept })) (sym gives) (λ this. subst (NodesFit old.graph.now) (sym after) (held this))
  may_take (NodeItem stored) gives after say held =
      let there = there_of kept.tables.contents kept.records.records gives.place gives.fact (ap (λ l. slice_get l gives.place) (sym say) ∙ gives.there) in
      let own : there.0.node ≡ stored.node = ap (λ (f : Fact). f.node) there.2 ∙ gives.says.node in
      let is : MayNote gives.place (record old { kept = kept }) = record {
        noted = there.0;
        stands = there.1;
        others = λ this.
            subst (OthersFit old.graph.now kept.records.records) (sym own)
            (subst (λ l. OthersFit old.graph.now l stored.node) (sym after) (others_stay old.graph.now (loaded_record stored) old.kept.records.records (held this)));
      } in
      subst (λ l. MayTakeIn l (record old { kept = kept })) (sym gives.is) is

  pub item_may : LoadsItem payload at end given old.kept.tables kept.tables → RemembersItem payload at end old.kept.records.records kept.records.records
      → kept.tables.records ≡ facts_of kept.tables.contents kept.records.records → HeldFit old → MayTakeIn given (record old { kept = kept })
  item_may loads has say held =
      let same : has.it ≡ loads.it = (one_stands item one_item payload at end end has.it loads.it has.stands loads.stands).0 in
      may_take loads.it loads.gives (has.is ∙ ap (λ i. records_after i old.kept.records.records) same) say held

-- nothing more is noted
pub still_fit : (old new : Loading) → new.graph.now ≡ old.graph.now → new.ground ≡ old.ground → new.kept ≡ old.kept → HeldFit old → HeldFit new
still_fit old new graph ground kept held this =
    subst (λ g. NodesFit g new.kept.records.records) (sym graph)
    (subst (λ (k : Holding). NodesFit old.graph.now k.records.records) (sym kept) (held (sym ground ∙ this)))

-- none is there
pub none_held : (loading : Loading) → loading.kept.records.records ≡ [] → HeldFit loading
none_held loading none this n some = absurd (true≢false (sym (subst (λ l. IsSome (record_of n l)) none some)))

-- ---- the record at a place

module _ (loading : Loading) (place : ℕ) (may : MayNote place loading) where
  module _ (this : loading.ground ≡ ground_is.This None) (r : NodeRecord) (at : slice_get loading.kept.records.records place ≡ Some r)
      (say : loading.kept.tables.records ≡ facts_of loading.kept.tables.contents loading.kept.records.records) where
    pub others_of : OthersFit loading.graph.now loading.kept.records.records r.node
    others_of = subst (λ (x : NodeRecord). OthersFit loading.graph.now loading.kept.records.records x.node) (same_Some may.noted r (sym may.stands ∙ at)) (may.others this)

    one_fact : (fact : Fact) → slice_get loading.kept.tables.records place ≡ Some fact → fact_of loading.kept.tables.contents r ≡ fact
    one_fact fact there =
        let found = there_of loading.kept.tables.contents loading.kept.records.records place fact (ap (λ l. slice_get l place) (sym say) ∙ there) in
        ap (fact_of loading.kept.tables.contents) (same_Some r found.0 (sym at ∙ found.1)) ∙ found.2

    module _ {E : Type 0} where
      pub tells_fit : (b : Result Bool E) → IfOk b (λ fits. IsTrue fits ↔ FactFits loading.graph.now (fact_of loading.kept.tables.contents r)) → IfOk b (λ fits. IsTrue fits → FitsAt place loading)
      tells_fit (Err e) told = tt
      tells_fit (Ok b) told = λ fitting.
          let fit = told.0 fitting in
          record {
            fits = λ fact there. subst (FactFits loading.graph.now) (one_fact fact there) fit;
            nodes = own_too loading.graph.now loading.kept.records.records r.node others_of fit.node;
          }

      pub tells_unfit : (b : Result Bool E) → IfOk b (λ fits. IsTrue fits ↔ FactFits loading.graph.now (fact_of loading.kept.tables.contents r)) → IfOk b (λ fits. IsFalse fits → UnfitAt place loading)
      tells_unfit (Err e) told = tt
      tells_unfit (Ok b) told = λ unfit fact there fits. true≢false (sym (told.1 (subst (FactFits loading.graph.now) (sym (one_fact fact there)) fits)) ∙ unfit)

-- ---- what the test of a record says

module _ (g : Graph) (contents : Contents) (r : NodeRecord) where
  pub typed_so : (t : ℕ) → Some t ≡ type_of g r.node → Fits g r.node
  typed_so t typed = fits_so g r.node (sym (typed_fits g r.node) ∙ ap is_some (sym typed))

  pub says_untyped : None ≡ type_of g r.node → false ≡ fact_fits g (fact_by contents r)
  says_untyped typed = ap (fits_typed g (fact_by contents r)) typed

  module _ (t : ℕ) (typed : Some t ≡ type_of g r.node) where
    pub says_unvalued : value_fits g t (value_at contents r.value) ≡ false → false ≡ fact_fits g (fact_by contents r)
    says_unvalued unfit = sym (ap (fits_typed g (fact_by contents r)) (sym typed) ∙ ap (λ b. b && list_all (λ (d : FactDep). fits g d.node) (map (dep_by contents) r.deps)) unfit)

    pub says_deps : (b : Bool) → value_fits g t (value_at contents r.value) ≡ true → b ≡ list_all (λ (d : Dep). fits g d.node) r.deps → b ≡ fact_fits g (fact_by contents r)
    says_deps b fitting deps =
        deps ∙ deps_say g contents r.deps
        ∙ sym (ap (fits_typed g (fact_by contents r)) (sym typed) ∙ ap (λ v. v && list_all (λ (d : FactDep). fits g d.node) (map (dep_by contents) r.deps)) fitting)

module _ {E : Type 0} where
  pub told_fits : FittingIsTested → (g : Graph) (fact : Fact) (b : Result Bool E) → IfOk b (λ fits. fits ≡ fact_fits g fact) → IfOk b (λ fits. IsTrue fits ↔ FactFits g fact)
  told_fits tests g fact (Err e) told = tt
  told_fits tests g fact (Ok b) told = subst (λ x. IsTrue x ↔ FactFits g fact) (sym told) (tests g fact)

  pub noted_taken : (place : ℕ) (old new : Loading) (b : Result Bool E) → new.sources ≡ old.sources → IfOk b (λ noted. IsTrue noted → NotesAt place old.kept.tables.records old new)
      → IfOk b (λ taken. IsTrue taken → TakesIn (loaded.Noted place) old new)
  noted_taken place old new (Err e) same noted = tt
  noted_taken place old new (Ok b) same noted = λ taken. (let texts : new.sources.texts ≡ old.sources.texts = cc in texts, noted taken)
