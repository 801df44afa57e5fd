-- That an image stands for something that fits, or isn't a store's at just one offset.
use Rattle.std.proofs.Common.{◌≡◌, ◌⊎◌, inl, inr, ℕ, Bool, true, false, List, [], ◌∷◌, ◌++◌, length, length-append, All, refl, sym, ap, ap₂, subst, ◌∙◌, arith}
use Rattle.std.proofs.lemmas.List.Elements.{All-nil, All-cons, All-head, All-tail}
use Rattle.object_values.specs.declared.facts.Fact.{Fact}
use Rattle.object_values.specs.Texts.{Text}
use Rattle.object_values.specs.declared.items.Item.{Item}
use Rattle.object_values.specs.declared.items.Item.TheVariants.{Graph as GraphItem, Content, Put, Dropped, Kept, Node}
use Rattle.meaning_graph.specs.Graphs.{Graph}
use Rattle.meaning_graph.specs.Grammar.{GraphText}
use Rattle.meaning_graph.specs.TextLaws.{GraphIsOne}
use Rattle.meaning_records.specs.FormLemmas.{one_item}
use Rattle.meaning_records.specs.Front.{start_of}
use Rattle.meaning_records.specs.ImageLemmas.{new_or_written, no_records, one_end, one_place}
use Rattle.meaning_records.specs.Images.{gate_after, IsNew, IsStore}
use Rattle.meaning_records.specs.Laws.{ReadsInOneWay, StandsForOne, EachStandsOrNot}
use Rattle.meaning_records.specs.Records.{item}
use Rattle.meaning_records.specs.Stands.{Stands, StandsNot, HasBadRecord}
use Rattle.meaning_records.specs.States.{State, nothing, TakesOne, TakesAll, Reads, ReadsAll, spell_batch}
use Rattle.validator.specs.Fitting.{FactFits, fact_fits}
use Rattle.validator.specs.FitLaws.{FittingIsTested}
use Rattle.odin_store.specs.Held.{counts, NotedFit}
use Rattle.odin_store.specs.Offsets.{gates_with, gates_with_all, AreGates, FirstUnfit, Stops, HasUnfit, IsNotFor, StandsFit, OneOffset}
use Rattle.odin_store.proofs.LoadLemmas.{item_some}

-- ---- what a payload is

batch_some : (it : Item) (items : List Item) → ◌≡◌ {A = List ℕ} [] (spell_batch (it ∷ items)) → ⊥
batch_some it items e =
    let size : 0 ≡ length (item.spell it ++ spell_batch items) = ap length e in
    omega (arith, size, length-append (item.spell it) (spell_batch items), item_some it)

-- a payload is of one batch
pub one_batch : (xs ys : List Item) → All item.fits xs → All item.fits ys → spell_batch xs ≡ spell_batch ys → xs ≡ ys
one_batch [] [] fit fits e = refl
one_batch [] (y ∷ ys) fit fits e = absurd (batch_some y ys e)
one_batch (x ∷ xs) [] fit fits e = absurd (batch_some x xs (sym e))
one_batch (x ∷ xs) (y ∷ ys) fit fits e =
    let front = one_item x y (spell_batch xs) (spell_batch ys) (All-head item.fits x xs fit) (All-head item.fits y ys fits) e in
    ap₂ (λ (it : Item) items. it ∷ items) front.0 (one_batch xs ys (All-tail item.fits x xs fit) (All-tail item.fits y ys fits) front.1)

-- ---- gates

pub one_gates : (gate : ℕ) (payloads : List (List ℕ)) (old a b : List ℕ) → AreGates gate payloads old a → AreGates gate payloads old b → b ≡ a
one_gates gate [] old a b first second = second ∙ sym first
one_gates gate (payload ∷ payloads) old a b (items, fit, is, rest) (others, fits, spelled, more) =
    let same : others ≡ items = one_batch others items fits fit (sym spelled ∙ is) in
    one_gates (gate_after gate payload) payloads (gates_with_all gate items old) a b rest
    (subst (λ (l : List Item). AreGates (gate_after gate payload) payloads (gates_with_all gate l old) b) same more)

-- there are as many as records that were noted
one_as_many : (gate : ℕ) (it : Item) (old new : State) (gates : List ℕ) → TakesOne old it new → length gates ≡ length old.noted → length (gates_with gate it gates) ≡ length new.noted
one_as_many gate (GraphItem text) old new gates takes same = sym (ap length takes.noted)
one_as_many gate (Content value) old new gates takes same = same ∙ sym (ap length takes.noted)
one_as_many gate (Put name number) old new gates takes same = same ∙ sym (ap length takes.noted)
one_as_many gate (Dropped name) old new gates takes same = same ∙ sym (ap length takes.noted)
one_as_many gate (Kept call outcome) old new gates takes same = same ∙ sym (ap length takes.noted)
one_as_many gate (Node stored) old new gates takes same =
    let longer : length new.noted ≡ length (old.noted ++ takes.noted.0 ∷ []) = ap length takes.noted.2 in
    omega (arith, same, longer, length-append old.noted (takes.noted.0 ∷ []), length-append gates (gate ∷ []))

pub all_as_many : (gate : ℕ) (items : List Item) (old new : State) (gates : List ℕ) → TakesAll old items new → length gates ≡ length old.noted → length (gates_with_all gate items gates) ≡ length new.noted
all_as_many gate [] old new gates taken same = same ∙ sym (ap (λ (s : State). length s.noted) taken)
all_as_many gate (it ∷ items) old new gates taken same =
    all_as_many gate items taken.0 new (gates_with gate it gates) taken.2 (one_as_many gate it old taken.0 gates taken.1 same)

gates_there : (gate : ℕ) (payloads : List (List ℕ)) (old new : State) (gates : List ℕ) → ReadsAll old payloads new → length gates ≡ length old.noted
    → (found : List ℕ) × AreGates gate payloads gates found × (length found ≡ length new.noted)
gates_there gate [] old new gates read same = (gates, refl, same ∙ sym (ap (λ (s : State). length s.noted) read))
gates_there gate (payload ∷ payloads) old new gates read same =
    let reads = read.1 in
    let more = gates_there (gate_after gate payload) payloads read.0 new (gates_with_all gate reads.items gates) read.2 (all_as_many gate reads.items old read.0 gates reads.taken same) in
    (more.0, (reads.items, reads.fit, reads.spelled, more.1), more.2)

-- ---- the first that doesn't fit

true_false : {A : Type 0} (b : Bool) → b ≡ true → b ≡ false → A
true_false b holds fails = let both : true ≡ false = sym holds ∙ fails in cc

pub not_all : (g : Graph) (facts : List Fact) (gates : List ℕ) (at : ℕ) → FirstUnfit g facts gates at → All (FactFits g) facts → ⊥
not_all g [] gates at first all = first
not_all g (fact ∷ facts) [] at first all = first
not_all g (fact ∷ facts) (gate ∷ gates) at (inl here) all = here.0 (All-head (FactFits g) fact facts all)
not_all g (fact ∷ facts) (gate ∷ gates) at (inr later) all = not_all g facts gates at later.1 (All-tail (FactFits g) fact facts all)

one_unfit : (g : Graph) (facts : List Fact) (gates : List ℕ) (at other : ℕ) → FirstUnfit g facts gates at → FirstUnfit g facts gates other → other ≡ at
one_unfit g [] gates at other first second = absurd first
one_unfit g (fact ∷ facts) [] at other first second = absurd first
one_unfit g (fact ∷ facts) (gate ∷ gates) at other (inl here) (inl also) = also.1 ∙ sym here.1
one_unfit g (fact ∷ facts) (gate ∷ gates) at other (inl here) (inr later) = absurd (here.0 later.0)
one_unfit g (fact ∷ facts) (gate ∷ gates) at other (inr later) (inl here) = absurd (here.0 later.0)
one_unfit g (fact ∷ facts) (gate ∷ gates) at other (inr later) (inr also) = one_unfit g facts gates at other later.1 also.1

module _ (tested : FittingIsTested) (g : Graph) where
  fact_decided : (fact : Fact) → FactFits g fact ⊎ ¬ FactFits g fact
  fact_decided fact = by (fact_fits g fact) refl
    where
      by : (b : Bool) → fact_fits g fact ≡ b → FactFits g fact ⊎ ¬ FactFits g fact
      by true holds = inl ((tested g fact).0 holds)
      by false fails = inr (λ fits. true_false (fact_fits g fact) ((tested g fact).1 fits) fails)

  unfit_or : (facts : List Fact) (gates : List ℕ) → length gates ≡ length facts → All (FactFits g) facts ⊎ ((at : ℕ) × FirstUnfit g facts gates at)
  unfit_or [] gates same = inl (All-nil (FactFits g))
  unfit_or (fact ∷ facts) [] same = absurd (omega (arith, same))
  unfit_or (fact ∷ facts) (gate ∷ gates) same = elim (fact_decided fact) [
    | inl fits ↦ elim (unfit_or facts gates (omega (arith, same))) [
      | inl all ↦ inl (All-cons (FactFits g) fact facts fits all)
      | inr found ↦ inr (found.0, inr (fits, found.1))
    ]
    | inr unfit ↦ inr (gate, inl (unfit, refl))
  ]

-- ---- how far payloads read

-- the first that doesn't read is one
one_stop : ReadsInOneWay → (before other rest more : List (List ℕ)) (old a b : State) → before ++ rest ≡ other ++ more → ReadsAll old before a → ReadsAll old other b → Stops a rest → Stops b more → (other ≡ before) × (b ≡ a)
one_stop law [] [] rest more old a b whole read also stops ends = (refl, also ∙ sym read)
one_stop law [] (payload ∷ other) rest more old a b whole read also stops ends =
    let unread : (next : State) → ¬ Reads a payload next = subst (Stops a) whole stops in
    absurd (unread also.0 (subst (λ (s : State). Reads s payload also.0) (sym read) also.1))
one_stop law (payload ∷ before) [] rest more old a b whole read also stops ends =
    let unread : (next : State) → ¬ Reads b payload next = subst (Stops b) (sym whole) ends in
    absurd (unread read.0 (subst (λ (s : State). Reads s payload read.0) (sym also) read.1))
one_stop law (payload ∷ before) (second ∷ other) rest more old a b whole read also stops ends =
    let first : payload ≡ second = cc in
    let rest_is : before ++ rest ≡ other ++ more = cc in
    let here : Reads old payload also.0 = subst (λ x. Reads old x also.0) (sym first) also.1 in
    let next : also.0 ≡ read.0 = law old payload read.0 also.0 read.1 here in
    let down = one_stop law before other rest more read.0 a b rest_is read.2 (subst (λ (s : State). ReadsAll s other b) next also.2) stops ends in
    (ap₂ (λ (x : List ℕ) (l : List (List ℕ)). x ∷ l) (sym first) down.0, down.1)

nothing_behind : (xs : List (List ℕ)) → xs ++ [] ≡ xs
nothing_behind [] = refl
nothing_behind (x ∷ xs) = ap (λ l. x ∷ l) (nothing_behind xs)

-- how far the payloads of an image read
record ReadsTill (image : List ℕ) : Type 0 where
  before : List (List ℕ)
  rest : List (List ℕ)
  end : ℕ
  store : IsStore image (before ++ rest) end
  state : State
  read : ReadsAll nothing before state
  stops : Stops state rest

module _ (law : ReadsInOneWay) (text : Text) (image : List ℕ) where
  abbrev bad_till : (at : ℕ) → HasBadRecord image at → ReadsTill image
  bad_till at bad = record { before = bad.before; rest = bad.payload ∷ bad.rest; end = bad.end; store = bad.store; state = bad.state; read = bad.read; stops = bad.unread }

  abbrev stood_till : (state : State) (records : List (List ℕ)) (end : ℕ) → IsStore image records end → ReadsAll nothing records state → ReadsTill image
  stood_till state records end store read =
      record { before = records; rest = []; end = end; store = subst (λ l. IsStore image l end) (sym (nothing_behind records)) store; state = state; read = read; stops = tt }

  abbrev unfit_till : (at : ℕ) → HasUnfit text image at → ReadsTill image
  unfit_till at u = record { before = u.before; rest = u.rest; end = u.end; store = u.store; state = u.state; read = u.read; stops = u.stops }

  one_till : (a b : ReadsTill image) → (b.before ≡ a.before) × (b.state ≡ a.state)
  one_till a b =
      let whole : b.before ++ b.rest ≡ a.before ++ a.rest = (one_end image (a.before ++ a.rest) (b.before ++ b.rest) a.end b.end a.store b.store).0 in
      one_stop law a.before b.before a.rest b.rest nothing a.state b.state (sym whole) a.read b.read a.stops b.stops

  -- what counts doesn't both fit and not
  unfit_apart : (at : ℕ) → (u : HasUnfit text image at) (till : ReadsTill image) → NotedFit text till.state → ⊥
  unfit_apart at u till fit =
      let state : till.state ≡ u.state = (one_till (unfit_till at u) till).1 in
      let fits : NotedFit text u.state = subst (NotedFit text) state fit in
      not_all u.graph u.state.noted u.gates at u.first (fits u.graph u.spelled u.counted)

  unfit_same : GraphIsOne → (at other : ℕ) → (u : HasUnfit text image at) (v : HasUnfit text image other) → other ≡ at
  unfit_same graphs at other u v =
      let same = one_till (unfit_till at u) (unfit_till other v) in
      let graph : v.graph ≡ u.graph = graphs text u.graph v.graph u.spelled v.spelled in
      let gates : v.gates ≡ u.gates = one_gates (start_of image) u.before [] u.gates v.gates u.are (subst (λ l. AreGates (start_of image) l [] v.gates) same.0 v.are) in
      let first : FirstUnfit u.graph u.state.noted u.gates other =
      subst (λ g. FirstUnfit g u.state.noted u.gates other) graph
      (subst (λ (s : State). FirstUnfit v.graph s.noted u.gates other) same.1 (subst (λ l. FirstUnfit v.graph v.state.noted l other) gates v.first)) in
      one_unfit u.graph u.state.noted u.gates at other u.first first

  -- it fits, or there is one that doesn't
  fit_or : GraphIsOne → FittingIsTested → (g : Graph) → GraphText text g → (till : ReadsTill image) → NotedFit text till.state ⊎ ((at : ℕ) × HasUnfit text image at)
  fit_or graphs tested g spelled till = by (counts text till.state.graph) refl
    where
      by : (b : Bool) → counts text till.state.graph ≡ b → NotedFit text till.state ⊎ ((at : ℕ) × HasUnfit text image at)
      by false fails = inl (λ other reads holds. true_false (counts text till.state.graph) holds fails)
      by true holds =
          let found = gates_there (start_of image) till.before nothing till.state [] till.read refl in
          elim (unfit_or tested g till.state.noted found.0 found.2) [
            | inl all ↦ inl (λ other reads counted. subst (λ x. All (FactFits x) till.state.noted) (sym (graphs text g other spelled reads)) all)
            | inr first ↦ inr (
              first.0,
              record {
                before = till.before;
                rest = till.rest;
                end = till.end;
                store = till.store;
                state = till.state;
                read = till.read;
                stops = till.stops;
                graph = g;
                spelled = spelled;
                counted = holds;
                gates = found.0;
                are = found.1;
                first = first.1;
              },
            )
          ]

-- ---- one offset

-- nothing counts in a new file
new_fits : (text : Text) (records : List (List ℕ)) (state : State) → records ≡ [] → ReadsAll nothing records state → NotedFit text state
new_fits text records state none read g spelled holds =
    let empty : ReadsAll nothing [] state = subst (λ l. ReadsAll nothing l state) none read in
    true_false (counts text state.graph) holds (ap (λ (s : State). counts text s.graph) empty)

module _ (law : ReadsInOneWay) (stood : StandsForOne) (graphs : GraphIsOne) where
  stands_or : EachStandsOrNot → FittingIsTested → (text : Text) (g : Graph) → GraphText text g → (image : List ℕ) → ((state : State) × StandsFit text image state) ⊎ ((at : ℕ) × IsNotFor text image at)
  stands_or each tested text g spelled image = elim (each image) [ inl stands ↦ stood_for stands.0 stands.1 stands.1.stored | inr off ↦ off_at off.0 off.1 ]
    where
      stood_for : (state : State) (stands : Stands image state) → (IsNew image × (stands.records ≡ [])) ⊎ ((end : ℕ) × IsStore image stands.records end) → ((state : State) × StandsFit text image state) ⊎ ((at : ℕ) × IsNotFor text image at)
      stood_for state stands (inl new) = inl (state, (stands, new_fits text stands.records state new.1 stands.read))
      stood_for state stands (inr store) = elim (fit_or law text image graphs tested g spelled (stood_till law text image state stands.records store.0 store.1 stands.read)) [
        | inl fit ↦ inl (state, (stands, fit))
        | inr unfit ↦ inr (unfit.0, inr (inr unfit.1))
      ]

      off_at : (at : ℕ) → StandsNot image at → ((state : State) × StandsFit text image state) ⊎ ((at : ℕ) × IsNotFor text image at)
      off_at at (inl broken) = inr (at, inl broken)
      off_at at (inr bad) = elim (fit_or law text image graphs tested g spelled (bad_till law text image at bad)) [
        | inl fit ↦ inr (at, inr (inl (bad, fit)))
        | inr unfit ↦ inr (unfit.0, inr (inr unfit.1))
      ]

  apart : (text : Text) (image : List ℕ) (at : ℕ) (state : State) → IsNotFor text image at → ¬ StandsFit text image state
  apart text image at state (inl broken) (stands, fit) = no_records image at stands.records broken stands.stored
  apart text image at state (inr (inl bad)) (stands, fit) = stood.none image at state (inr bad.0) stands
  apart text image at state (inr (inr unfit)) (stands, fit) = by stands.stored
    where
      by : (IsNew image × (stands.records ≡ [])) ⊎ ((end : ℕ) × IsStore image stands.records end) → ⊥
      by (inl new) = new_or_written image new.0 unfit.store.written
      by (inr store) = unfit_apart law text image at unfit (stood_till law text image state stands.records store.0 store.1 stands.read) fit

  same : (text : Text) (image : List ℕ) (at other : ℕ) → IsNotFor text image at → IsNotFor text image other → other ≡ at
  same text image at other (inl broken) (inl also) = one_place image at other broken also
  same text image at other (inl broken) (inr (inl bad)) = absurd (no_records image at (bad.0.before ++ bad.0.payload ∷ bad.0.rest) broken (inr (bad.0.end, bad.0.store)))
  same text image at other (inl broken) (inr (inr unfit)) = absurd (no_records image at (unfit.before ++ unfit.rest) broken (inr (unfit.end, unfit.store)))
  same text image at other (inr (inl bad)) (inl broken) = absurd (no_records image other (bad.0.before ++ bad.0.payload ∷ bad.0.rest) broken (inr (bad.0.end, bad.0.store)))
  same text image at other (inr (inl bad)) (inr (inl also)) = stood.place image at other (inr bad.0) (inr also.0)
  same text image at other (inr (inl bad)) (inr (inr unfit)) = absurd (unfit_apart law text image other unfit (bad_till law text image at bad.0) bad.1)
  same text image at other (inr (inr unfit)) (inl broken) = absurd (no_records image other (unfit.before ++ unfit.rest) broken (inr (unfit.end, unfit.store)))
  same text image at other (inr (inr unfit)) (inr (inl bad)) = absurd (unfit_apart law text image at unfit (bad_till law text image other bad.0) bad.1)
  same text image at other (inr (inr unfit)) (inr (inr also)) = unfit_same law text image graphs at other unfit also

  pub one_offset : EachStandsOrNot → FittingIsTested → OneOffset
  one_offset each tested = record { one = stands_or each tested; apart = apart; same = same }
