-- The loading of records from the back of a list that was turned over.
use Rattle.std.proofs.Common.{◌≡◌, ◌⊎◌, inl, inr, ℕ, ◌+◌, ◌<◌, true, List, [], ◌∷◌, ◌++◌, length, All, take, get_or, Option, Some, None, refl, sym, ap, subst, ◌∙◌, arith, append_assoc}
use Rattle.std.specs.Prelude.{unwrap_or}
use mathlib.Core.List.{reverse}
use Rattle.std.proofs.lemmas.List.{take_more, reverse-append, reverse-reverse}
use Rattle.object_values.specs.Texts.{Text}
use Rattle.meaning_graph.specs.Graphs.{Graph}
use Rattle.meaning_records.specs.Images.{gate_after}
use Rattle.meaning_records.specs.Stands.{gate_behind}
use Rattle.meaning_records.specs.States.{nothing, ReadsAll}
use Rattle.validator.specs.Fitting.{FactFits}
use Rattle.odin_store.specs.declared.loading.Loading.{Loading}
use Rattle.odin_store.specs.Held.{counts}
use Rattle.odin_store.specs.Offsets.{AreGates, FirstUnfit, Stops}
use Rattle.odin_store.specs.Loading.{Past, no_past, IsPast, IsForSame, TellsUnfit, Loads, LoadsNot, HasRead, HeldFit, RecordBreaksAt, RecordUnfitAt, StaysUnchecked, records_size, state_of}
use Rattle.odin_store.specs.Stamps.{AreUnchecked}
use Rattle.odin_store.proofs.LoadLemmas.{reads_on}
use Rattle.odin_store.proofs.WrittenLemmas.{gate-append}

nothing_behind : (xs : List (List ℕ)) → xs ++ [] ≡ xs
nothing_behind [] = refl
nothing_behind (x ∷ xs) = ap (λ l. x ∷ l) (nothing_behind xs)

-- ---- how long they are

pub size-append : (some more : List (List ℕ)) → records_size (some ++ more) ≡ records_size some + records_size more
size-append [] more = omega arith
size-append (payload ∷ some) more = omega (arith, size-append some more)

pub size_more : (records : List (List ℕ)) (i : ℕ) (d : List ℕ) → i < length records → records_size (take (i + 1) records) ≡ records_size (take i records) + (5 + length (get_or records i d))
size_more records i d inside = ap records_size (take_more records i d inside) ∙ omega (arith, size-append (take i records) (get_or records i d ∷ []))

-- ---- gates

gates_on : (gate : ℕ) (before more : List (List ℕ)) (old mid new : List ℕ) → AreGates gate before old mid → AreGates (gate_behind gate before) more mid new → AreGates gate (before ++ more) old new
gates_on gate [] more old mid new first then_ = subst (λ l. AreGates gate more l new) first then_
gates_on gate (payload ∷ before) more old mid new (items, fit, is, rest) then_ = (items, fit, is, gates_on (gate_after gate payload) before more _ mid new rest then_)

-- ---- what was loaded

-- the records before those that are left make this of nothing
pub record HasLoaded (g : Graph) (text : Text) (start : ℕ) (records left : List (List ℕ)) (now : Loading) : Type 0 where
  pub before : List (List ℕ)
  pub whole : records ≡ before ++ reverse left
  pub graph_is : now.graph.now ≡ g
  pub text_is : now.text.now ≡ text
  pub past : Past
  pub read : ReadsAll nothing before (state_of now past)
  pub is : IsPast now past
  pub gates : AreGates start before [] past.gates
  pub gate : now.gate ≡ gate_behind start before
  pub unchecked : AreUnchecked now.kept.records.records
  pub fit : HeldFit now

pub none_loaded : (g : Graph) (text : Text) (start : ℕ) (records left : List (List ℕ)) (now : Loading) → left ≡ reverse records → now.graph.now ≡ g → now.text.now ≡ text
    → state_of now no_past ≡ nothing → IsPast now no_past → now.gate ≡ start → AreUnchecked now.kept.records.records → HeldFit now → HasLoaded g text start records left now
none_loaded g text start records left now turned graph_is text_is new is gate unchecked fit = record {
  before = [];
  whole = sym (ap reverse turned ∙ reverse-reverse records);
  graph_is = graph_is;
  text_is = text_is;
  past = no_past;
  read = new;
  is = is;
  gates = refl;
  gate = gate;
  unchecked = unchecked;
  fit = fit;
}

last_first : (rest : List (List ℕ)) (payload : List ℕ) → reverse (rest ++ payload ∷ []) ≡ payload ∷ reverse rest
last_first rest payload = reverse-append rest (payload ∷ [])

module _ (g : Graph) (text : Text) (start : ℕ) (records left : List (List ℕ)) (now : Loading) (loaded : HasLoaded g text start records left now) where
  pub more_loaded : (rest : List (List ℕ)) (payload : List ℕ) (next : Loading) → left ≡ rest ++ payload ∷ [] → IsForSame now next → next.gate ≡ gate_after now.gate payload → Loads payload now next → StaysUnchecked now next → HeldFit next → HasLoaded g text start records rest next
  more_loaded rest payload next is same gate loads stays held =
      let on = loads loaded.past loaded.is in
      record {
        before = loaded.before ++ payload ∷ [];
        whole = loaded.whole ∙ ap (λ l. loaded.before ++ l) (ap reverse is ∙ last_first rest payload) ∙ sym (append_assoc loaded.before (payload ∷ []) (reverse rest));
        graph_is = same.graph ∙ loaded.graph_is;
        text_is = same.text ∙ loaded.text_is;
        past = on.next;
        read = reads_on loaded.before payload nothing (state_of now loaded.past) (state_of next on.next) loaded.read on.reads;
        is = on.is;
        gates = gates_on start loaded.before (payload ∷ []) [] loaded.past.gates on.next.gates loaded.gates (subst (λ n. AreGates n (payload ∷ []) loaded.past.gates on.next.gates) loaded.gate on.gates);
        gate = gate ∙ ap (λ n. gate_after n payload) loaded.gate ∙ sym (gate-append start loaded.before (payload ∷ []));
        unchecked = stays loaded.unchecked;
        fit = held;
      }

  -- what counts fits
  fits : ((past : Past) → IsPast now past → TellsUnfit now None past) → counts text loaded.past.last ≡ true → All (FactFits g) loaded.past.noted
  fits told counted = subst (λ x. All (FactFits x) loaded.past.noted) loaded.graph_is (told loaded.past loaded.is (subst (λ t. counts t loaded.past.last ≡ true) (sym loaded.text_is) counted))

  pub all_loaded : left ≡ [] → ((past : Past) → IsPast now past → TellsUnfit now None past) → HasRead g text records now
  all_loaded none told = record {
    graph_is = loaded.graph_is;
    text_is = loaded.text_is;
    past = loaded.past;
    read = subst (λ l. ReadsAll nothing l (state_of now loaded.past)) (sym (loaded.whole ∙ ap (λ l. loaded.before ++ reverse l) none ∙ nothing_behind loaded.before)) loaded.read;
    is = loaded.is;
    fit = fits told;
    unchecked = loaded.unchecked;
  }

  -- the first that doesn't fit
  unfit_at : (at : ℕ) (rest : List (List ℕ)) → reverse left ≡ rest → Stops (state_of now loaded.past) rest → ((past : Past) → IsPast now past → TellsUnfit now (Some at) past) → RecordUnfitAt g text records start at
  unfit_at at rest is stops told =
      let unfit = told loaded.past loaded.is in
      record {
        before = loaded.before;
        rest = rest;
        whole = loaded.whole ∙ ap (λ l. loaded.before ++ l) is;
        state = state_of now loaded.past;
        read = loaded.read;
        stops = stops;
        counted = subst (λ t. counts t loaded.past.last ≡ true) loaded.text_is unfit.0;
        gates = loaded.past.gates;
        are = loaded.gates;
        first = subst (λ x. FirstUnfit x loaded.past.noted loaded.past.gates at) loaded.graph_is unfit.1;
      }

  pub all_unfit : (at : ℕ) → left ≡ [] → ((past : Past) → IsPast now past → TellsUnfit now (Some at) past) → RecordUnfitAt g text records start at
  all_unfit at none told = unfit_at at [] (ap reverse none) tt told

  -- the first that doesn't read, or one before it that doesn't fit
  pub breaks_there : (rest : List (List ℕ)) (payload : List ℕ) (unfit : Option ℕ) → left ≡ rest ++ payload ∷ [] → LoadsNot payload now → ((past : Past) → IsPast now past → TellsUnfit now unfit past)
      → RecordBreaksAt g text records start (unwrap_or unfit now.gate) ⊎ RecordUnfitAt g text records start (unwrap_or unfit now.gate)
  breaks_there rest payload None is unread told = inl (record {
    before = loaded.before;
    payload = payload;
    rest = reverse rest;
    whole = loaded.whole ∙ ap (λ l. loaded.before ++ l) (ap reverse is ∙ last_first rest payload);
    state = state_of now loaded.past;
    read = loaded.read;
    unread = unread loaded.past loaded.is;
    fit = fits told;
    place = loaded.gate;
  })
  breaks_there rest payload (Some at) is unread told = inr (unfit_at at (payload ∷ reverse rest) (ap reverse is ∙ last_first rest payload) (unread loaded.past loaded.is) told)
