-- The nodes that a walk has looked at, and what its looks come to.
use Rattle.std.proofs.Common.{◌≡◌, ◌≢◌, ℕ, ◌≤◌, Bool, true, false, cond, List, [], ◌∷◌, ◌⊎◌, inl, inr, length, sym, ap, ◌∙◌, subst, refl, arith}
use Rattle.std.specs.Prelude.{Option, Some, IsSome, is_some}
use Rattle.std.proofs.lemmas.List.{length-map}
use Rattle.object_values.specs.declared.nodes.Step.{Step}
use Rattle.object_values.specs.declared.nodes.Node.{Node}
use Rattle.object_values.specs.contracts.nodes.NodePartialEq.TheImpl.{ghosts as node_eq}
use Rattle.object_values.specs.Exact.{node_exact}
use Rattle.object_values.specs.declared.views.View.{View}
use Rattle.meaning_texts.specs.Lists.{IsIn}
use Rattle.meaning_texts.proofs.Lemmas.{value_of_some}
use Rattle.meaning_graph.specs.Graphs.{Graph}
use Rattle.meaning_derive.specs.Derive.{Sources, Outcomes}
use Rattle.meaning_derive.specs.Chains.{AreDifferent}
use Rattle.meaning_derive.specs.Laws.{HasMore}
use Rattle.meaning_true.specs.Knowing.{KeptRecords, Knows, IsChecked, MayLook, the_root, a_need, LooksAreCounted}
use Rattle.derive_walk.specs.declared.found.Found.TheVariants.{Answer}
use Rattle.derive_walk.specs.Tables.{Entries, done_in}
use Rattle.derive_walk.specs.Places.{Lookups, looked_nodes, place_in}
use Rattle.derive_walk.specs.Looks.{TakesLooks, HasLookedAt, AllAreLookedAt, LooksAreWithin, LooksAreDeep, looks_by, look_beyond, looks_beyond, one_if}
use Rattle.derive_walk.specs.Walks.{Walked, IsRight, IsPlacedIn}
use Rattle.derive_walk.specs.Worlds.{World, seen_in, IsNeedIn}
use Rattle.derive_walk.proofs.SourceSettles.{source_needs_none}
use Rattle.derive_walk.proofs.Stays.{may_stays, takes_stay}

-- ---- lookups

first_or_below : (e : Node × Option ℕ) (looked : Lookups) (n : Node) → (IsSome (place_in looked n) → IsIn n (looked_nodes looked))
    → (b : Bool) → node_eq.eq n e.0 ≡ b → IsSome (cond b (Some e.1) (place_in looked n)) → IsIn n (looked_nodes (e ∷ looked))
first_or_below e looked n below true same there = inl ((node_exact n e.0).0 same)
first_or_below e looked n below false same there = inr (below there)

-- a node that was looked up is one of them
pub placed_is_in : (looked : Lookups) (n : Node) → IsSome (place_in looked n) → IsIn n (looked_nodes looked)
placed_is_in [] n there = cc
placed_is_in (e ∷ looked) n there = first_or_below e looked n (placed_is_in looked n) (node_eq.eq n e.0) refl there

first_or_later : (e : Node × Option ℕ) (looked : Lookups) (n : Node) → (IsIn n (looked_nodes looked) → IsSome (place_in looked n))
    → (b : Bool) → node_eq.eq n e.0 ≡ b → IsIn n (looked_nodes (e ∷ looked)) → IsSome (cond b (Some e.1) (place_in looked n))
first_or_later e looked n below true same i = refl
first_or_later e looked n below false same (inl is) = let yes : node_eq.eq n e.0 ≡ true = (node_exact n e.0).1 is in cc
first_or_later e looked n below false same (inr i) = below i

-- and each of them was looked up
pub in_is_placed : (looked : Lookups) (n : Node) → IsIn n (looked_nodes looked) → IsSome (place_in looked n)
in_is_placed [] n i = absurd i
in_is_placed (e ∷ looked) n i = first_or_later e looked n (in_is_placed looked n) (node_eq.eq n e.0) refl i

-- ---- a walk that is right

pub looked_at : (w : World) (walked : Walked) → IsRight w walked → HasLookedAt w walked
looked_at w walked right = record {
  different = right.looked.different;
  stepped = right.looked.stepped;
  may = right.may;
  once = right.taken.once;
  among = λ n i. let is = right.taken.each n i in (is.looked, is.takes);
}

-- it is a source, or has a result
abbrev IsOver : Entries → Node → Type 0
IsOver done n = (n.steps ≡ []) ⊎ IsSome (done_in done n)

root_over : (done : Entries) (root : Node) → (root.steps ≢ [] → IsSome (done_in done root)) → (steps : List Step) → root.steps ≡ steps → IsOver done root
root_over done root placed [] is = inl is
root_over done root placed (step ∷ steps) is = inr (placed (λ none. let z : step ∷ steps ≡ [] = sym is ∙ none in cc))

module _ (w : World) (walked : Walked) (right : IsRight w walked) (root : IsOver walked.done walked.root) where
  need_over : (n m : Node) → ¬ IsChecked w.records n → IsNeedIn w n m → IsOver walked.done n → IsOver walked.done m
  need_over n m unchecked need (inl none) = absurd (source_needs_none w n (seen_in w) m none need)
  need_over n m unchecked need (inr there) =
      let d = value_of_some (done_in walked.done n) there in
      elim (right.done.needs n d.0 d.1) [ inl checked ↦ absurd (unchecked checked) | inr each ↦ inr (each m need) ]

  -- all that may be looked at has ended
  may_over : (n : Node) → MayLook w.graph w.sources w.outcomes w.records walked.root n → IsOver walked.done n
  may_over n the_root = root
  may_over n (a_need m k may unchecked need) = need_over m k unchecked need (may_over m may)

  over_looked : (n : Node) → n.steps ≢ [] → IsOver walked.done n → IsIn n (looked_nodes walked.looked)
  over_looked n stepped (inl none) = absurd (stepped none)
  over_looked n stepped (inr there) = placed_is_in walked.looked n (right.looked.done n there stepped)

pub all_looked : (w : World) (walked : Walked) → IsRight w walked → IsPlacedIn walked.root walked.done walked.result
    → (view : View) → walked.result ≡ Some (Answer view) → AllAreLookedAt w walked
all_looked w walked right placed view found n may stepped =
    let root = root_over walked.done walked.root (placed view found) walked.root.steps refl in
    over_looked w walked right root n stepped (may_over w walked right root n may)

-- ---- the nodes of a chain that weren't looked at

-- the nodes of the chain with steps that are none of those that were looked at
record HasBeyond (looked : Lookups) (chain : List Node) : Type 0 where
  nodes : List Node
  different : AreDifferent nodes
  stepped : (n : Node) → IsIn n nodes → n.steps ≢ []
  among : (n : Node) → IsIn n nodes → IsIn n chain
  apart : (n : Node) → IsIn n nodes → IsIn n (looked_nodes looked) → ⊥
  many : length nodes ≡ looks_beyond looked chain

not_beyond : (looked : Lookups) (n : Node) (chain : List Node) → look_beyond looked n ≡ 0 → HasBeyond looked chain → HasBeyond looked (n ∷ chain)
not_beyond looked n chain none have = record {
  nodes = have.nodes;
  different = have.different;
  stepped = have.stepped;
  among = λ m i. inr (have.among m i);
  apart = have.apart;
  many = omega (arith, have.many, none);
}

is_beyond : (looked : Lookups) (n : Node) (chain : List Node) → n.steps ≢ [] → (IsIn n (looked_nodes looked) → ⊥) → look_beyond looked n ≡ 1
    → (IsIn n chain → ⊥) → HasBeyond looked chain → HasBeyond looked (n ∷ chain)
is_beyond looked n chain stepped apart one new have = record {
  nodes = n ∷ have.nodes;
  different = (λ i. new (have.among n i), have.different);
  stepped = λ m i. elim i [ inl e ↦ subst (λ z. z.steps ≢ []) (sym e) stepped | inr j ↦ have.stepped m j ];
  among = λ m i. elim i [ inl e ↦ inl e | inr j ↦ inr (have.among m j) ];
  apart = λ m i. elim i [ inl e ↦ subst (λ z. IsIn z (looked_nodes looked) → ⊥) (sym e) apart | inr j ↦ have.apart m j ];
  many = omega (arith, have.many, one);
}

one_beyond : (looked : Lookups) (n : Node) (chain : List Node) → (IsIn n chain → ⊥) → HasBeyond looked chain
    → (b : Bool) → is_some (place_in looked n) ≡ b → (steps : List Step) → n.steps ≡ steps → HasBeyond looked (n ∷ chain)
one_beyond looked n chain new have true there steps is = not_beyond looked n chain (ap (λ b. cond b 0 (one_if n.steps)) there) have
one_beyond looked n chain new have false there [] is = not_beyond looked n chain (ap (λ b. cond b 0 (one_if n.steps)) there ∙ ap one_if is) have
one_beyond looked n chain new have false there (step ∷ steps) is =
    is_beyond looked n chain
    (λ none. let z : step ∷ steps ≡ [] = sym is ∙ none in cc)
    (λ i. let z : is_some (place_in looked n) ≡ true = in_is_placed looked n i in cc)
    (ap (λ b. cond b 0 (one_if n.steps)) there ∙ ap one_if is)
    new have

has_beyond : (looked : Lookups) (chain : List Node) → AreDifferent chain → HasBeyond looked chain
has_beyond looked [] different = record {
  nodes = [];
  different = tt;
  stepped = λ n i. absurd i;
  among = λ n i. i;
  apart = λ n i j. i;
  many = refl;
}
has_beyond looked (n ∷ chain) different =
    one_beyond looked n chain different.0 (has_beyond looked chain different.1) (is_some (place_in looked n)) refl n.steps refl

one_look : (steps : List Step) → one_if steps ≤ 1
one_look [] = omega arith
one_look (step ∷ steps) = omega arith

one_or_none : (b : Bool) (steps : List Step) → cond b 0 (one_if steps) ≤ 1
one_or_none true steps = omega arith
one_or_none false steps = one_look steps

pub one_at_most : (looked : Lookups) (n : Node) → look_beyond looked n ≤ 1
one_at_most looked n = one_or_none (is_some (place_in looked n)) n.steps

pub deep_is_few : (looked : Lookups) (chain : List Node) → looks_beyond looked chain ≤ length chain
deep_is_few looked [] = omega arith
deep_is_few looked (n ∷ chain) = omega (arith, deep_is_few looked chain, one_at_most looked n)

-- ---- the looks of a walk

module _ (w : World) (walked : Walked) (has : HasLookedAt w walked) where
  abbrev within : (first last spare : ℕ) → TakesLooks 0 (looks_by walked) first last spare
      → LooksAreWithin w.graph w.sources w.outcomes w.records walked.root first last spare
  within first last spare takes = record {
    looked = looked_nodes walked.looked;
    different = has.different;
    stepped = has.stepped;
    may = has.may;
    taken = walked.taken;
    once = has.once;
    among = has.among;
    least = omega (arith, takes.least, length-map walked.looked (λ e. e.0));
    most = omega (arith, takes.most, length-map walked.looked (λ e. e.0));
  }

  pub looks_within : (first last spare : ℕ) → TakesLooks 0 (looks_by walked) first last spare
      → LooksAreWithin w.graph w.sources w.outcomes w.records walked.root first last spare
  looks_within = within

  pub looks_counted : AllAreLookedAt w walked → (first last : ℕ) → TakesLooks 0 (looks_by walked) first last 0
      → LooksAreCounted w.graph w.sources w.outcomes w.records walked.root first last
  looks_counted all first last takes = record {
    looked = looked_nodes walked.looked;
    different = has.different;
    stepped = has.stepped;
    may = has.may;
    all = all;
    taken = walked.taken;
    once = has.once;
    among = has.among;
    least = omega (arith, takes.least, length-map walked.looked (λ e. e.0));
    most = omega (arith, takes.most, length-map walked.looked (λ e. e.0));
  }

  pub looks_deep : (chain : List Node) → AreDifferent chain → (first last : ℕ) → TakesLooks 0 (looks_by walked) first last (looks_beyond walked.looked chain)
      → LooksAreDeep w.graph w.sources w.outcomes w.records walked.root chain first last
  looks_deep chain different first last takes =
      let beyond = has_beyond walked.looked chain different in
      record {
        beyond = beyond.nodes;
        different = beyond.different;
        stepped = beyond.stepped;
        among = beyond.among;
        looks = within first last (length beyond.nodes) (subst (λ spare. TakesLooks 0 (looks_by walked) first last spare) (sym beyond.many) takes);
        apart = beyond.apart;
      }

-- ---- what stays of looks

pub looks_wider : (g : Graph) (s : Sources) (outcomes : Outcomes) (records : KeptRecords) (root : Node) (first last spare wider : ℕ) → spare ≤ wider
    → LooksAreWithin g s outcomes records root first last spare → LooksAreWithin g s outcomes records root first last wider
looks_wider g s outcomes records root first last spare wider le looks = record {
  looked = looks.looked;
  different = looks.different;
  stepped = looks.stepped;
  may = looks.may;
  taken = looks.taken;
  once = looks.once;
  among = looks.among;
  least = looks.least;
  most = omega (arith, looks.most, le);
}

module _ (g : Graph) (s : Sources) (outcomes more : Outcomes) (has : HasMore outcomes more) (records : KeptRecords) (knows : Knows g s outcomes records) (root : Node) (first last : ℕ) where
  abbrev later : (spare : ℕ) → LooksAreWithin g s outcomes records root first last spare → LooksAreWithin g s more records root first last spare
  later spare looks = record {
    looked = looks.looked;
    different = looks.different;
    stepped = looks.stepped;
    may = λ n i. may_stays g s outcomes more has records root n (looks.may n i);
    taken = looks.taken;
    once = looks.once;
    among = λ n i. let is = looks.among n i in (is.0, takes_stay g s outcomes more has records knows n is.1);
    least = looks.least;
    most = looks.most;
  }

  -- looks that were counted still stand as more outcomes come
  pub looks_later : (spare : ℕ) → LooksAreWithin g s outcomes records root first last spare → LooksAreWithin g s more records root first last spare
  looks_later = later

  pub deep_later : (chain : List Node) → LooksAreDeep g s outcomes records root chain first last → LooksAreDeep g s more records root chain first last
  deep_later chain deep = record {
    beyond = deep.beyond;
    different = deep.different;
    stepped = deep.stepped;
    among = deep.among;
    looks = later (length deep.beyond) deep.looks;
    apart = deep.apart;
  }
