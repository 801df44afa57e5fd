-- What stands of a node was noted since the last graph.
use Rattle.std.proofs.Common.{◌≡◌, ◌⊎◌, inl, inr, ℕ, Bool, true, false, cond, List, [], ◌∷◌, ◌++◌, All, sym, ap, subst, ◌∙◌}
use Rattle.object_values.specs.contracts.nodes.NodePartialEq.TheImpl.{ghosts as node_eq}
use Rattle.object_values.specs.declared.facts.Fact.{Fact}
use Rattle.meaning_texts.specs.Lists.{IsIn}
use Rattle.meaning_texts.proofs.Lemmas.{in_left, in_right, all_in}
use Rattle.object_values.specs.declared.items.Item.{Item}
use Rattle.object_values.specs.declared.items.Item.TheVariants.{Graph, Content, Put, Dropped, Kept, Node}
use Rattle.meaning_records.specs.Tables.{Tables, put_fact}
use Rattle.meaning_records.specs.States.{State, nothing, TakesOne, TakesAll, ReadsAll}
use Rattle.meaning_records.proofs.Facts.{one_fact}

-- each of the first facts is one of the others
abbrev AreOf : List Fact → List Fact → Type 0
AreOf records all = (fact : Fact) → IsIn fact records → IsIn fact all

abbrev AreNoted : State → Type 0
AreNoted state = AreOf state.tables.records state.noted

-- what stands once a fact is put is this one, or stood before
put_by : (fact other : Fact) (f : Fact) (facts : List Fact) (same : Bool) → (IsIn other (put_fact fact facts) → (other ≡ fact) ⊎ IsIn other facts)
    → IsIn other (cond same (fact ∷ facts) (f ∷ put_fact fact facts)) → (other ≡ fact) ⊎ IsIn other (f ∷ facts)
put_by fact other f facts true rest (inl is) = inl is
put_by fact other f facts true rest (inr there) = inr (inr there)
put_by fact other f facts false rest (inl is) = inr (inl is)
put_by fact other f facts false rest (inr there) = elim (rest there) [ inl is ↦ inl is | inr before ↦ inr (inr before) ]

from_put : (fact other : Fact) (facts : List Fact) → IsIn other (put_fact fact facts) → (other ≡ fact) ⊎ IsIn other facts
from_put fact other [] there = elim there [ inl is ↦ inl is | inr none ↦ absurd none ]
from_put fact other (f ∷ facts) there = put_by fact other f facts (node_eq.eq fact.node f.node) (from_put fact other facts) there

put_noted : (fact : Fact) (records all : List Fact) → AreOf records all → AreOf (put_fact fact records) (all ++ fact ∷ [])
put_noted fact records all are other there = elim (from_put fact other records there) [
  | inl is ↦ in_right other all (fact ∷ []) (inl is)
  | inr before ↦ in_left other all (fact ∷ []) (are other before)
]

-- ---- items

-- where both are as they were, or other than they were
moved : (records all new_records new_all : List Fact) → new_records ≡ records → new_all ≡ all → AreOf records all → AreOf new_records new_all
moved records all new_records new_all same_records same_all are =
    subst (λ (l : List Fact). AreOf new_records l) (sym same_all) (subst (λ (l : List Fact). AreOf l all) (sym same_records) are)

records_of : Tables → List Fact
records_of tables = tables.records

item_noted : (old : State) (it : Item) (new : State) → TakesOne old it new → AreNoted old → AreNoted new
unfolding records_of
item_noted old (Graph text) new is are = moved [] [] new.tables.records new.noted (ap records_of is.loads) is.noted (λ fact there. there)
item_noted old (Content value) new is are = moved old.tables.records old.noted new.tables.records new.noted (ap records_of is.loads.1) is.noted are
item_noted old (Put name number) new is are = moved old.tables.records old.noted new.tables.records new.noted (ap records_of is.loads.2) is.noted are
item_noted old (Dropped name) new is are = moved old.tables.records old.noted new.tables.records new.noted (ap records_of is.loads.1) is.noted are
item_noted old (Kept stored given) new is are = moved old.tables.records old.noted new.tables.records new.noted (ap records_of is.loads.3) is.noted are
item_noted old (Node stored) new is are =
    let fact = is.loads.0 in
    let same : is.noted.0 ≡ fact = one_fact old.tables.contents stored is.noted.0 fact is.noted.1 is.loads.1.says in
    moved (put_fact fact old.tables.records) (old.noted ++ fact ∷ []) new.tables.records new.noted (ap records_of is.loads.2)
    (is.noted.2 ∙ ap (λ (f : Fact). old.noted ++ f ∷ []) same) (put_noted fact old.tables.records old.noted are)

-- ---- batches and payloads

all_noted : (items : List Item) (old new : State) → TakesAll old items new → AreNoted old → AreNoted new
all_noted [] old new is are = subst AreNoted (sym is) are
all_noted (it ∷ items) old new is are = all_noted items is.0 new is.2 (item_noted old it is.0 is.1 are)

read_noted : (payloads : List (List ℕ)) (old new : State) → ReadsAll old payloads new → AreNoted old → AreNoted new
read_noted [] old new is are = subst AreNoted (sym is) are
read_noted (payload ∷ payloads) old new is are = read_noted payloads is.0 new is.2 (all_noted is.1.items old is.0 is.1.taken are)

pub last_noted : (payloads : List (List ℕ)) (state : State) → ReadsAll nothing payloads state
    → All (λ (fact : Fact). IsIn fact state.noted) state.tables.records
last_noted payloads state is =
    all_in (λ (fact : Fact). IsIn fact state.noted) state.tables.records (read_noted payloads nothing state is (λ fact there. there))
