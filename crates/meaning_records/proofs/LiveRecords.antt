-- A batch of records of nodes: the values that it brings, and how long the records are, whichever numbers their values have.
use Rattle.std.proofs.Common.{◌≡◌, inl, inr, ℕ, ◌+◌, List, [], ◌∷◌, ◌++◌, length, map, Option, Some, None, length-append, refl, sym, ap, ◌∙◌}
use Rattle.std.specs.List.{flat_map}
use Rattle.object_values.specs.declared.messages.Message.{Message}
use Rattle.object_values.specs.declared.nodes.Node.{Node as PlainNode}
use Rattle.object_values.specs.declared.facts.FactDep.{FactDep}
use Rattle.object_values.specs.declared.facts.Fresh.{Fresh}
use Rattle.object_values.specs.declared.views.Value.{Value}
use Rattle.meaning_texts.specs.Lists.{IsIn}
use Rattle.meaning_texts.proofs.Lemmas.{in_either, in_all}
use Rattle.object_values.specs.declared.items.StoredDep.{StoredDep}
use Rattle.object_values.specs.declared.items.StoredRecord.{StoredRecord}
use Rattle.object_values.specs.declared.items.Item.{Item}
use Rattle.object_values.specs.declared.items.Item.TheVariants.{Node}
use Rattle.meaning_records.specs.Forms.{number, list_of, option_of}
use Rattle.meaning_records.specs.Records.{status, node, message, dep, node_record, item}
use Rattle.meaning_records.specs.Tables.{IsNoContent, IsValueOf, AreDepsOf}
use Rattle.meaning_records.specs.Batches.{value_list, fact_values, needed_values, IsRecordOf, AreRecordsOf, IsNotesBatch}
use Rattle.meaning_records.specs.States.{spell_batch}
use Rattle.meaning_records.proofs.LiveContents.{HasValue, Brings, no_content}

-- ---- the values

value_has : (contents : List Value) (at : Option ℕ) (known : Option Value) → IsValueOf contents at known → (value : Value) → IsIn value (value_list known)
    → HasValue contents value
value_has contents None None is value there = absurd there
value_has contents None (Some known) is value there = let n : ⊥ = cc in absurd n
value_has contents (Some at) None is value there = absurd there
value_has contents (Some at) (Some known) is value (inl same) = (at, is ∙ ap Some (sym same))
value_has contents (Some at) (Some known) is value (inr none) = absurd none

deps_have : (contents : List Value) (reached : ℕ) (stored : List StoredDep) (deps : List FactDep) → AreDepsOf contents reached stored deps → (value : Value)
    → IsIn value (flat_map (λ (d : FactDep). value_list d.value) deps) → HasValue contents value
deps_have contents reached [] [] are value there = absurd there
deps_have contents reached [] (d ∷ deps) are value there = absurd are
deps_have contents reached (s ∷ stored) [] are value there = absurd are
deps_have contents reached (s ∷ stored) (d ∷ deps) are value there =
    elim (in_either value (value_list d.value) (flat_map (λ (e : FactDep). value_list e.value) deps) there) [
      | inl here ↦ value_has contents s.content d.value are.0.value value here
      | inr later ↦ deps_have contents reached stored deps are.1 value later
    ]

record_has : (contents : List Value) (stored : StoredRecord) (fresh : Fresh) → IsRecordOf contents stored fresh → (value : Value)
    → IsIn value (fact_values fresh.fact) → HasValue contents value
record_has contents stored fresh is value there =
    elim (in_either value (value_list fresh.fact.value) (flat_map (λ (d : FactDep). value_list d.value) fresh.fact.deps) there) [
      | inl own ↦ value_has contents stored.value fresh.fact.value is.says.value value own
      | inr of_dep ↦ deps_have contents stored.reached stored.deps fresh.fact.deps is.says.deps value of_dep
    ]

records_have : (contents : List Value) (stored : List StoredRecord) (fresh : List Fresh) → AreRecordsOf contents stored fresh → (value : Value)
    → IsIn value (needed_values fresh) → HasValue contents value
records_have contents [] [] are value there = absurd there
records_have contents [] (f ∷ fresh) are value there = absurd are
records_have contents (s ∷ stored) [] are value there = absurd are
records_have contents (s ∷ stored) (f ∷ fresh) are value there = elim (in_either value (fact_values f.fact) (needed_values fresh) there) [
  | inl here ↦ record_has contents s f are.0 value here
  | inr later ↦ records_have contents stored fresh are.1 value later
]

pub notes_bring : (contents : List Value) (fresh : List Fresh) (items : List Item) (batch : IsNotesBatch contents fresh items)
    → Brings contents (needed_values fresh) (map Node batch.stored) items
notes_bring contents fresh items batch = record {
  added = batch.added;
  once = batch.once;
  needed_are = λ v i. in_all (λ (u : Value). IsIn u (needed_values fresh)) batch.added batch.needed v i;
  new = λ v i. in_all (IsNoContent contents) batch.added batch.new v i;
  whole = λ v i. records_have (contents ++ batch.added) batch.stored fresh batch.records v i;
  none_last = no_content batch.stored;
  items_are = batch.items_are;
}

-- ---- their length

-- what is spelled of two things, one after the other
pub joined : (a b d e : List ℕ) → length a ≡ length b → length d ≡ length e → length (a ++ d) ≡ length (b ++ e)
joined a b d e first second =
    length-append a d ∙ ap (λ (n : ℕ). n + length d) first ∙ ap (λ (n : ℕ). length b + n) second ∙ sym (length-append b e)

value_long : (a b : List Value) (m n : Option ℕ) (value : Option Value) → IsValueOf a m value → IsValueOf b n value
    → length ((option_of number).spell m) ≡ length ((option_of number).spell n)
value_long a b None None value p q = refl
value_long a b None (Some n) None p q = absurd q
value_long a b None (Some n) (Some v) p q = let no : Some v ≡ None = p in let never : ⊥ = cc in absurd never
value_long a b (Some m) None None p q = absurd p
value_long a b (Some m) None (Some v) p q = let no : Some v ≡ None = q in let never : ⊥ = cc in absurd never
value_long a b (Some m) (Some n) value p q = refl

deps_long : (a b : List Value) (k l : ℕ) (s t : List StoredDep) (deps : List FactDep) → AreDepsOf a k s deps → AreDepsOf b l t deps
    → length (flat_map dep.spell s) ≡ length (flat_map dep.spell t)
deps_long a b k l [] [] deps p q = refl
deps_long a b k l [] (y ∷ t) [] p q = absurd q
deps_long a b k l [] (y ∷ t) (d ∷ deps) p q = absurd p
deps_long a b k l (x ∷ s) [] [] p q = absurd p
deps_long a b k l (x ∷ s) [] (d ∷ deps) p q = absurd q
deps_long a b k l (x ∷ s) (y ∷ t) [] p q = absurd p
deps_long a b k l (x ∷ s) (y ∷ t) (d ∷ deps) p q =
    joined (dep.spell x) (dep.spell y) (flat_map dep.spell s) (flat_map dep.spell t)
    (joined (node.spell x.node) (node.spell y.node) ((option_of number).spell x.content) ((option_of number).spell y.content)
    (ap (λ (n : PlainNode). length (node.spell n)) (sym p.0.node ∙ q.0.node))
    (value_long a b x.content y.content d.value p.0.value q.0.value))
    (deps_long a b k l s t deps p.1 q.1)

record_long : (a b : List Value) (s t : StoredRecord) (f : Fresh) → IsRecordOf a s f → IsRecordOf b t f
    → length (node_record.spell s) ≡ length (node_record.spell t)
record_long a b s t f p q =
    let s_height = number.spell s.height in
    let t_height = number.spell t.height in
    let s_messages = (list_of message).spell s.messages ++ s_height in
    let t_messages = (list_of message).spell t.messages ++ t_height in
    let s_status = status.spell s.status ++ s_messages in
    let t_status = status.spell t.status ++ t_messages in
    let s_own = (list_of message).spell s.own_messages ++ s_status in
    let t_own = (list_of message).spell t.own_messages ++ t_status in
    let s_own_status = status.spell s.own_status ++ s_own in
    let t_own_status = status.spell t.own_status ++ t_own in
    let s_value = (option_of number).spell s.value ++ s_own_status in
    let t_value = (option_of number).spell t.value ++ t_own_status in
    let s_reached = number.spell s.reached ++ s_value in
    let t_reached = number.spell t.reached ++ t_value in
    let s_deps = (list_of dep).spell s.deps in
    let t_deps = (list_of dep).spell t.deps in
    let long_messages : length s_messages ≡ length t_messages =
    joined ((list_of message).spell s.messages) ((list_of message).spell t.messages) s_height t_height
    (ap (λ (l : List Message). length ((list_of message).spell l)) (p.messages ∙ sym q.messages)) refl in
    let long_status : length s_status ≡ length t_status = joined (status.spell s.status) (status.spell t.status) s_messages t_messages refl long_messages in
    let long_own : length s_own ≡ length t_own =
    joined ((list_of message).spell s.own_messages) ((list_of message).spell t.own_messages) s_status t_status
    (ap (λ (l : List Message). length ((list_of message).spell l)) (sym p.says.own_messages ∙ q.says.own_messages)) long_status in
    let long_own_status : length s_own_status ≡ length t_own_status =
    joined (status.spell s.own_status) (status.spell t.own_status) s_own t_own refl long_own in
    let long_value : length s_value ≡ length t_value =
    joined ((option_of number).spell s.value) ((option_of number).spell t.value) s_own_status t_own_status
    (value_long a b s.value t.value f.fact.value p.says.value q.says.value) long_own_status in
    let long_reached : length s_reached ≡ length t_reached = joined (number.spell s.reached) (number.spell t.reached) s_value t_value refl long_value in
    let long_deps : length s_deps ≡ length t_deps =
    joined (number.spell (length s.deps)) (number.spell (length t.deps)) (flat_map dep.spell s.deps) (flat_map dep.spell t.deps) refl
    (deps_long a b s.reached t.reached s.deps t.deps f.fact.deps p.says.deps q.says.deps) in
    joined (node.spell s.node) (node.spell t.node) (s_deps ++ s_reached) (t_deps ++ t_reached)
    (ap (λ (n : PlainNode). length (node.spell n)) (sym p.says.node ∙ q.says.node)) (joined s_deps t_deps s_reached t_reached long_deps long_reached)

-- records one after another
pub records_long : (a b : List Value) (s t : List StoredRecord) (fresh : List Fresh) → AreRecordsOf a s fresh → AreRecordsOf b t fresh
    → length (spell_batch (map Node s)) ≡ length (spell_batch (map Node t))
records_long a b [] [] fresh p q = refl
records_long a b [] (y ∷ t) [] p q = absurd q
records_long a b [] (y ∷ t) (f ∷ fresh) p q = absurd p
records_long a b (x ∷ s) [] [] p q = absurd p
records_long a b (x ∷ s) [] (f ∷ fresh) p q = absurd q
records_long a b (x ∷ s) (y ∷ t) [] p q = absurd p
records_long a b (x ∷ s) (y ∷ t) (f ∷ fresh) p q =
    joined (item.spell (Node x)) (item.spell (Node y)) (spell_batch (map Node s)) (spell_batch (map Node t))
    (joined (6 ∷ []) (6 ∷ []) (node_record.spell x) (node_record.spell y) refl (record_long a b x y f p.0 q.0)) (records_long a b s t fresh p.1 q.1)
