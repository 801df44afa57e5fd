-- What a batch of records of nodes writes: its contents and its records.
use Rattle.std.proofs.Common.{◌≡◌, ℕ, zero, suc, List, [], ◌∷◌, ◌++◌, length, map, Option, Some, All, refl, sym, ap, ap₂, subst, arith}
use Rattle.object_values.specs.declared.facts.Fresh.{Fresh}
use Rattle.object_values.specs.declared.views.Value.{Value}
use Rattle.object_values.specs.declared.views.Value.TheVariants.{Simple}
use Rattle.object_values.specs.Texts.{Text}
use Rattle.meaning_texts.specs.Lists.{IsIn}
use Rattle.object_values.specs.declared.items.StoredRecord.{StoredRecord}
use Rattle.object_values.specs.declared.items.Item.{Item}
use Rattle.object_values.specs.declared.items.Item.TheVariants.{Content, Node}
use Rattle.meaning_records.specs.Tables.{IsNoContent}
use Rattle.meaning_records.specs.Batches.{needed_values, AreRecordsOf, EachOnce, IsNotesBatch}
use Rattle.meaning_records.specs.NoteExamples.{text_value, graphed}
use Rattle.meaning_records.specs.NoteBatchExamples.{fresh_text, fresh_list}

-- contents and then records
abbrev pub items_of : List Value → List StoredRecord → List Item
items_of values stored = map Content values ++ map Node stored

same_records : (a b : List StoredRecord) → map Node a ≡ map Node b → a ≡ b
same_records [] [] e = refl
same_records [] (y ∷ b) e = let n : ⊥ = cc in absurd n
same_records (x ∷ a) [] e = let n : ⊥ = cc in absurd n
same_records (x ∷ a) (y ∷ b) e =
    let heads : x ≡ y = cc in
    let tails : map Node a ≡ map Node b = cc in
    ap₂ (λ (s : StoredRecord) ss. s ∷ ss) heads (same_records a b tails)

same_items : (xs ys : List Value) (a b : List StoredRecord) → items_of xs a ≡ items_of ys b → (xs ≡ ys) × (a ≡ b)
same_items [] [] a b e = (refl, same_records a b e)
same_items [] (y ∷ ys) [] b e = let n : ⊥ = cc in absurd n
same_items [] (y ∷ ys) (r ∷ a) b e = let n : ⊥ = cc in absurd n
same_items (x ∷ xs) [] a [] e = let n : ⊥ = cc in absurd n
same_items (x ∷ xs) [] a (r ∷ b) e = let n : ⊥ = cc in absurd n
same_items (x ∷ xs) (y ∷ ys) a b e =
    let heads : x ≡ y = cc in
    let tails : items_of xs a ≡ items_of ys b = cc in
    let rest = same_items xs ys a b tails in
    (ap₂ (λ (v : Value) vs. v ∷ vs) heads rest.0, rest.1)

-- what is said of contents and records that are a batch
pub record Written (contents : List Value) (fresh : List Fresh) (values : List Value) (stored : List StoredRecord) : Type 0 where
  pub once : EachOnce values
  pub needed : All (λ (v : Value). IsIn v (needed_values fresh)) values
  pub new : All (IsNoContent contents) values
  pub records : AreRecordsOf (contents ++ values) stored fresh

pub written : (contents : List Value) (fresh : List Fresh) (values : List Value) (stored : List StoredRecord)
    → IsNotesBatch contents fresh (items_of values stored) → Written contents fresh values stored
written contents fresh values stored batch =
    let same = same_items batch.added values batch.stored stored (sym batch.items_are) in
    record {
      once = subst EachOnce same.0 batch.once;
      needed = subst (λ (l : List Value). All (λ (v : Value). IsIn v (needed_values fresh)) l) same.0 batch.needed;
      new = subst (λ (l : List Value). All (IsNoContent contents) l) same.0 batch.new;
      records = subst (λ (l : List StoredRecord). AreRecordsOf (contents ++ values) l fresh) same.1
          (subst (λ (l : List Value). AreRecordsOf (contents ++ l) batch.stored fresh) same.0 batch.records);
    }

-- ---- the fresh values of the examples

text_of : Value → Text
text_of (Simple text) = text
text_of _ = []

pub other_text : fresh_text ≡ text_value → ⊥
unfolding text_of
other_text same = let size : ◌≡◌ {A = ℕ} 1 3 = ap (λ v. length (text_of v)) same in omega (arith, size)

some_value : Option Value → Value → Value
some_value (Some value) other = value
some_value _ other = other

pub text_is_new : IsNoContent graphed.tables.contents fresh_text
unfolding some_value
text_is_new zero is = other_text (sym (ap (λ (o : Option Value). some_value o text_value) is))
text_is_new (suc zero) is = let n : ⊥ = cc in n
text_is_new (suc (suc zero)) is = let n : ⊥ = cc in n
text_is_new (suc (suc (suc number))) is = let n : ⊥ = cc in n

pub list_is_new : IsNoContent graphed.tables.contents fresh_list
list_is_new zero is = let n : ⊥ = cc in n
list_is_new (suc zero) is = let n : ⊥ = cc in n
list_is_new (suc (suc zero)) is = let n : ⊥ = cc in n
list_is_new (suc (suc (suc number))) is = let n : ⊥ = cc in n
