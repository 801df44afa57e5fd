-- The items that a payload is: one list at most, and whether there is one is decided.
use Rattle.std.proofs.Common.{◌≡◌, ℕ, zero, suc, ◌<◌, List, [], ◌∷◌, ◌++◌, length, All, refl, sym, ap, ap₂, ◌∙◌, arith, length-append}
use Rattle.std.proofs.lemmas.List.Elements.{All-nil, All-cons, All-head, All-tail}
use Rattle.object_values.specs.declared.items.Item.{Item}
use Rattle.object_values.specs.declared.items.Item.TheVariants.{Graph}
use Rattle.meaning_records.specs.FormLemmas.{one_item}
use Rattle.meaning_records.specs.Records.{item}
use Rattle.meaning_records.specs.States.{spell_batch}
use Rattle.meaning_records.proofs.Fronts.{Begins}
use Rattle.meaning_records.proofs.RecordFronts.{item_decided}

-- each item has a byte
pub item_some : (it : Item) → 0 < length (item.spell it)
item_some (Graph text) = omega arith
item_some _ = omega arith

-- and so has a batch that has an item
batch_some : (it : Item) (items : List Item) → ◌≡◌ {A = List ℕ} [] (spell_batch (it ∷ items)) → ⊥
batch_some it items e =
    let size : 0 ≡ length (item.spell it ++ spell_batch items) = ap length e in
    omega (arith, size, length-append (item.spell it) (spell_batch items), item_some it)

-- a payload is of one batch
pub one_batch : (xs ys : List Item) → All item.fits xs → All item.fits ys → spell_batch xs ≡ spell_batch ys → xs ≡ ys
one_batch [] [] fit_xs fit_ys e = refl
one_batch [] (y ∷ ys) fit_xs fit_ys e = absurd (batch_some y ys e)
one_batch (x ∷ xs) [] fit_xs fit_ys e = absurd (batch_some x xs (sym e))
one_batch (x ∷ xs) (y ∷ ys) fit_xs fit_ys e =
    let front = one_item x y (spell_batch xs) (spell_batch ys) (All-head item.fits x xs fit_xs) (All-head item.fits y ys fit_ys) e in
    ap₂ (λ (it : Item) items. it ∷ items) front.0 (one_batch xs ys (All-tail item.fits x xs fit_xs) (All-tail item.fits y ys fit_ys) front.1)

-- the items of a payload
pub record BatchOf (payload : List ℕ) : Type 0 where
  pub items : List Item
  pub fit : All item.fits items
  pub spelled : payload ≡ spell_batch items

batch_behind : (payload : List ℕ) (front : Begins item payload) → Dec (BatchOf front.rest) → Dec (BatchOf payload)
batch_behind payload front (yes others) = yes (record {
  items = front.thing ∷ others.items;
  fit = All-cons item.fits front.thing others.items front.fits others.fit;
  spelled = front.is ∙ ap (λ l. item.spell front.thing ++ l) others.spelled;
})
batch_behind payload front (no none) = no (λ b. by b.items b.fit b.spelled)
  where
    by : (items : List Item) → All item.fits items → payload ≡ spell_batch items → ⊥
    by [] fit spelled =
        let size : length (item.spell front.thing ++ front.rest) ≡ 0 = ap length (sym front.is ∙ spelled) in
        omega (arith, size, length-append (item.spell front.thing) front.rest, item_some front.thing)
    by (it ∷ items) fit spelled =
        let same = one_item front.thing it front.rest (spell_batch items) front.fits (All-head item.fits it items fit) (sym front.is ∙ spelled) in
        none (record { items = items; fit = All-tail item.fits it items fit; spelled = same.1 })

pub no_batch : (first : ℕ) (rest : List ℕ) → ¬ Begins item (first ∷ rest) → ¬ BatchOf (first ∷ rest)
no_batch first rest none b = by b.items b.fit b.spelled
  where
    by : (items : List Item) → All item.fits items → first ∷ rest ≡ spell_batch items → ⊥
    by [] fit spelled = let n : ⊥ = cc in n
    by (it ∷ items) fit spelled = none (record { thing = it; rest = spell_batch items; fits = All-head item.fits it items fit; is = spelled })

-- by a bound on its length
batch_within : (bound : ℕ) (payload : List ℕ) → length payload < bound → Dec (BatchOf payload)
batch_within bound [] short = yes (record { items = []; fit = All-nil item.fits; spelled = refl })
batch_within zero (first ∷ rest) short = no (λ b. omega (arith, short))
batch_within (suc bound) (first ∷ rest) short = elim (item_decided (first ∷ rest)) [
  | yes front ↦ batch_behind (first ∷ rest) front (batch_within bound front.rest (omega (arith, short, ap length front.is, length-append (item.spell front.thing) front.rest, item_some front.thing)))
  | no none ↦ no (no_batch first rest none)
]

pub batch_decided : (payload : List ℕ) → Dec (BatchOf payload)
batch_decided payload = batch_within (suc (length payload)) payload (omega arith)
