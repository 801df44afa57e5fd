-- The epochs at which records count as checked.
use Rattle.std.specs.Prelude.{cond, slice_index_or}
use Rattle.std.proofs.Common.{◌≡◌, ℕ, suc, ◌+◌, ◌≤◌, Bool, true, false, List, [], ◌∷◌, All, Option, Some, None, refl, sym, ap, subst, ◌∙◌, arith}
use Rattle.std.proofs.lemmas.List.Elements.{All-nil, All-cons, All-head, All-tail}
use Rattle.std.proofs.lemmas.Bool.{ne_eqb}
use Rattle.std.proofs.lemmas.Option.{same_Some}
use Rattle.object_values.specs.declared.nodes.Node.{Node}
use Rattle.object_values.specs.contracts.nodes.NodePartialEq.TheImpl.{ghosts as node_eq}
use Rattle.object_values.specs.declared.records.NodeRecord.{NodeRecord}
use Rattle.object_values.specs.declared.records.Renewed.{Renewed}
use Rattle.object_values.specs.declared.items.Item.{Item}
use Rattle.object_values.specs.declared.items.Item.TheVariants.{Graph, Content, Put, Dropped, Kept, Node as NodeItem}
use Rattle.meaning_true.specs.Numbered.{is_at}
use Rattle.kept_records.specs.Records.{put_record, put_records, record_of, renew_record, renewed}
use Rattle.kept_notes.specs.Loaded.{loaded_record}
use Rattle.kept_tables.specs.Holdings.{Holding}
use Rattle.kept_tables.specs.Live.{epochs_of}
use Rattle.kept_tables.specs.Loading.{RemembersItem, records_after}
use Rattle.odin_store.specs.Compacting.{StaysInMemory}
use Rattle.odin_store.specs.Stamps.{AreStampedBy, AreUnchecked, IsStampedBy}

-- ---- what is so of each record

module _ (P : NodeRecord → Type 0) where
  put_there : (same : Bool) (noted r : NodeRecord) (records more : List NodeRecord) → P noted → All P (r ∷ records) → All P more → All P (cond same (noted ∷ records) (r ∷ more))
  put_there true noted r records more holds all rest = All-cons P noted records holds (All-tail P r records all)
  put_there false noted r records more holds all rest = All-cons P r more (All-head P r records all) rest

  put_each : (noted : NodeRecord) (records : List NodeRecord) → P noted → All P records → All P (put_record noted records)
  put_each noted [] holds all = All-cons P noted [] holds (All-nil P)
  put_each noted (r ∷ records) holds all = put_there (node_eq.eq noted.node r.node) noted r records (put_record noted records) holds all (put_each noted records holds (All-tail P r records all))

  put_all_each : (notes records : List NodeRecord) → All P notes → All P records → All P (put_records notes records)
  put_all_each [] records noted all = all
  put_all_each (first ∷ notes) records noted all = put_all_each notes (put_record first records) (All-tail P first notes noted) (put_each first records (All-head P first notes noted) all)

  renew_each : (node : Node) (present : Renewed) (epoch : ℕ) (records : List NodeRecord) → ((r : NodeRecord) → P (renewed present epoch r)) → All P records → All P (renew_record node present epoch records)
  renew_each node present epoch [] settles all = All-nil P
  renew_each node present epoch (r ∷ records) settles all =
      put_there (node_eq.eq node r.node) (renewed present epoch r) r records (renew_record node present epoch records) (settles r) all (renew_each node present epoch records settles (All-tail P r records all))

-- and of when each was checked
same_epochs : (P : Option ℕ → Type 0) (old new : List NodeRecord) → epochs_of new ≡ epochs_of old → All (λ (r : NodeRecord). P r.checked) old → All (λ (r : NodeRecord). P r.checked) new
same_epochs P [] [] same all = all
same_epochs P [] (r ∷ new) same all = let no : ⊥ = cc in absurd no
same_epochs P (r ∷ old) [] same all = let no : ⊥ = cc in absurd no
same_epochs P (r ∷ old) (s ∷ new) same all =
    let first : s.checked ≡ r.checked = cc in
    let rest : epochs_of new ≡ epochs_of old = cc in
    All-cons (λ (x : NodeRecord). P x.checked) s new (subst P (sym first) (All-head (λ (x : NodeRecord). P x.checked) r old all))
    (same_epochs P old new rest (All-tail (λ (x : NodeRecord). P x.checked) r old all))

-- of that of a node too
record_each : (P : NodeRecord → Type 0) (n : Node) (records : List NodeRecord) (r : NodeRecord) → All P records → record_of n records ≡ Some r → P r
record_each P n [] r all is = let no : ⊥ = cc in absurd no
record_each P n (s ∷ records) r all is = by (node_eq.eq n s.node) (record_each P n records r (All-tail P s records all)) is
  where
    by : (same : Bool) → (record_of n records ≡ Some r → P r) → cond same (Some s) (record_of n records) ≡ Some r → P r
    by true rest there = subst P (same_Some s r there) (All-head P s records all)
    by false rest there = rest there

-- ---- what a file has was never checked

remembers : (it : Item) (old : List NodeRecord) → AreUnchecked old → AreUnchecked (records_after it old)
remembers (Graph text) old all = All-nil (λ (r : NodeRecord). r.checked ≡ None)
remembers (Content value) old all = all
remembers (Put name number) old all = all
remembers (Dropped name) old all = all
remembers (Kept call outcome) old all = all
remembers (NodeItem stored) old all = put_each (λ (r : NodeRecord). r.checked ≡ None) (loaded_record stored) old refl all

pub item_unchecked : (payload : List ℕ) (at end : ℕ) (old new : List NodeRecord) → RemembersItem payload at end old new → AreUnchecked old → AreUnchecked new
item_unchecked payload at end old new has all = subst AreUnchecked (sym has.is) (remembers has.it old all)

-- nor does a compaction check anything
pub unchecked_stays : (old new : Holding) → StaysInMemory old new → AreUnchecked old.records.records → AreUnchecked new.records.records
unchecked_stays old new stays = same_epochs (λ checked. checked ≡ None) old.records.records new.records.records stays.checked

-- ---- no stamp is above the epoch

stamp_at : (epoch at : ℕ) → Some epoch ≡ Some at → at ≤ epoch
stamp_at epoch at is =
    let same : epoch ≡ at = cc in
    omega (arith, same)

stamped : (epoch : ℕ) (r : NodeRecord) → r.checked ≡ Some epoch → IsStampedBy epoch r
stamped epoch r checked at is = stamp_at epoch at (sym checked ∙ is)

unstamped : (epoch : ℕ) (r : NodeRecord) → r.checked ≡ None → IsStampedBy epoch r
unstamped epoch r checked at is = let no : ⊥ = cc in absurd no

module _ (epoch : ℕ) where
  each_stamped : (records : List NodeRecord) → All (λ (r : NodeRecord). r.checked ≡ Some epoch) records → AreStampedBy epoch records
  each_stamped records all k d inside = stamped epoch (slice_index_or records k d) (all k d inside)

  pub unchecked_stamped : (records : List NodeRecord) → AreUnchecked records → AreStampedBy epoch records
  unchecked_stamped records all k d inside = unstamped epoch (slice_index_or records k d) (all k d inside)

  -- an edit raises the epoch
  pub later_stamped : (next : ℕ) (records : List NodeRecord) → epoch ≤ next → AreStampedBy epoch records → AreStampedBy next records
  later_stamped next records later all k d inside at is = omega (arith, all k d inside at is)

  -- what is noted now counts as checked now
  pub noted_stamped : (notes records new : List NodeRecord) → new ≡ put_records notes records → All (λ (r : NodeRecord). r.checked ≡ Some epoch) notes → AreStampedBy epoch records → AreStampedBy epoch new
  noted_stamped notes records new is now all = subst (AreStampedBy epoch) (sym is) (put_all_each (IsStampedBy epoch) notes records (each_stamped notes now) all)

  -- and so does what is renewed
  pub renewed_stamped : (node : Node) (present : Renewed) (records new : List NodeRecord) → new ≡ renew_record node present epoch records → AreStampedBy epoch records → AreStampedBy epoch new
  renewed_stamped node present records new is all =
      subst (AreStampedBy epoch) (sym is) (renew_each (IsStampedBy epoch) node present epoch records (λ r. stamped epoch (renewed present epoch r) refl) all)

  -- records that were checked when others were
  pub same_stamped : (old new : List NodeRecord) → epochs_of new ≡ epochs_of old → AreStampedBy epoch old → AreStampedBy epoch new
  same_stamped = same_epochs (λ checked. (at : ℕ) → checked ≡ Some at → at ≤ epoch)

-- a batch that notes nothing leaves the records
pub nothing_noted : (notes old new : List NodeRecord) → new ≡ put_records notes old → notes ≡ [] → new ≡ old
nothing_noted notes old new is none = is ∙ ap (λ l. put_records l old) none

-- After an edit nothing counts as checked at the epoch.
pub none_checked : (epoch next : ℕ) (old new : List NodeRecord) → next ≡ epoch + 1 → new ≡ old → AreStampedBy epoch old → All (λ (r : NodeRecord). ¬ (r.checked ≡ Some next)) new
none_checked epoch next old new raised same all k d inside is =
    let early = subst (AreStampedBy epoch) (sym same) all k d inside next is in
    absurd (omega (arith, early, raised))

-- so no record of a node does
pub unstamped_at : (epoch : ℕ) (n : Node) (records : List NodeRecord) (r : NodeRecord) → AreStampedBy epoch records → record_of n records ≡ Some r → is_at (suc epoch) r.checked ≡ false
unstamped_at epoch n records r all is = not_at r.checked (record_each (IsStampedBy epoch) n records r all is)
  where
    not_at : (checked : Option ℕ) → ((at : ℕ) → checked ≡ Some at → at ≤ epoch) → is_at (suc epoch) checked ≡ false
    not_at None early = refl
    not_at (Some at) early = ne_eqb at (suc epoch) (λ same. omega (arith, early at refl, same))
