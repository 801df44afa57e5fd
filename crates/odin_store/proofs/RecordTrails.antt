-- Records as what a trail keeps.
use Rattle.std.proofs.Common.{◌≡◌, ◌⊎◌, inl, inr, ℕ, zero, suc, ◌+◌, ◌≤◌, List, [], ◌∷◌, ◌++◌, length, take, IsTrue, refl, sym, ap, subst, ◌∙◌, append_assoc, arith}
use Rattle.std.proofs.Math.Seq.{take-append-add}
use Rattle.std.proofs.lemmas.List.{length-append, take-append-le}
use Rattle.odin_outside.specs.Disk.{Telling, MayLeave}
use Rattle.odin_outside.specs.Moments.{no_call, then, weaker}
use Rattle.odin_journal.specs.Trails as trails
use Rattle.odin_journal.specs.TrailLemmas.{after-append}
use Rattle.meaning_records.specs.Images.{IsStore, Stored}
use Rattle.odin_journal.specs.Rest.{BeforeOrAfter, KeepsOrAdds}
use Rattle.odin_store.specs.declared.store.Store.{Store}
use Rattle.odin_store.specs.Written.{RecordsRest, record_keeping, LeavesFirst}

nothing_behind : {A : Type 0} (xs : List A) → xs ++ [] ≡ xs
nothing_behind [] = refl
nothing_behind (x ∷ xs) = ap (λ l. x ∷ l) (nothing_behind xs)

-- what is kept after some payloads are the records with them
pub after_records : (payloads records : List (List ℕ)) → trails.after_changes record_keeping payloads records ≡ records ++ payloads
after_records [] records = sym (nothing_behind records)
after_records (payload ∷ payloads) records = after_records payloads (records ++ payload ∷ []) ∙ append_assoc records (payload ∷ []) payloads

-- what a crash leaves of a disk at rest has all records
pub rests_leave : (disk : Telling) (store : Store) (records : List (List ℕ)) → RecordsRest disk store records → (image : List ℕ) → MayLeave disk image → Stored records image
rests_leave disk store records rests image left = inr (store.journal.end, subst (λ c. IsStore c records store.journal.end) (sym (rests.rests.quiet.only image left)) rests.rests.store)

-- ---- one call

-- nothing is begun
pub nothing_first : (store : Store) (disk : Telling) → ((image : List ℕ) → IsTrue disk.follows → disk.left_since disk.moment image → MayLeave disk image) → LeavesFirst store [] disk disk
nothing_first store disk only_now records rests =
    let all : (image : List ℕ) → MayLeave disk image → trails.IsPrefix record_keeping records 0 [] image =
    λ image left. record { k = 0; at_least = omega arith; at_most = omega arith; stands = rests_leave disk store records rests image left } in
    no_call disk (trails.IsPrefix record_keeping records 0 []) (λ image left. all image (only_now image rests.rests.quiet.follows left)) all

-- a record is added
pub adds_first : (store : Store) (payload : List ℕ) (old new : Telling) → KeepsOrAdds store.journal.end payload old new → LeavesFirst store (payload ∷ []) old new
adds_first store payload old new leaves records rests =
    weaker old new (BeforeOrAfter records payload) (trails.IsPrefix record_keeping records 0 (payload ∷ [])) (leaves records rests.rests) each
  where
    each : (image : List ℕ) → BeforeOrAfter records payload image → trails.IsPrefix record_keeping records 0 (payload ∷ []) image
    each image (inl stored) = record { k = 0; at_least = omega arith; at_most = omega arith; stands = stored }
    each image (inr stored) = record { k = 1; at_least = omega arith; at_most = omega arith; stands = stored }

-- which stops in it
pub stops_record : (store : Store) (payload : List ℕ) (old new : Telling) → LeavesFirst store (payload ∷ []) old new → trails.StopsIn record_keeping payload old store new
stops_record store payload old new leaves records rests =
    weaker old new (trails.IsPrefix record_keeping records 0 (payload ∷ [])) (λ image. Stored records image ⊎ Stored (records ++ payload ∷ []) image) (leaves records rests)
    (λ image some. by image some.k some.at_most some.stands)
  where
    by : (image : List ℕ) (k : ℕ) → k ≤ length (payload ∷ []) → Stored (trails.after_changes record_keeping (take k (payload ∷ [])) records) image → Stored records image ⊎ Stored (records ++ payload ∷ []) image
    by image zero few stored = inl stored
    by image (suc zero) few stored = inr stored
    by image (suc (suc k)) few stored = absurd (omega (arith, few))

-- ---- after others

module _ (first before payloads : List (List ℕ)) where
  -- some first ones of what came before
  prefix_longer : (image : List ℕ) → trails.IsPrefix record_keeping first 0 before image → trails.IsPrefix record_keeping first 0 (before ++ payloads) image
  prefix_longer image some =
      let most = some.at_most in
      record {
        k = some.k;
        at_least = some.at_least;
        at_most = omega (arith, most, length-append before payloads);
        stands = subst (λ l. Stored (trails.after_changes record_keeping l first) image) (sym (take-append-le some.k before payloads some.at_most)) some.stands;
      }

  -- all of it, and some first ones of these
  prefix_on : (image : List ℕ) → trails.IsPrefix record_keeping (trails.after_changes record_keeping before first) 0 payloads image → trails.IsPrefix record_keeping first (length before) (before ++ payloads) image
  prefix_on image some =
      let most = some.at_most in
      record {
        k = length before + some.k;
        at_least = omega arith;
        at_most = omega (arith, most, length-append before payloads);
        stands =
            subst (λ l. Stored (trails.after_changes record_keeping l first) image) (sym (take-append-add before payloads some.k))
            (subst (λ r. Stored r image) (sym (after-append record_keeping before (take some.k payloads) first)) some.stands);
      }

  prefix_less : (image : List ℕ) → trails.IsPrefix record_keeping first (length before) (before ++ payloads) image → trails.IsPrefix record_keeping first 0 (before ++ payloads) image
  prefix_less image some = record { k = some.k; at_least = omega arith; at_most = some.at_most; stands = some.stands }

  -- a call that begins them leaves all that came before
  pub first_leaves : (store : Store) (start old new : Telling) → LeavesFirst store payloads old new → trails.Trail record_keeping first start before store old → trails.LeavesPrefix record_keeping first start before (before ++ payloads) new
  first_leaves store start old new leaves trail =
      let mine = leaves (trails.after_changes record_keeping before first) trail.rests in
      record {
        crash = then start old new (trails.IsPrefix record_keeping first 0 before) (trails.IsPrefix record_keeping (trails.after_changes record_keeping before first) 0 payloads)
            (trails.IsPrefix record_keeping first 0 (before ++ payloads)) trail.crash mine prefix_longer (λ image some. prefix_less image (prefix_on image some));
        durable = λ image left. prefix_on image (mine.now image left);
      }
