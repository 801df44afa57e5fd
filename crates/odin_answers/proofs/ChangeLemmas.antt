-- The changes of a source, and what the store's edits make of them.
use Rattle.std.proofs.Common.{◌≡◌, ◌≢◌, ◌+◌, Bool, true, false, cond, List, [], ◌∷◌, length, Option, Some, None, IsSome, Result, Ok, Err, OnOk, refl, sym, ap, subst, ◌∙◌, inl, arith}
use Rattle.std.specs.Str.{bytes_eq}
use Rattle.std.proofs.lemmas.Slice.Eq.{bytes_eq-Decides}
use Rattle.std.specs.Cmp.Lexicographic.{nat_list_cmp_total}
use Rattle.std.specs.FinMap as map
use Rattle.std.specs.FinMap.{get, insert, remove}
use Rattle.object_values.specs.Texts.{Text, Texts}
use Rattle.object_values.specs.Gets.{put_here, put_other, remove_here}
use Rattle.odin_outside.specs.Disk.{Telling}
use Rattle.odin_journal.specs.declared.fault.JournalFault.{JournalFault}
use Rattle.odin_journal.specs.declared.fault.JournalFault.TheVariants as fault
use Rattle.odin_store.specs.declared.store.Store.{Store}
use Rattle.odin_store.specs.Held.{Held, Change, puts, drops}
use Rattle.odin_store.specs.OnDisk.{IsSame}
use Rattle.odin_store.specs.Going.{Performs, ChangesFollow}
use Rattle.odin_store.specs.Edited.{HasPut, HasDropped}
use Rattle.kept_derive.specs.Knowing.{StaysKnown}
use Rattle.odin_answers.specs.Changes.{source_changes, edit_changes, EditsSource, PutsSource, HasFailedToPut}

-- ---- texts

-- a text that is put where it is changes nothing
insert_same : (m : Texts) (name text : Text) → get m name ≡ Some text → insert m name text ≡ m
insert_same m name text there = map.same_map nat_list_cmp_total (map.slice_cmp-IsAntisymmetric map.nat_cmp-IsAntisymmetric) (insert m name text) m (λ q. each q (bytes_eq q name) refl)
  where
    each : (q : Text) (b : Bool) → bytes_eq q name ≡ b → get (insert m name text) q ≡ get m q
    each q true e =
        let same : q ≡ name = (bytes_eq-Decides q name).0 e in
        ap (get (insert m name text)) same ∙ put_here m name text ∙ sym there ∙ ap (get m) (sym same)
    each q false e = put_other m name text q (λ same. let yes = (bytes_eq-Decides q name).1 same in cc)

-- a text that can't be another one is that one
is_there : (found : Option Text) (text : Text) → (found ≢ Some text → ⊥) → found ≡ Some text
is_there None text not = absurd (not (λ is. (let no : ⊥ = cc in no)))
is_there (Some old) text not = by (bytes_eq old text) refl
  where
    same_text : {A : Type 0} (x y : A) → Some x ≡ Some y → x ≡ y
    same_text x y is = cc

    by : (b : Bool) → bytes_eq old text ≡ b → Some old ≡ Some text
    by true e = ap (λ t. Some t) ((bytes_eq-Decides old text).0 e)
    by false e = absurd (not (λ is. let yes = (bytes_eq-Decides old text).1 (same_text old text is) in let no : ⊥ = cc in no))

-- ---- changes of a source

unchanged : (name : Text) (found : Option Text) → source_changes name found found ≡ []
unchanged name None = refl
unchanged name (Some text) = ap (λ b. cond b [] (puts name text ∷ [])) ((bytes_eq-Decides text text).1 refl)

changed : (name text : Text) (found : Option Text) → found ≢ Some text → source_changes name found (Some text) ≡ puts name text ∷ []
changed name text None other = refl
changed name text (Some old) other = by (bytes_eq old text) refl
  where
    by : (b : Bool) → bytes_eq old text ≡ b → cond (bytes_eq old text) [] (puts name text ∷ []) ≡ puts name text ∷ []
    by true e = absurd (other (ap (λ t. Some t) ((bytes_eq-Decides old text).0 e)))
    by false e = ap (λ b. cond b [] (puts name text ∷ [])) e

gone : (name : Text) (found : Option Text) → IsSome found → source_changes name found None ≡ drops name ∷ []
gone name None some = let no : ⊥ = cc in absurd no
gone name (Some old) some = refl

-- ---- edits of a store

same_store : {Disk : Type 0} (store : Store) (disk : Disk) → IsSame store store disk disk
same_store store disk = record { disk_is = refl; store_is = record { journal = refl; tables = refl; sources = refl; graph = refl; epoch = refl }; nodes = refl }

module _ {Disk : Type 0} (told : Disk → Telling) where
  goes_as : (name : Text) (store next : Store) (disk after : Disk) (changes : List Change)
      → edit_changes name store.sources.texts next.sources.texts ≡ changes → next.epoch ≡ store.epoch + length changes → StaysKnown store next
      → Performs told changes store next disk after → EditsSource told name store next disk after
  goes_as name store next disk after changes are epoch knows goes = record {
    goes = subst (λ c. Performs told c store next disk after) (sym are) goes;
    epoch = subst (λ c. next.epoch ≡ store.epoch + length c) (sym are) epoch;
    knows = knows;
  }

  none_edited : ChangesFollow told → (name : Text) (store : Store) (disk : Disk) → EditsSource told name store store disk disk
  none_edited law name store disk =
      goes_as name store store disk disk [] (unchanged name (get store.sources.texts name)) (omega arith) (λ g known. known)
      (law.none store store disk disk (same_store store disk))

  -- an answer that changes nothing
  pub none_changed : {T : Type 0} → ChangesFollow told → (name : Text) (store : Store) (disk : Disk) (result : Result T JournalFault) → OnOk result (EditsSource told name store store disk disk)
  none_changed law name store disk (Ok value) = none_edited law name store disk
  none_changed law name store disk (Err e) = tt

  pub put_edited : (name text : Text) (store next : Store) (disk after : Disk) (change : Bool) → HasPut told name text store next disk after change
      → StaysKnown store next → PutsSource told name text store next disk after
  put_edited name text store next disk after true has knows =
      let put : next.sources.texts ≡ insert store.sources.texts name text = ap (λ (h : Held). h.sources) has.goes.holds in
      let there : get next.sources.texts name ≡ Some text = ap (λ m. get m name) put ∙ put_here store.sources.texts name text in
      record {
        put = put;
        edits = goes_as name store next disk after (puts name text ∷ [])
            (ap (source_changes name (get store.sources.texts name)) there ∙ changed name text (get store.sources.texts name) (has.exact.0 refl)) has.epoch knows has.goes;
      }
  put_edited name text store next disk after false has knows =
      let same : next.sources.texts ≡ store.sources.texts = ap (λ (h : Held). h.sources) has.goes.holds in
      let there : get store.sources.texts name ≡ Some text = is_there (get store.sources.texts name) text (λ other. let yes = has.exact.1 other in let no : ⊥ = cc in no) in
      record {
        put = same ∙ sym (insert_same store.sources.texts name text there);
        edits = goes_as name store next disk after []
            (ap (λ m. source_changes name (get store.sources.texts name) (get m name)) same ∙ unchanged name (get store.sources.texts name)) has.epoch knows has.goes;
      }

  pub drop_removes : (name : Text) (store next : Store) (disk after : Disk) (change : Bool) → IsSome (get store.sources.texts name) → HasDropped told name store next disk after change
      → next.sources.texts ≡ remove store.sources.texts name
  drop_removes name store next disk after true some has = ap (λ (h : Held). h.sources) has.goes.holds
  drop_removes name store next disk after false some has = let yes = has.exact.1 some in let no : ⊥ = cc in absurd no

  pub drop_edited : (name : Text) (store next : Store) (disk after : Disk) (change : Bool) → IsSome (get store.sources.texts name)
      → HasDropped told name store next disk after change → StaysKnown store next → EditsSource told name store next disk after
  drop_edited name store next disk after true some has knows =
      let removed : next.sources.texts ≡ remove store.sources.texts name = ap (λ (h : Held). h.sources) has.goes.holds in
      let none : get next.sources.texts name ≡ None = ap (λ m. get m name) removed ∙ remove_here store.sources.texts name in
      goes_as name store next disk after (drops name ∷ [])
      (ap (source_changes name (get store.sources.texts name)) none ∙ gone name (get store.sources.texts name) some) has.epoch knows has.goes
  drop_edited name store next disk after false some has knows = let yes = has.exact.1 some in let no : ⊥ = cc in absurd no

  -- ---- faults

  -- memory was wanting before anything was done
  pub wanting : (IsIt : Text → Type 0) (name : Text) (store : Store) (disk : Disk) (e : JournalFault) → e ≡ fault.Memory → HasFailedToPut told IsIt name store store disk disk e
  wanting IsIt name store disk e is = inl (record { is = is; same = same_store store disk })
