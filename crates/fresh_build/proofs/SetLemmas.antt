-- Edits that are made one after another, and where they stop.
use Rattle.std.proofs.Common.{◌≡◌, ◌^◌, ◌<◌, ℕ, List, [], ◌∷◌, ◌++◌, length, Result, Ok, Err, OnOk, IfErr, IsErrAnd, refl, sym, ap, subst, ◌∙◌, arith, append_assoc, length-append}
use Rattle.std.proofs.lemmas.List.{append-nil}
use Rattle.object_values.specs.Texts.{Texts}
use Rattle.odin_outside.specs.Disk.{Telling}
use Rattle.odin_journal.specs.declared.fault.JournalFault.{JournalFault}
use Rattle.odin_journal.specs.declared.fault.JournalFault.TheVariants as fault
use Rattle.odin_journal.specs.Rest.{IsReady}
use Rattle.odin_store.specs.declared.store.Store.{Store}
use Rattle.odin_store.specs.Held.{Held, Change}
use Rattle.odin_store.specs.OnDisk.{held_in, IsSame}
use Rattle.odin_store.specs.Going.{Performs, StopsPerforming, ChangesFollow, ChangesStop}
use Rattle.odin_store.specs.Edited.{HasFailed}
use Rattle.fresh_build.specs.declared.edits.Edit.{Edit}
use Rattle.fresh_build.specs.Edits.{change_of, changes_of, changes_to, AreShort, AreDue}
use Rattle.fresh_build.specs.Sets.{MaySet, MayMake, MakesChanges, SetsSources, FailsToMake}
use Rattle.fresh_build.proofs.EditLemmas.{edits_reach, edits_keep, edits_due, edits_short, no_edits}

-- ---- what may be made

pub may_first : (store : Store) (size : ℕ) (edit : Edit) (edits : List Edit) → MayMake store size (edit ∷ edits) → MayMake store size (edit ∷ [])
may_first store size edit edits may = record {
  ready = may.ready;
  early = (let early = may.early in omega arith);
  due = (may.due.0, tt);
  short = (may.short.0, tt);
}

pub may_set : (store : Store) (size : ℕ) (wanted : Texts) (edits : List Edit) → MaySet store size wanted
    → changes_of edits ≡ changes_to wanted store.sources.texts → length edits < 2 ^ 62 → MayMake store size edits
may_set store size wanted edits may are few = record {
  ready = may.ready;
  early = (let early = may.early in omega arith);
  due = subst (λ (l : List Change). AreDue l (held_in store)) (sym are) (edits_due wanted (held_in store));
  short = subst AreShort (sym are) (edits_short wanted store.sources.texts may.fit);
}

-- a fault that is handed on
pub handed : {T : Type 0} (P : JournalFault → Type 0) (r : Result T JournalFault) (e : JournalFault) → IsErrAnd r (λ given. given ≡ e) → P e → IfErr r P
handed P (Ok x) e never there = tt
handed P (Err given) e is there = subst P (sym is) there

no_end : {A : Type 0} (some : List A) (x : A) → some ++ x ∷ [] ≡ [] → ⊥
no_end [] x e = cc
no_end (y ∷ some) x e = cc

module _ {Disk : Type 0} (told : Disk → Telling) where
  pub may_rest : (store next : Store) (disk after : Disk) (size later : ℕ) (edit : Edit) (edits : List Edit) → MayMake store size (edit ∷ edits)
      → MakesChanges told (change_of edit ∷ []) store next disk after
      → IsReady next.journal later → MayMake next later edits
  may_rest store next disk after size later edit edits may makes ready = record {
    ready = ready;
    early = (let early = may.early in let epoch = makes.epoch in omega arith);
    due = subst (λ (h : Held). AreDue (changes_of edits) h) (sym makes.goes.holds) may.due.1;
    short = may.short.1;
  }

  -- ---- what was made

  pub none_made : ChangesFollow told → (store : Store) (disk : Disk) → MakesChanges told [] store store disk disk
  none_made law store disk =
      let same : IsSame store store disk disk = record { disk_is = refl; store_is = record { journal = refl; tables = refl; sources = refl; graph = refl; epoch = refl }; nodes = refl } in
      record { goes = law.none store store disk disk same; epoch = omega arith; none = λ empty. same; knows = λ g known. known }

  pub one_more : ChangesFollow told → (some : List Change) (change : Change) (store mid next : Store) (disk between after : Disk)
      → MakesChanges told some store mid disk between → MakesChanges told (change ∷ []) mid next between after
      → MakesChanges told (some ++ change ∷ []) store next disk after
  one_more law some change store mid next disk between after first then = record {
    goes = law.behind some (change ∷ []) store mid next disk between after first.goes then.goes;
    epoch = (let before = first.epoch in let epoch = then.epoch in let size = length-append some (change ∷ []) in omega arith);
    none = λ empty. absurd (no_end some change empty);
    knows = λ g known. then.knows g (first.knows g known);
  }

  -- The sources are just the wanted ones.
  are_set : (wanted : Texts) (store next : Store) (disk after : Disk) (changes : List Change) → changes ≡ changes_to wanted store.sources.texts
      → MakesChanges told changes store next disk after
      → SetsSources told wanted store next disk after
  are_set wanted store next disk after changes are makes =
      let all = subst (λ (l : List Change). MakesChanges told l store next disk after) are makes in
      record {
        set = ap (λ (h : Held). h.sources) all.goes.holds ∙ edits_reach wanted (held_in store);
        calls = ap (λ (h : Held). h.calls) all.goes.holds ∙ edits_keep wanted (held_in store);
        makes = all;
        same = λ already. all.none (no_edits wanted store.sources.texts already);
      }

  pub on_set : {T : Type 0} (wanted : Texts) (store next : Store) (disk after : Disk) (changes : List Change) (result : Result T JournalFault)
      → changes ≡ changes_to wanted store.sources.texts
      → OnOk result (MakesChanges told changes store next disk after) → OnOk result (SetsSources told wanted store next disk after)
  on_set wanted store next disk after changes (Ok x) are makes = are_set wanted store next disk after changes are makes
  on_set wanted store next disk after changes (Err e) are makes = tt

  -- ---- where it stops

  module _ (law : ChangesFollow told) (changes made rest : List Change) (change : Change) (whole : changes ≡ made ++ change ∷ rest)
      (store mid next : Store) (disk between after : Disk) (goes : Performs told made store mid disk between) where
    pub fails_at : (e : JournalFault) → HasFailed told change mid next between after e → FailsToMake told changes store next disk after e
    fails_at fault.Disk failed = record { made = made; change = change; rest = rest; whole = whole; mid = mid; between = between; goes = goes; failed = failed }
    fails_at (fault.NotOurs at) failed = failed
    fails_at (fault.Full at size) failed = record { made = made; change = change; rest = rest; whole = whole; mid = mid; between = between; goes = goes; failed = failed }
    fails_at fault.Memory failed = record {
      made = made;
      rest = change ∷ rest;
      whole = whole;
      goes = subst (λ (l : List Change). Performs told l store next disk after) (append-nil made)
          (law.behind made [] store mid next disk between after goes (law.none mid next between after failed));
    }

  -- before the first edit memory was wanting
  pub none_failed : ChangesFollow told → (changes : List Change) (store : Store) (disk : Disk) (e : JournalFault) → e ≡ fault.Memory
      → FailsToMake told changes store store disk disk e
  none_failed law changes store disk e is =
      subst (λ (given : JournalFault). FailsToMake told changes store store disk disk given) (sym is)
      (record { made = []; rest = changes; whole = refl; goes = (none_made law store disk).goes })

  -- ---- at any moment

  stop_at : ChangesStop told → (changes : List Change) (store next : Store) (disk after : Disk) (made rest : List Change) (change : Change) (mid : Store) (between : Disk) → changes ≡ made ++ change ∷ rest
      → Performs told made store mid disk between → StopsPerforming told (change ∷ []) mid between after → StopsPerforming told changes store disk after
  stop_at law changes store next disk after made rest change mid between whole goes stops =
      subst (λ (l : List Change). StopsPerforming told l store disk after) (append_assoc made (change ∷ []) rest ∙ sym whole)
      (law.longer (made ++ change ∷ []) rest store disk after (law.behind made (change ∷ []) store mid disk between after goes stops))

  stop_after : ChangesStop told → (changes made rest : List Change) (store next : Store) (disk after : Disk) → changes ≡ made ++ rest
      → Performs told made store next disk after
      → StopsPerforming told changes store disk after
  stop_after law changes made rest store next disk after whole goes =
      subst (λ (l : List Change). StopsPerforming told l store disk after) (sym whole) (law.longer made rest store disk after
      (law.left made store next disk after goes))

  -- an edit that was refused as the file is full left all as it was
  full_same : ChangesFollow told → (made : List Change) (store mid next : Store) (disk between after : Disk)
      → Performs told made store mid disk between → IsSame mid next between after → Performs told made store next disk after
  full_same law made store mid next disk between after goes same =
      subst (λ (l : List Change). Performs told l store next disk after) (append-nil made) (law.behind made [] store mid next disk between after goes
      (law.none mid next between after same))

  fault_stops : ChangesFollow told → ChangesStop told → (changes : List Change) (store next : Store) (disk after : Disk) (e : JournalFault)
      → FailsToMake told changes store next disk after e
      → StopsPerforming told changes store disk after
  fault_stops follow law changes store next disk after fault.Disk f = stop_at law changes store next disk after f.made f.rest f.change f.mid f.between f.whole f.goes f.failed.1
  fault_stops follow law changes store next disk after (fault.NotOurs at) f = absurd f
  fault_stops follow law changes store next disk after (fault.Full at size) f =
      stop_after law changes f.made (f.change ∷ f.rest) store next disk after f.whole
      (full_same follow f.made store f.mid next disk f.between after f.goes f.failed.1.0)
  fault_stops follow law changes store next disk after fault.Memory f = stop_after law changes f.made f.rest store next disk after f.whole f.goes

  -- none was made
  pub none_stops : ChangesFollow told → ChangesStop told → (changes : List Change) (store : Store) (disk : Disk) → StopsPerforming told changes store disk disk
  none_stops follow law changes store disk = stop_after law changes [] changes store store disk disk refl (none_made follow store disk).goes

  -- whatever comes of the edits, some first ones were made
  pub stops : {T : Type 0} → ChangesFollow told → ChangesStop told
      → (changes : List Change) (store next : Store) (disk after : Disk) (result : Result T JournalFault)
      → OnOk result (MakesChanges told changes store next disk after) → IfErr result (FailsToMake told changes store next disk after)
      → StopsPerforming told changes store disk after
  stops follow law changes store next disk after (Ok x) makes fails = law.left changes store next disk after makes.goes
  stops follow law changes store next disk after (Err e) makes fails = fault_stops follow law changes store next disk after e fails
