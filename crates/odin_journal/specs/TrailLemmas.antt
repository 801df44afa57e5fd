-- Trails grow call by call. No lemma looks into what a change is.
use Rattle.std.proofs.Common.{◌≡◌, ◌⊎◌, inl, inr, ℕ, ◌≤◌, List, [], ◌∷◌, ◌++◌, length, refl, sym, ap, subst, arith, append_assoc, length-append}
use Rattle.std.proofs.lemmas.List.{take_all, take-append-le}
use Rattle.odin_outside.specs.Disk.{Telling, MayLeave, LeavesOnly}
use Rattle.odin_outside.specs.Moments.{then, weaker}
use Rattle.odin_journal.specs.Trails.{Keeping, after_changes, IsPrefix, Trail, LeavesPrefix, KeepsChange, StopsIn, ExtendsTrail, StopsWithin}

nothing_behind : {A : Type 0} (xs : List A) → xs ++ [] ≡ xs
nothing_behind [] = refl
nothing_behind (x ∷ xs) = ap (λ l. x ∷ l) (nothing_behind xs)

module _ {Kept Change Store : Type 0} (m : Keeping Kept Change Store) where
  pub after-append : (some more : List Change) (kept : Kept) → after_changes m (some ++ more) kept ≡ after_changes m more (after_changes m some kept)
  after-append [] more kept = refl
  after-append (change ∷ some) more kept = after-append some more (m.apply change kept)

  -- ---- first changes

  prefix-less : (first : Kept) (least less : ℕ) (changes : List Change) (image : List ℕ) → less ≤ least → IsPrefix m first least changes image → IsPrefix m first less changes image
  prefix-less first least less changes image le some = let bound = some.at_least in record { k = some.k; at_least = omega arith; at_most = some.at_most; stands = some.stands }

  prefix-longer : (first : Kept) (least : ℕ) (changes more : List Change) (image : List ℕ) → IsPrefix m first least changes image → IsPrefix m first least (changes ++ more) image
  prefix-longer first least changes more image some =
      let most = some.at_most in
      record {
        k = some.k;
        at_least = some.at_least;
        at_most = omega (arith, length-append changes more);
        stands = subst (λ l. m.StandsFor (after_changes m l first) image) (sym (take-append-le some.k changes more some.at_most)) some.stands;
      }

  prefix-all : (first : Kept) (changes : List Change) (image : List ℕ) → m.StandsFor (after_changes m changes first) image → IsPrefix m first (length changes) changes image
  prefix-all first changes image stands = record {
    k = length changes;
    at_least = omega arith;
    at_most = omega arith;
    stands = subst (λ l. m.StandsFor (after_changes m l first) image) (sym (take_all (length changes) changes (omega arith))) stands;
  }

  prefix-none : (first : Kept) (image : List ℕ) → m.StandsFor first image → IsPrefix m first 0 [] image
  prefix-none first image stands = record { k = 0; at_least = omega arith; at_most = omega arith; stands = stands }

  -- with a change or without
  prefix-either : (first : Kept) (changes : List Change) (change : Change) (image : List ℕ)
      → m.StandsFor (after_changes m changes first) image ⊎ m.StandsFor (m.apply change (after_changes m changes first)) image → IsPrefix m first (length changes) (changes ++ change ∷ []) image
  prefix-either first changes change image (inl stands) = prefix-longer first (length changes) changes (change ∷ []) image (prefix-all first changes image stands)
  prefix-either first changes change image (inr stands) =
      prefix-less first (length (changes ++ change ∷ [])) (length changes) (changes ++ change ∷ []) image (omega (arith, length-append changes (change ∷ [])))
      (prefix-all first (changes ++ change ∷ []) image (subst (λ kept. m.StandsFor kept image) (sym (after-append changes (change ∷ []) first)) stands))

  -- ---- one call

  one_crash : (change : Change) (old : Telling) (store : Store) (new : Telling) → StopsIn m change old store new
      → (first : Kept) (start : Telling) (before : List Change) → Trail m first start before store old → LeavesOnly start new (IsPrefix m first 0 (before ++ change ∷ []))
  one_crash change old store new crash first start before trail =
      then start old new (IsPrefix m first 0 before) (λ image. m.StandsFor (after_changes m before first) image ⊎ m.StandsFor (m.apply change (after_changes m before first)) image) (IsPrefix m first 0 (before ++ change ∷ []))
      trail.crash (crash (after_changes m before first) trail.rests)
      (λ image some. prefix-longer first 0 before (change ∷ []) image some)
      (λ image either. prefix-less first (length before) 0 (before ++ change ∷ []) image (omega arith) (prefix-either first before change image either))

  -- a call that keeps a change makes a trail one with that change
  pub keeps_trail : (change : Change) (old : Telling) (store : Store) (new : Telling) (next : Store) → KeepsChange m change old store new next
      → (first : Kept) (start : Telling) (before : List Change) → Trail m first start before store old → Trail m first start (before ++ change ∷ []) next new
  keeps_trail change old store new next keeps first start before trail = record {
    rests = subst (λ kept. m.Rests new next kept) (sym (after-append before (change ∷ []) first)) (keeps.rests (after_changes m before first) trail.rests);
    crash = one_crash change old store new keeps.crash first start before trail;
  }

  -- and one that stops within a change leaves all that came before
  pub stops_trail : (change : Change) (old : Telling) (store : Store) (new : Telling) → StopsIn m change old store new
      → (first : Kept) (start : Telling) (before : List Change) → Trail m first start before store old → LeavesPrefix m first start before (before ++ change ∷ []) new
  stops_trail change old store new stops first start before trail = record {
    crash = one_crash change old store new stops first start before trail;
    durable = λ image left. prefix-either first before change image ((stops (after_changes m before first) trail.rests).now image left);
  }

  -- ---- where a trail begins, and where it is left

  leaves-none : (first : Kept) (start now : Telling) → LeavesOnly start now (m.StandsFor first) → LeavesOnly start now (IsPrefix m first 0 [])
  leaves-none first start now crash = weaker start now (m.StandsFor first) (IsPrefix m first 0 []) crash (λ image stands. prefix-none first image stands)

  -- an opened store is a trail with no change
  pub opened_trail : (first : Kept) (start now : Telling) (store : Store) → m.Rests now store first → LeavesOnly start now (m.StandsFor first) → Trail m first start [] store now
  opened_trail first start now store rests crash = record { rests = rests; crash = leaves-none first start now crash }

  -- and one that couldn't be opened leaves what there was
  pub unopened_leaves : (first : Kept) (start now : Telling) → LeavesOnly start now (m.StandsFor first) → LeavesPrefix m first start [] [] now
  unopened_leaves first start now crash = let leaves = leaves-none first start now crash in record { crash = leaves; durable = leaves.now }

  -- a trail can be left at any moment, with all that is in it acknowledged
  pub trail_leaves : (first : Kept) (start now : Telling) (changes : List Change) (store : Store)
      → ((kept : Kept) → m.Rests now store kept → (image : List ℕ) → MayLeave now image → m.StandsFor kept image)
      → Trail m first start changes store now → LeavesPrefix m first start changes changes now
  trail_leaves first start now changes store durable trail = record {
    crash = trail.crash;
    durable = λ image left. prefix-all first changes image (durable (after_changes m changes first) trail.rests image left);
  }

  -- ---- what is acknowledged

  -- less may be acknowledged than is
  pub leaves_less : (first : Kept) (start now : Telling) (acknowledged more furthest : List Change) → LeavesPrefix m first start (acknowledged ++ more) furthest now → LeavesPrefix m first start acknowledged furthest now
  leaves_less first start now acknowledged more furthest leaves = record {
    crash = leaves.crash;
    durable = λ image left. prefix-less first (length (acknowledged ++ more)) (length acknowledged) furthest image (omega (arith, length-append acknowledged more)) (leaves.durable image left);
  }

  -- what is acknowledged stays so in a longer furthest
  pub leaves_longer : (first : Kept) (start now : Telling) (acknowledged furthest more : List Change) → LeavesPrefix m first start acknowledged furthest now → LeavesPrefix m first start acknowledged (furthest ++ more) now
  leaves_longer first start now acknowledged furthest more leaves = record {
    crash = weaker start now (IsPrefix m first 0 furthest) (IsPrefix m first 0 (furthest ++ more)) leaves.crash (λ image some. prefix-longer first 0 furthest more image some);
    durable = λ image left. prefix-longer first (length acknowledged) furthest more image (leaves.durable image left);
  }

-- ---- calls that follow each other

module _ {Kept Change Store Disk : Type 0} (m : Keeping Kept Change Store) (told : Disk → Telling) where
  -- a call that keeps a change, and one that stops within it
  pub keeps_grows : (change : Change) (old new : Disk) (store next : Store) → KeepsChange m change (told old) store (told new) next → ExtendsTrail m told (change ∷ []) old store new next
  keeps_grows change old new store next keeps first start before trail = keeps_trail m change (told old) store (told new) next keeps first (told start) before trail

  pub stops_within : (change : Change) (old new : Disk) (store : Store) → StopsIn m change (told old) store (told new) → StopsWithin m told (change ∷ []) old store new
  stops_within change old new store stops first start before trail = stops_trail m change (told old) store (told new) stops first (told start) before trail

  -- an untouched disk keeps no change
  pub untouched_grows : (old new : Disk) (store next : Store) → new ≡ old → ((kept : Kept) → m.Rests (told old) store kept → m.Rests (told old) next kept) → ExtendsTrail m told [] old store new next
  untouched_grows old new store next same rests first start before trail =
      subst (λ disk. Trail m first (told start) (before ++ []) next (told disk)) (sym same)
      (subst (λ changes. Trail m first (told start) changes next (told old)) (sym (nothing_behind before)) (record { rests = rests (after_changes m before first) trail.rests; crash = trail.crash }))

  -- nor does no call
  pub none_grows : (disk : Disk) (store : Store) → ExtendsTrail m told [] disk store disk store
  none_grows disk store = untouched_grows disk disk store store refl (λ kept rests. rests)

  -- one after the other
  pub grows_on : (some more : List Change) (old mid new : Disk) (store stored next : Store)
      → ExtendsTrail m told some old store mid stored → ExtendsTrail m told more mid stored new next → ExtendsTrail m told (some ++ more) old store new next
  grows_on some more old mid new store stored next grows also first start before trail =
      subst (λ changes. Trail m first (told start) changes next (told new)) (append_assoc before some more) (also first start (before ++ some) (grows first start before trail))

  -- a call that stops after others
  pub grows_stops : (some more : List Change) (old mid new : Disk) (store stored : Store)
      → ExtendsTrail m told some old store mid stored → StopsWithin m told more mid stored new → StopsWithin m told (some ++ more) old store new
  grows_stops some more old mid new store stored grows stops first start before trail =
      leaves_less m first (told start) (told new) before some (before ++ (some ++ more))
      (subst (λ furthest. LeavesPrefix m first (told start) (before ++ some) furthest (told new)) (append_assoc before some more) (stops first start (before ++ some) (grows first start before trail)))

  -- calls that keep changes can be left at any moment
  pub grows_left : (changes : List Change) (old new : Disk) (store next : Store)
      → ((kept : Kept) → m.Rests (told new) next kept → (image : List ℕ) → MayLeave (told new) image → m.StandsFor kept image)
      → ExtendsTrail m told changes old store new next → StopsWithin m told changes old store new
  grows_left changes old new store next durable grows first start before trail =
      leaves_less m first (told start) (told new) before changes (before ++ changes) (trail_leaves m first (told start) (told new) (before ++ changes) next durable (grows first start before trail))

  -- and what may be left may be left of more
  pub stops_longer : (changes more : List Change) (old new : Disk) (store : Store) → StopsWithin m told changes old store new → StopsWithin m told (changes ++ more) old store new
  stops_longer changes more old new store stops first start before trail =
      subst (λ furthest. LeavesPrefix m first (told start) before furthest (told new)) (append_assoc before changes more) (leaves_longer m first (told start) (told new) before (before ++ changes) more (stops first start before trail))
