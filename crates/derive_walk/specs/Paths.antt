-- The path of a walk, and the chains that it ends in.
use Rattle.std.specs.Prelude.{◌≡◌, ◌≢◌, ◌⊎◌, ℕ, suc, ◌+◌, ◌<◌, ◌≤◌, List, [], ◌∷◌, ◌++◌, length, true, Option, Some, None, IsSome, IfSome}
use Rattle.object_values.specs.declared.nodes.Node.{Node}
use Rattle.meaning_texts.specs.Limits.{height_limit}
use Rattle.meaning_texts.specs.Lists.{IsIn}
use Rattle.meaning_tasks.specs.Nodes.{Fits}
use Rattle.meaning_tasks.specs.Needs.{Needs}
use Rattle.meaning_derive.specs.Chains.{Chain, IsNeed, AreDifferent}
use Rattle.node_tasks.specs.declared.ahead.Ahead.{Ahead}
use Rattle.node_tasks.specs.declared.needed.Needed.{Needed}
use Rattle.node_tasks.specs.Ahead.{IsAhead}
use Rattle.node_tasks.specs.Needed.{IsNeeded}
use Rattle.meaning_true.specs.Knowing.{KeptRecord, IsChecked, MayLook}
use Rattle.derive_walk.specs.Places.{place_in}
use Rattle.derive_walk.specs.Tables.{results_of, are_done, top_of, of_height}
use Rattle.derive_walk.specs.declared.done.Done.{Done}
use Rattle.derive_walk.specs.declared.found.Found.{Found}
use Rattle.derive_walk.specs.declared.survey.Survey.{Survey}
use Rattle.derive_walk.specs.Surveys.{survey_of}
use Rattle.derive_walk.specs.declared.rounds.Round.{Round}
use Rattle.derive_walk.specs.declared.rounds.Round.TheVariants.{Renews, Visits, Closes}
use Rattle.derive_walk.specs.declared.walk.Walk.{Walk}
use Rattle.derive_walk.specs.declared.settling.Closed.{Closed}
use Rattle.derive_walk.specs.Settled.{NodeIsClosed}
use Rattle.derive_walk.specs.Founds.{NodesFit}
use Rattle.derive_walk.specs.States.{heights_in, IsFormedIn, HoldsIn}
use Rattle.derive_walk.specs.Trials.{IsCurrent, IsTried}
use Rattle.derive_walk.specs.declared.trial.Current.{Current as CurrentValue}
use Rattle.derive_walk.specs.declared.renewing.Recorded.{Recorded}
use Rattle.derive_walk.specs.declared.renewing.Recorded.TheVariants.{Checked, Current}
use Rattle.derive_walk.specs.CheckedRecords.{HasChecked, tight_node}
use Rattle.derive_walk.specs.DerivedHeights.{heights_or}
use Rattle.derive_walk.specs.Walks.{FindsOrWants, IsPlacedIn}
use Rattle.derive_walk.specs.Worlds.{World, seen_in, IsNeedIn}

-- a chain from the root
abbrev pub IsChainFromRoot : World → Walk → List Node → Type 0
IsChainFromRoot w walk chain = Chain w.graph (seen_in w) walk.root chain

-- ---- the path

-- Its nodes fit, are different, and were not visited; they are no more than the height limit.
pub record IsPath (w : World) (walk : Walk) (path : List Node) : Type 0 where
  pub fit : (n : Node) → IsIn n path → Fits w.graph n
  pub apart : (n : Node) → IsIn n path → heights_in walk n ≡ None
  pub different : AreDifferent path
  pub few : length path ≤ height_limit

-- The node may be visited next: the path with it is one.
pub record IsNext (w : World) (walk : Walk) (n : Node) : Type 0 where
  pub formed : IsFormedIn w walk
  pub path : IsPath w walk (walk.path ++ n ∷ [])

-- The node is the last of the path, and was looked at.
pub record IsLast (w : World) (walk : Walk) (n : Node) : Type 0 where
  pub formed : IsFormedIn w walk
  pub front : List Node
  pub is : walk.path ≡ front ++ n ∷ []
  pub path : IsPath w walk walk.path
  pub looked : n.steps ≢ [] → IsSome (place_in walk.looked n)

-- each of the nodes may be looked at
abbrev pub MayBeOnPath : World → Walk → List Node → Type 0
MayBeOnPath w walk path = (n : Node) → IsIn n path
    → MayLook w.graph w.sources w.outcomes w.records walk.root n

-- The walk is right so far, and its path leads from the root, over nodes that may be looked at.
pub record IsLed (w : World) (walk : Walk) : Type 0 where
  pub holds : HoldsIn w walk
  pub leads : IsChainFromRoot w walk walk.path
  pub may : MayBeOnPath w walk walk.path

-- The same where the node is visited next.
pub record LeadsTo (w : World) (walk : Walk) (n : Node) : Type 0 where
  pub holds : HoldsIn w walk
  pub leads : IsChainFromRoot w walk (walk.path ++ n ∷ [])
  pub may : MayBeOnPath w walk (walk.path ++ n ∷ [])

-- nothing is on the way, and nothing waits
pub record HasEmptyPath (walk : Walk) : Type 0 where
  pub path : walk.path ≡ []
  pub waiting : walk.waiting ≡ []

-- ---- closing

-- These are the needs of the node by the results so far, and each was visited.
pub record AreVisited (w : World) (walk : Walk) (n : Node) (needs : List Node) : Type 0 where
  pub listed : Needs w.graph n (results_of walk.done) needs
  pub each : (m : Node) → IsIn m needs → IsSome (heights_in walk m)

-- This was found of the needs of the node by the results so far.
pub record IsSurveyed (w : World) (walk : Walk) (n : Node) (survey : Survey) : Type 0 where
  pub needs : List Node
  pub listed : Needs w.graph n (results_of walk.done) needs
  pub is : survey ≡ survey_of walk.done walk.waiting needs

-- The node has no record that is current over the results so far.
abbrev pub HasNoCurrent : World → Walk → Node → Type 0
HasNoCurrent w walk n = (k : KeptRecord) → w.records n ≡ Some k → IsTried walk.done k.fact None

-- It is a source, or has no record that is checked or current.
abbrev pub IsAnew : World → Walk → Node → Type 0
IsAnew w walk n = (n.steps ≡ []) ⊎ ((¬ IsChecked w.records n) × HasNoCurrent w walk n)

-- A whole round of the node: this is what it needs by the results so far, this was found of its
-- needs, each was visited, and no record of it is current.
pub record IsWholeRound (w : World) (walk : Walk) (n : Node) (needed : Needed)
    (survey : Survey) : Type 0 where
  pub found : IsNeeded w.graph n (results_of walk.done) needed
  pub surveyed : IsSurveyed w walk n survey
  pub visited : survey.unvisited ≡ []
  pub anew : IsAnew w walk n

-- The node may be closed at the height: this is what it needs, its needs are done, and the height
-- is one above the greatest of theirs. No record of it is current.
pub record IsClosing (w : World) (walk : Walk) (n : Node) (needed : Needed)
    (height : ℕ) : Type 0 where
  pub found : IsNeeded w.graph n (results_of walk.done) needed
  pub needs : List Node
  pub listed : Needs w.graph n (results_of walk.done) needs
  pub done : are_done walk.done needs ≡ true
  pub above : height ≡ top_of (heights_in walk) needs + 1
  pub high : height ≤ height_limit
  pub anew : IsAnew w walk n

-- That is so, and this is what came of it.
pub record ClosesSo (w : World) (walk : Walk) (n : Node) (needed : Needed) (height : ℕ) (closed : Closed) : Type 0 where
  pub closing : IsClosing w walk n needed height
  pub is : NodeIsClosed w n (results_of walk.done) closed

-- ---- closing by a record

-- The node has steps, and its record is current.
pub record HasCurrent (w : World) (walk : Walk) (n : Node) (current : CurrentValue) : Type 0 where
  pub stepped : n.steps ≢ []
  pub kept : KeptRecord
  pub is : w.records n ≡ Some kept
  pub holds : IsCurrent walk.done kept.fact current

-- the result that it gives
abbrev pub done_of : Recorded → Done
done_of (Checked done) = done
done_of (Current current) = current.done

-- what its record gives, as it stands or as it was tried
abbrev pub IsByRecord : World → Walk → Node → Recorded → Type 0
IsByRecord w walk n (Checked done) = HasChecked w n done
IsByRecord w walk n (Current current) = HasCurrent w walk n current

-- that, where there is something; else it is a source, or has no record that is checked or current
abbrev pub IsRecorded : World → Walk → Node → Option Recorded → Type 0
IsRecorded w walk n None = IsAnew w walk n
IsRecorded w walk n (Some recorded) = IsByRecord w walk n recorded

-- ---- following lines

-- What the node was told ahead are lines by the results so far.
abbrev pub IsAheadIn : World → Walk → Node → Ahead → Type 0
IsAheadIn w walk n ahead = IsAhead w.graph n (results_of walk.done) ahead

-- A need of the node by the results so far that was not visited.
pub record IsUnvisited (w : World) (walk : Walk) (n m : Node) : Type 0 where
  pub need : IsNeed w.graph (results_of walk.done) n m
  pub unseen : heights_in walk m ≡ None

-- These needs are visited next: there are some, and none of them was visited. The node's record isn't checked.
pub record AreToVisit (w : World) (walk : Walk) (n : Node) (needs : List Node) : Type 0 where
  pub some : needs ≢ []
  pub unchecked : (n.steps ≡ []) ⊎ (¬ IsChecked w.records n)
  pub each : (m : Node) → IsIn m needs → IsUnvisited w walk n m

-- A round visits needs, or closes the node: by its record where that is checked or current, or once all needs were visited.
abbrev pub IsRound : World → Walk → Node → Round → Type 0
IsRound w walk n (Renews recorded) = IsByRecord w walk n recorded
IsRound w walk n (Visits needs) = AreToVisit w walk n needs
IsRound w walk n (Closes needed survey) = IsWholeRound w walk n needed survey

-- ---- the root

-- After a walk from the root there is a result, or the root waits, where what is trusted holds.
pub record AfterRoot (w : World) (trust : Type 0) (walk : Walk) (found : Option Found) : Type 0 where
  pub fit : IfSome found (NodesFit w.graph)
  pub placed : IsPlacedIn walk.root walk.done found
  pub right : trust → FindsOrWants w walk.root walk.wanted found

-- ---- chains

-- All needs of the last node of the path were visited, and one is as high as the limit.
pub record IsTall (w : World) (walk : Walk) : Type 0 where
  pub last : Node
  pub is : IsLast w walk last
  pub needs : List Node
  pub visited : AreVisited w walk last needs
  pub need : Node
  pub one : IsIn need needs
  pub tall : heights_in walk need ≡ Some height_limit

-- The next node down by the record of this one, which is checked: its dep that is just one lower.
pub record IsNextByRecord (w : World) (n : Node) (next : Option Node) : Type 0 where
  pub checked : IsChecked w.records n
  pub is : next ≡ tight_node checked.kept

-- The next one by what the node needs over the results so far: the first need of the height.
pub record IsNextByNeeds (w : World) (walk : Walk) (n : Node) (height : ℕ) (next : Option Node) : Type 0 where
  pub unchecked : (n.steps ≡ []) ⊎ (¬ IsChecked w.records n)
  pub needs : List Node
  pub listed : Needs w.graph n (results_of walk.done) needs
  pub is : next ≡ of_height (heights_in walk) height needs

abbrev pub IsNextDown : World → Walk → Node → ℕ → Option Node → Type 0
IsNextDown w walk n height next = IsNextByRecord w n next ⊎ IsNextByNeeds w walk n height next

-- the record is checked, or all needs were visited
abbrev pub IsOpenDown : World → Walk → Node → Type 0
IsOpenDown w walk n =
    IsChecked w.records n ⊎ ((m : Node) → IsNeedIn w n m → IsSome (heights_in walk m))

-- A chain of different nodes from the root downwards: each is higher than the height, the last one just one, or
-- has no height. Unless the height is 0 one need of the last one is of it, and that need can be told: the
-- record is checked, or all needs were visited.
pub record LeadsDown (w : World) (walk : Walk) (chain : List Node) (height : ℕ) : Type 0 where
  pub holds : HoldsIn w walk
  pub front : List Node
  pub last : Node
  pub is : chain ≡ front ++ last ∷ []
  pub fits : Fits w.graph last
  pub leads : IsChainFromRoot w walk chain
  pub different : AreDifferent chain
  pub above : (n : Node) (k : ℕ) → IsIn n chain → heights_or w walk n ≡ Some k → height < k
  pub just : (k : ℕ) → heights_or w walk last ≡ Some k → k ≡ suc height
  pub told : (height ≡ 0) ⊎ IsOpenDown w walk last
  pub next : (height ≡ 0)
      ⊎ ((m : Node) × IsNeedIn w last m × (heights_or w walk m ≡ Some height))
