-- What a walk keeps true within one advance.
use Rattle.std.specs.Prelude.{◌≡◌, ◌⊎◌, ℕ, ◌+◌, ◌<◌, ◌≤◌, List, Option, Some, None, IsSome}
use Rattle.object_values.specs.declared.nodes.Node.{Node}
use Rattle.object_values.specs.declared.calls.Call.{Call}
use Rattle.meaning_texts.specs.Limits.{height_limit}
use Rattle.meaning_texts.specs.Lists.{IsIn}
use Rattle.meaning_graph.specs.Graphs.{Graph}
use Rattle.meaning_tasks.specs.Nodes.{Fits}
use Rattle.meaning_tasks.specs.Needs.{Grows}
use Rattle.meaning_derive.specs.Calls.{Runs}
use Rattle.derive_walk.specs.Tables.{heights_of, height_in, results_of}
use Rattle.derive_walk.specs.Calls.{AreOnce}
use Rattle.derive_walk.specs.declared.found.Found.{Found}
use Rattle.derive_walk.specs.declared.walk.Walk.{Walk}
use Rattle.derive_walk.specs.Founds.{IsFound, IsFitChain}
use Rattle.derive_walk.specs.Walks.{AreFormedDone, AreFormedCalls, AreDone, AreMet}
use Rattle.derive_walk.specs.Looked.{AreLookups, MayBeLooked}
use Rattle.derive_walk.specs.Places.{Lookups, place_in}
use Rattle.derive_walk.specs.Told.{AreTold, AreToldRightly}
use Rattle.derive_walk.specs.Worlds.{World, KnowsIn, seen_in, IsNeedIn, StopsAtCall}

-- the heights of the nodes that were visited
abbrev pub heights_in : Walk → Node → Option ℕ
heights_in walk = heights_of walk.done walk.waiting

-- ---- heights

-- The need was visited, and is lower.
pub record IsLowerNeed (heights : Node → Option ℕ) (m : Node) (height : ℕ) : Type 0 where
  pub below : ℕ
  pub is : heights m ≡ Some below
  pub lower : below < height

-- A need that is just one lower.
pub record NeedBelow (w : World) (heights : Node → Option ℕ) (n : Node) (height : ℕ) : Type 0 where
  pub need : Node
  pub one : IsNeedIn w n need
  pub below : ℕ
  pub is : heights need ≡ Some below
  pub next : below + 1 ≡ height

-- A node without a result: one of its needs has none, or its call is wanted. Its needs were visited
-- and are lower, and one is just one lower, unless there is none.
pub record IsWaiting (w : World) (heights : Node → Option ℕ) (wanted : List Call) (n : Node)
    (height : ℕ) : Type 0 where
  pub fits : Fits w.graph n
  pub high : height ≤ height_limit
  pub none : seen_in w n ≡ None
  pub call : (c : Call) → Runs w.graph (seen_in w) n c → IsIn c wanted
  pub lower : (m : Node) → IsNeedIn w n m → IsLowerNeed heights m height
  pub tight : (height ≡ 1) ⊎ NeedBelow w heights n height

-- ---- the walk, right or not

-- The node fits, and its height is from 1 to the limit.
pub record IsFormedWait (g : Graph) (n : Node) (height : ℕ) : Type 0 where
  pub fits : Fits g n
  pub low : 0 < height
  pub high : height ≤ height_limit

-- What is done, waits or is wanted is formed.
pub record IsFormedIn (w : World) (walk : Walk) : Type 0 where
  pub root : Fits w.graph walk.root
  pub done : AreFormedDone w.graph walk.done
  pub told : AreTold w walk.done walk.fresh walk.renewed
  pub looked : AreLookups w walk.done walk.looked
  pub waiting : (n : Node) (h : ℕ) → height_in walk.waiting n ≡ Some h → IsFormedWait w.graph n h
  pub wanted : AreFormedCalls w.outcomes walk.wanted

-- ---- the walk, as far as it is right

-- What is kept of nodes is true, and so is what is told. Each node that was visited is done, and met from the root, or waits. Each wanted call is one at
-- which the derivation stops. Where a node waits some call is wanted.
pub record HoldsIn (w : World) (walk : Walk) : Type 0 where
  pub knows : KnowsIn w
  pub done : AreDone w walk.done
  pub met : AreMet w walk.root walk.done
  pub rightly : AreToldRightly w walk.fresh walk.renewed
  pub may : MayBeLooked w walk.root walk.looked
  pub waiting : (n : Node) (h : ℕ) → height_in walk.waiting n ≡ Some h
      → IsWaiting w (heights_in walk) walk.wanted n h
  pub one : (n : Node) (h : ℕ) → height_in walk.waiting n ≡ Some h
      → (call : Call) × IsIn call walk.wanted
  pub only : (call : Call) → IsIn call walk.wanted → StopsAtCall w walk.root call
  pub once : AreOnce walk.wanted

-- ---- as it goes on

-- What was visited, what was looked at and what is wanted stays, and so do results.
pub record GoesOnFrom (old new : Walk) : Type 0 where
  pub root : new.root ≡ old.root
  pub wanted : (call : Call) → IsIn call old.wanted → IsIn call new.wanted
  pub keeps : (m : Node) (k : ℕ) → heights_in old m ≡ Some k → heights_in new m ≡ Some k
  pub looked : (m : Node) (place : Option ℕ) → place_in old.looked m ≡ Some place
      → place_in new.looked m ≡ Some place
  pub results : Grows (results_of old.done) (results_of new.done)

-- Nothing changes but what was looked at, which stays.
pub record OnlyLooks (old new : Walk) : Type 0 where
  pub looked : Lookups
  pub is : new ≡ record old { looked = looked }
  pub stays : (m : Node) (place : Option ℕ) → place_in old.looked m ≡ Some place
      → place_in looked m ≡ Some place

-- The node was visited, and no other node of the path.
pub record Visited (w : World) (old new : Walk) (n : Node) : Type 0 where
  pub path : new.path ≡ old.path
  pub there : IsSome (heights_in new n)
  pub apart : (m : Node) → IsIn m old.path → (m ≡ n → ⊥) → heights_in new m ≡ None

-- A chain of nodes that fit was found, from the root where what is trusted holds, or the node was
-- visited.
abbrev pub AfterVisit : World → Type 0 → Walk → Walk → Node → Option Found → Type 0
AfterVisit w trust old new n None = Visited w old new n
AfterVisit w trust old new n (Some found) =
    IsFitChain w.graph found × (trust → IsFound w.graph w.sources w.outcomes old.root found)
