-- How many looks a walk takes: at records of nodes, and at kept calls.
use Rattle.std.specs.Prelude.{◌≡◌, ◌≢◌, ⊤, ℕ, ◌+◌, ◌≤◌, Bool, true, false, cond, List, [], ◌∷◌, ◌++◌, length, Option, Some, is_some, Result, Ok, Err, IfOk, OnOk}
use Rattle.object_values.specs.declared.nodes.Step.{Step}
use Rattle.object_values.specs.declared.nodes.Node.{Node}
use Rattle.meaning_texts.specs.Limits.{height_limit}
use Rattle.meaning_texts.specs.Lists.{IsIn}
use Rattle.meaning_graph.specs.Graphs.{Graph}
use Rattle.meaning_derive.specs.Chains.{AreDifferent}
use Rattle.meaning_derive.specs.Derive.{Sources, Outcomes}
use Rattle.meaning_true.specs.Knowing.{KeptRecords, MayLook, TakesOutcome}
use Rattle.derive_walk.specs.declared.found.Found.{Found}
use Rattle.derive_walk.specs.declared.found.Found.TheVariants.{Deep}
use Rattle.derive_walk.specs.declared.walk.Walk.{Walk}
use Rattle.derive_walk.specs.Calls.{GivenOutcomes}
use Rattle.derive_walk.specs.declared.settling.Closed.{Closed}
use Rattle.derive_walk.specs.Looked.{AreTaken, IsEnded}
use Rattle.derive_walk.specs.Places.{Lookups, looked_nodes, place_in}
use Rattle.derive_walk.specs.Walks.{Walked}
use Rattle.derive_walk.specs.Worlds.{World}

-- ---- the steps of a walk

-- a node is looked at once, and for some an outcome is looked for
abbrev pub looks_in : Walk → ℕ
looks_in walk = length walk.looked + length walk.taken

abbrev pub looks_by : Walked → ℕ
looks_by walked = length walked.looked + length walked.taken

-- a source has no steps, and takes no look
abbrev pub one_if : List Step → ℕ
one_if [] = 0
one_if (step ∷ steps) = 1

-- the look at a node that wasn't looked at
abbrev pub look_beyond : Lookups → Node → ℕ
look_beyond looked n = cond (is_some (place_in looked n)) 0 (one_if n.steps)

-- one for each of these
abbrev pub looks_beyond : Lookups → List Node → ℕ
looks_beyond looked [] = 0
looks_beyond looked (n ∷ nodes) = look_beyond looked n + looks_beyond looked nodes

-- the look at the last of them
abbrev pub last_beyond : Lookups → List Node → ℕ
last_beyond looked [] = 0
last_beyond looked (n ∷ []) = look_beyond looked n
last_beyond looked (n ∷ m ∷ nodes) = last_beyond looked (m ∷ nodes)

-- where memory was wanting a look is lost, or those at a chain that was followed down
abbrev pub lost : {T E : Type 0} → Result T E → ℕ
lost (Ok value) = 0
lost (Err fault) = height_limit + 1

-- the nodes of a deep chain that were not looked at may be
abbrev pub spare_for : Lookups → Option Found → ℕ
spare_for looked (Some (Deep chain)) = looks_beyond looked chain
spare_for looked other = 0

abbrev pub spare_at : {E : Type 0} → Lookups → Result (Option Found) E → ℕ
spare_at looked (Ok found) = spare_for looked found
spare_at looked (Err fault) = height_limit + 1

-- No more was looked at, nor an outcome looked for.
pub record LooksNoMore (old new : Walk) : Type 0 where
  pub looked : new.looked ≡ old.looked
  pub taken : new.taken ≡ old.taken

-- So it is as a node is closed, which has a result from then on, or whose call is wanted.
pub record ClosesAlone {E : Type 0} (old new : Walk) (n : Node) (closed : Closed) (result : Result ⊤ E) : Type 0 where
  pub same : LooksNoMore old new
  pub ended : OnOk result (IsEnded new.done new.wanted n closed)

-- Some looks were counted before, and more now: each was a step, and no other step was taken, but for so many.
pub record TakesLooks (some many before now spare : ℕ) : Type 0 where
  pub more : some ≤ many
  pub least : before + many ≤ now + some
  pub most : now + some ≤ before + many + spare

-- The steps of a walk within an advance. Where what is trusted holds, no outcome was looked for twice, nor one that needn't be.
pub record GoesByLooks (w : World) (given : GivenOutcomes) (trust : Type 0) (old new : Walk) (before now spare : ℕ) : Type 0 where
  pub steps : TakesLooks (looks_in old) (looks_in new) before now spare
  pub taken : trust → AreTaken w given old.looked old.done old.wanted old.taken
      → AreTaken w given new.looked new.done new.wanted new.taken

-- ---- a chain that is followed down

-- one node stands after the others, or nothing changes
abbrev pub IsLonger : Bool → List Node → List Node → Type 0
IsLonger true old new = (n : Node) × (new ≡ old ++ n ∷ [])
IsLonger false old new = new ≡ old

-- The last node of the chain was looked at, unless it was before, and another one may stand after it.
pub record StepsDown {E : Type 0} (looked : Lookups) (old new : List Node) (before now : ℕ) (result : Result Bool E) : Type 0 where
  pub later : before ≤ now
  pub most : now ≤ before + last_beyond looked old
  pub one : IfOk result (λ more. IsLonger more old new)

-- Each node of the chain that wasn't looked at took one look at most, and no other did.
pub record LooksDown {E : Type 0} (looked : Lookups) (before now : ℕ) (result : Result (List Node) E) : Type 0 where
  pub later : before ≤ now
  pub most : now ≤ before + (height_limit + 1)
  pub ok : IfOk result (λ chain. now ≤ before + looks_beyond looked chain)

-- ---- the nodes that were looked at

-- Different nodes with steps that may be looked at; and among them different ones whose tools are run without a record that is present.
pub record HasLookedAt (w : World) (walked : Walked) : Type 0 where
  pub different : AreDifferent (looked_nodes walked.looked)
  pub stepped : (n : Node) → IsIn n (looked_nodes walked.looked) → n.steps ≢ []
  pub may : (n : Node) → IsIn n (looked_nodes walked.looked)
      → MayLook w.graph w.sources w.outcomes w.records walked.root n
  pub once : AreDifferent walked.taken
  pub among : (n : Node) → IsIn n walked.taken
      → IsIn n (looked_nodes walked.looked) × TakesOutcome w.graph w.sources w.outcomes w.records n

-- each node with steps that may be looked at was
abbrev pub AllAreLookedAt : World → Walked → Type 0
AllAreLookedAt w walked =
    (n : Node) → MayLook w.graph w.sources w.outcomes w.records walked.root n
    → n.steps ≢ [] → IsIn n (looked_nodes walked.looked)

-- ---- the looks of a derivation that found no answer

-- One for each of these nodes, which may be looked at, one more at most for each that takes an outcome, and so many more.
pub record LooksAreWithin (g : Graph) (s : Sources) (outcomes : Outcomes) (records : KeptRecords) (root : Node) (first last spare : ℕ) : Type 0 where
  pub looked : List Node
  pub different : AreDifferent looked
  pub stepped : (n : Node) → IsIn n looked → n.steps ≢ []
  pub may : (n : Node) → IsIn n looked → MayLook g s outcomes records root n
  pub taken : List Node
  pub once : AreDifferent taken
  pub among : (n : Node) → IsIn n taken → IsIn n looked × TakesOutcome g s outcomes records n
  pub least : first + length looked ≤ last
  pub most : last ≤ first + length looked + length taken + spare

-- The same where the root is too deep: each node of the chain that is none of these takes one look at most.
pub record LooksAreDeep (g : Graph) (s : Sources) (outcomes : Outcomes) (records : KeptRecords) (root : Node) (chain : List Node) (first last : ℕ) : Type 0 where
  pub beyond : List Node
  pub different : AreDifferent beyond
  pub stepped : (n : Node) → IsIn n beyond → n.steps ≢ []
  pub among : (n : Node) → IsIn n beyond → IsIn n chain
  pub looks : LooksAreWithin g s outcomes records root first last (length beyond)
  pub apart : (n : Node) → IsIn n beyond → IsIn n looks.looked → ⊥

-- ---- the settling of one node

-- Whether an outcome was looked for, by one step, where memory sufficed.
pub record LooksOnce {T E : Type 0} (before now : ℕ) (looked : T → Bool) (result : Result T E) : Type 0 where
  pub later : before ≤ now
  pub once : now ≤ before + 1
  pub ok : IfOk result (λ value. now ≡ before + cond (looked value) 1 0)
