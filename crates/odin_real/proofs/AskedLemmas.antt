-- Child programs that were asked whether they have ended.
use Rattle.std.proofs.Common.{◌≡◌, ◌∙◌, ◌+◌, ◌<◌, ℕ, zero, suc, List, [], ◌∷◌, map, length, slice_index_or, slice_set, refl, sym, ap, ap₂, subst, arith}
use Rattle.std.specs.Prelude.{Option, Some, None, IfSome, IfOk, Result, Ok, remove}
use Rattle.odin_outside.specs.declared.events.Running.{Running}
use Rattle.odin_real.specs.Told.{ChildView, IsAsked, AreAsked, NoneEnded}

known : {X : Type 0} (x : Option X) → IfSome x (λ value. x ≡ Some value)
known None = tt
known (Some value) = refl

pub known_on : {X : Type 0} (P : X → Type 0) (x y : Option X) → IfSome x (λ value. y ≡ Some value) → IfSome y P → IfSome x P
known_on P None y told holds = tt
known_on P (Some value) y told holds = subst (λ now. IfSome now P) told holds

-- a wait that tells what was told before
pub told_on : {X E : Type 0} (old new : Option X) (result : Result X E) → IfSome old (λ told. result ≡ Ok told) → IfOk result (λ value. new ≡ Some value) → IfSome old (λ told. new ≡ Some told)
told_on None new result again kept = tt
told_on {X} {E} (Some told) new result again kept = subst (λ (result : Result X E). IfOk result (λ value. new ≡ Some value)) again kept

pub asked_same : (tool : ChildView) → IsAsked tool tool
asked_same tool = record { running = refl; folder = refl; status = known tool.status }

pub asked_twice : (a b c : ChildView) → IsAsked a b → IsAsked b c → IsAsked a c
asked_twice a b c first second = record {
  running = second.running ∙ first.running;
  folder = second.folder ∙ first.folder;
  status = known_on (λ value. c.status ≡ Some value) a.status b.status first.status second.status;
}

pub all_same : (tools : List ChildView) → AreAsked tools tools
all_same [] = tt
all_same (tool ∷ tools) = (asked_same tool, all_same tools)

pub all_twice : (firsts bs cs : List ChildView) → AreAsked firsts bs → AreAsked bs cs → AreAsked firsts cs
all_twice [] [] [] first second = tt
all_twice [] [] (c ∷ cs) first second = absurd second
all_twice [] (b ∷ bs) cs first second = absurd first
all_twice (a ∷ firsts) [] cs first second = absurd first
all_twice (a ∷ firsts) (b ∷ bs) [] first second = absurd second
all_twice (a ∷ firsts) (b ∷ bs) (c ∷ cs) first second = (asked_twice a b c first.0 second.0, all_twice firsts bs cs first.1 second.1)

one_asked : {X : Type 0} (f : X → ChildView) (now : List X) (k : ℕ) (d tool : X) → k < length now → IsAsked (f (slice_index_or now k d)) (f tool) → AreAsked (map f now) (map f (slice_set now k tool))
one_asked f [] k d tool inside asked = absurd (omega (arith, inside))
one_asked f (x ∷ now) zero d tool inside asked = (asked, all_same (map f now))
one_asked f (x ∷ now) (suc k) d tool inside asked = (asked_same (f x), one_asked f now k d tool (omega (arith, inside)) asked)

-- one more of them was asked
pub asked_there : {X : Type 0} (f : X → ChildView) (olds : List ChildView) (now : List X) (k : ℕ) (d tool : X) → k < length now → AreAsked olds (map f now) → IsAsked (f (slice_index_or now k d)) (f tool) → AreAsked olds (map f (slice_set now k tool))
asked_there f olds now k d tool inside before asked = all_twice olds (map f now) (map f (slice_set now k tool)) before (one_asked f now k d tool inside asked)

-- they run as before
pub runs_same : (olds news : List ChildView) → AreAsked olds news → map (λ tool. tool.running) news ≡ map (λ tool. tool.running) olds
runs_same [] [] asked = refl
runs_same [] (new ∷ news) asked = absurd asked
runs_same (old ∷ olds) [] asked = absurd asked
runs_same (old ∷ olds) (new ∷ news) asked = ap₂ (λ (tool : Running) tools. tool ∷ tools) asked.0.running (runs_same olds news asked.1)

pub runs_of : {X : Type 0} (f : X → ChildView) (xs : List X) → map (λ tool. tool.running) (map f xs) ≡ map (λ x. (f x).running) xs
runs_of f [] = refl
runs_of f (x ∷ xs) = ap (λ tools. (f x).running ∷ tools) (runs_of f xs)

-- the same of the tools that are seen so
pub runs_on : {X : Type 0} (f : X → ChildView) (olds news : List X) → AreAsked (map f olds) (map f news) → map (λ x. (f x).running) news ≡ map (λ x. (f x).running) olds
runs_on f olds news asked = sym (runs_of f news) ∙ runs_same (map f olds) (map f news) asked ∙ runs_of f olds

-- one at a place or after it is asked: those before it are as they were
pub none_still : {X : Type 0} (f : X → ChildView) (xs : List X) (k : ℕ) (tool : X) → NoneEnded k (map f xs) → NoneEnded k (map f (slice_set xs k tool))
none_still f [] k tool before = before
none_still f (x ∷ xs) zero tool before = tt
none_still f (x ∷ xs) (suc k) tool before = (before.0, none_still f xs k tool before.1)

-- and where it has told no end either, none up to it has
none_more : {X : Type 0} (f : X → ChildView) (xs : List X) (k : ℕ) (tool : X) → NoneEnded k (map f xs) → (f tool).status ≡ None → NoneEnded (suc k) (map f (slice_set xs k tool))
none_more f [] k tool before runs = tt
none_more f (x ∷ xs) zero tool before runs = (runs, tt)
none_more f (x ∷ xs) (suc k) tool before runs = (before.0, none_more f xs k tool before.1 runs)

pub none_next : {X : Type 0} (f : X → ChildView) (xs : List X) (k : ℕ) (tool : X) → NoneEnded k (map f xs) → (f tool).status ≡ None → NoneEnded (k + 1) (map f (slice_set xs k tool))
none_next f xs k tool before runs =
    let next : suc k ≡ k + 1 = omega arith in
    subst (λ n. NoneEnded n (map f (slice_set xs k tool))) next (none_more f xs k tool before runs)

-- those before a place stay where the one at it is taken out
pub none_left : {X : Type 0} (f : X → ChildView) (xs : List X) (k : ℕ) → NoneEnded k (map f xs) → NoneEnded k (map f (remove xs k))
none_left f [] zero before = tt
none_left f [] (suc k) before = tt
none_left f (x ∷ xs) zero before = tt
none_left f (x ∷ xs) (suc k) before = (before.0, none_left f xs k before.1)

-- beside the one at a place the same
pub same_beside : {X : Type 0} (xs : List X) (k : ℕ) (tool : X) → remove (slice_set xs k tool) k ≡ remove xs k
same_beside [] k tool = refl
same_beside (x ∷ xs) zero tool = refl
same_beside (x ∷ xs) (suc k) tool = ap (λ rest. x ∷ rest) (same_beside xs k tool)
