-- Targets that are built, one after another.
use Rattle.std.proofs.Common.{◌≡◌, ◌+◌, ◌<◌, ℕ, suc, List, [], ◌∷◌, ◌++◌, Bor, length, map, get_or, take, drop, sym, ap, subst, ◌∙◌}
use Rattle.std.proofs.Math.Seq.{drop-cons}
use Rattle.std.proofs.lemmas.List.{map_more, map-append, take-append-drop}
use Rattle.object_values.specs.declared.replies.Reply.{Reply}
use Rattle.odin_outside.specs.Disk.{Telling}
use Rattle.meaning_graph.specs.Graphs.{Graph}
use Rattle.project_file.specs.declared.project.Target.{Target}
use Rattle.project_build.specs.declared.outputs.OutputFault.{OutputFault}
use Rattle.project_build.specs.declared.outputs.OutputFault.TheVariants as output
use Rattle.project_build.specs.declared.fault.TargetFault.{TargetFault}
use Rattle.project_build.specs.declared.fault.TargetFault.TheVariants as fault
use Rattle.project_build.specs.Built.{Standing, AreBuilt, one_built, IsBuilt, IsHalfBuilt, FailsTarget, IsOutputFault, StopsBuilding}
use Rattle.project_build.proofs.WriteLemmas.{wrote_all}

-- the targets behind references
abbrev pub those : List (Bor Target) → List Target
those targets = map (λ (t : Bor Target). t.now) targets

-- the first ones, one more, and the rest
pub one_among : (targets : List (Bor Target)) (place : ℕ) (target : Bor Target) → place < length targets → target ≡ get_or targets place target
    → those targets ≡ those (take place targets) ++ target.now ∷ those (drop (suc place) targets)
one_among targets place target inside is =
    let now : Bor Target → Target = λ t. t.now in
    ap those (sym (take-append-drop place targets)) ∙ map-append now (take place targets) (drop place targets)
    ∙ ap (λ (l : List (Bor Target)). those (take place targets) ++ those l)
    (drop-cons targets place target inside ∙ ap (λ (t : Bor Target). t ∷ drop (suc place) targets) (sym is))

pub one_more_of : (targets : List (Bor Target)) (place : ℕ) (target : Bor Target) → place < length targets → target ≡ get_or targets place target
    → those (take (place + 1) targets) ≡ those (take place targets) ++ target.now ∷ []
one_more_of targets place target inside is =
    let now : Bor Target → Target = λ t. t.now in
    map_more now targets place target inside ∙ ap (λ (t : Bor Target). those (take place targets) ++ t.now ∷ []) (sym is)

module _ {Disk : Type 0} (told : Disk → Telling) where
  -- a file that was not written is one of the target that got its reply
  pub fails_output : (g : Graph) (limit : ℕ) (target : Target) (given : OutputFault) (why : TargetFault) (old new : Standing Disk)
      → IsOutputFault target.name given why → IsHalfBuilt told g limit target old new → FailsTarget told g limit target why old new
  fails_output g limit target output.Failed (fault.Output name) old new is half = (is, half)
  fails_output g limit target output.Failed (fault.Store why) old new is half = absurd is
  fails_output g limit target output.Failed fault.Memory old new is half = half
  fails_output g limit target output.Memory (fault.Output name) old new is half = absurd is
  fails_output g limit target output.Memory (fault.Store why) old new is half = absurd is
  fails_output g limit target output.Memory fault.Memory old new is half = half

  -- a target that was built, and its reply was lost
  pub half_of : (g : Graph) (limit : ℕ) (target : Target) (reply : Reply) (old new : Standing Disk) → IsBuilt told g limit target reply old new
      → IsHalfBuilt told g limit target old new
  half_of g limit target reply old new built = record { reply = reply; replied = built.replied; written = wrote_all _ _ _ built.written }

  -- by the graph and the limit that stay
  pub built_by : (g g' : Graph) (limit limit' : ℕ) (target : Target) (reply : Reply) (old new : Standing Disk) → g' ≡ g → limit' ≡ limit
      → IsBuilt told g' limit' target reply old new → IsBuilt told g limit target reply old new
  built_by g g' limit limit' target reply old new graph jobs built =
      subst (λ (h : Graph). IsBuilt told h limit target reply old new) graph (subst (λ (n : ℕ). IsBuilt told g' n target reply old new) jobs built)

  pub fails_by : (g g' : Graph) (limit limit' : ℕ) (target : Target) (why : TargetFault) (old new : Standing Disk) → g' ≡ g → limit' ≡ limit
      → FailsTarget told g' limit' target why old new → FailsTarget told g limit target why old new
  fails_by g g' limit limit' target why old new graph jobs fails =
      subst (λ (h : Graph). FailsTarget told h limit target why old new) graph (subst (λ (n : ℕ). FailsTarget told g' n target why old new) jobs fails)

  -- some first ones were built, and the next one was not
  pub stops_at : (g : Graph) (limit : ℕ) (targets : List (Bor Target)) (place : ℕ) (target : Bor Target) (replies : List Reply) (why : TargetFault)
      (old mid new : Standing Disk) → place < length targets → target ≡ get_or targets place target
      → AreBuilt told g limit old (those (take place targets)) replies mid → FailsTarget told g limit target.now why mid new
      → StopsBuilding told g limit (those targets) old new why
  stops_at g limit targets place target replies why old mid new inside is built fails = record {
    done = those (take place targets);
    target = target.now;
    rest = those (drop (suc place) targets);
    whole = one_among targets place target inside is;
    replies = replies;
    mid = mid;
    built = built;
    fails = fails;
  }

  -- and one more was
  pub one_more : (g : Graph) (limit : ℕ) (targets : List (Bor Target)) (place : ℕ) (target : Bor Target) (replies more : List Reply) (reply : Reply)
      (old mid new : Standing Disk) → place < length targets → target ≡ get_or targets place target → more ≡ replies ++ reply ∷ []
      → AreBuilt told g limit old (those (take place targets)) replies mid → IsBuilt told g limit target.now reply mid new
      → AreBuilt told g limit old (those (take (place + 1) targets)) more new
  one_more g limit targets place target replies more reply old mid new inside is pushed built one =
      subst (λ (l : List Target). AreBuilt told g limit old l more new) (sym (one_more_of targets place target inside is))
      (subst (λ (l : List Reply). AreBuilt told g limit old (those (take place targets) ++ target.now ∷ []) l new) (sym pushed)
      (one_built (those (take place targets)) replies target.now reply mid new built one))
