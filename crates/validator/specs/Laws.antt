-- What a check of a record says, place by place.
use Rattle.std.specs.Prelude.{◌≡◌, ◌≢◌, ⊤, ℕ, suc, List, [], ◌∷◌, take}
use Rattle.object_values.specs.declared.records.Seen.TheVariants.{New}
use Rattle.object_values.specs.declared.records.Dep.{Dep}
use Rattle.object_values.specs.declared.records.NodeRecord.{NodeRecord}
use Rattle.object_values.specs.declared.records.Renewed.{Renewed}
use Rattle.validator.specs.declared.verdict.Now.{Now}
use Rattle.validator.specs.declared.verdict.Verdict.TheVariants.{Current, Stale}
use Rattle.validator.specs.Verdicts.{renewed_by, verdict_of}

-- The need is the dep's node, and what is seen of it is what was seen. What is new is nothing that was seen.
pub record SeesSame (d : Dep) (n : Now) : Type 0 where
  pub node : n.node.now ≡ d.node
  pub seen : n.seen ≡ d.seen
  pub known : n.seen ≢ New

-- they agree in number, nodes and what is seen
abbrev pub AreSame : List Dep → List Now → Type 0
AreSame [] [] = ⊤
AreSame [] (n ∷ now) = ⊥
AreSame (d ∷ deps) [] = ⊥
AreSame (d ∷ deps) (n ∷ now) = SeesSame d n × AreSame deps now

-- they agree up to this place, and not beyond it
pub record FirstDiffers (deps : List Dep) (now : List Now) (place : ℕ) : Type 0 where
  pub before : AreSame (take place deps) (take place now)
  pub here : ¬ AreSame (take (suc place) deps) (take (suc place) now)

-- A record is current exactly where deps and needs agree, and comes to this then. Else it is stale at the first place where they don't.
pub record VerdictIsExact (kept : NodeRecord) (now : List Now) : Type 0 where
  pub current : (renewed : Renewed) → verdict_of kept now ≡ Current renewed → AreSame kept.deps now
  pub holds : AreSame kept.deps now → verdict_of kept now ≡ Current (renewed_by kept now)
  pub stale : (place : ℕ) → verdict_of kept now ≡ Stale place → FirstDiffers kept.deps now place

abbrev pub VerdictsAreExact : Type 0
VerdictsAreExact = (kept : NodeRecord) (now : List Now) → VerdictIsExact kept now
