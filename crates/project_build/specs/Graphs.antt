-- The graph of a project.
use Rattle.std.specs.Prelude.{◌≡◌, ◌≤◌, ⊤, ℕ, List, Option, Some, None, Result, OnOk, IfErr}
use Rattle.object_values.specs.declared.graph.Decl.{Decl}
use Rattle.odin_outside.specs.Causes.{Rose}
use Rattle.odin_outside.specs.Files.{Files, IsGiven}
use Rattle.dg_reader.specs.declared.fault.ReadFault.{ReadFault}
use Rattle.dg_reader.specs.Files.{IsRead, Refuses}
use Rattle.project_build.specs.declared.fault.GraphRefused.{GraphRefused}
use Rattle.project_build.specs.declared.fault.GraphRefused.TheVariants as refused

-- The tree gives this text of the file, which is one of this graph.
pub record IsGraphOf (files : Option Files) (path text : List ℕ) (graph : List Decl) : Type 0 where
  pub given : IsGiven files path (Some text)
  pub read : IsRead text graph

-- why a text is none
abbrev pub RefusesText : List ℕ → GraphRefused → Type 0
RefusesText text (refused.Text fault) = Refuses text fault
RefusesText text refused.Memory = ⊤
RefusesText text other = ⊥

-- The tree gives this text of the file, which is refused for this.
pub record IsRefusedText (files : Option Files) (path : List ℕ) (fault : ReadFault) : Type 0 where
  pub text : List ℕ
  pub given : IsGiven files path (Some text)
  pub refuses : Refuses text fault

-- why there is none in the file
abbrev pub IsNoGraph : Option Files → List ℕ → GraphRefused → Type 0
IsNoGraph files path refused.NoFile = IsGiven files path None
IsNoGraph files path (refused.Text fault) = IsRefusedText files path fault
IsNoGraph files path refused.Tree = ⊤
IsNoGraph files path refused.Memory = ⊤

-- the tree's count of faults rose where it failed, and else it is as it was
abbrev pub CountAfterGraphRefused : ℕ → ℕ → GraphRefused → Type 0
CountAfterGraphRefused before now refused.Tree = Rose before now
CountAfterGraphRefused before now other = now ≡ before

pub record GraphFaultIsCounted {T : Type 0} (before now : ℕ) (result : Result T GraphRefused) : Type 0 where
  pub later : before ≤ now
  pub ok : OnOk result (now ≡ before)
  pub err : IfErr result (CountAfterGraphRefused before now)
