-- What an engine is, as its callers see it.
use Rattle.std.specs.Prelude.{◌≡◌, ◌≤◌, ℕ, List, IsFalse}
use Rattle.object_values.specs.declared.graph.Decl.{Decl}
use Rattle.meaning_graph.specs.Grammar.{GraphText}
use Rattle.odin_store.specs.declared.store.Store.{Store}

-- from 1 to 64 tools may run at once
pub record IsLimit (jobs : ℕ) : Type 0 where
  pub some : 1 ≤ jobs
  pub few : jobs ≤ 64

-- the graph by which it derives, how many tools may run at once, and what it keeps
pub record Engaged : Type 0 where
  pub graph : List Decl
  pub jobs : ℕ
  pub store : Store

-- its store is one for the graph, until its disk fails
abbrev pub IsStoreFor : List Decl → Store → Type 0
IsStoreFor g store = IsFalse store.journal.spent → GraphText store.graph g

-- its graph and its limit stay
pub record GraphStays (old new : Engaged) : Type 0 where
  pub graph : new.graph ≡ old.graph
  pub jobs : new.jobs ≡ old.jobs
