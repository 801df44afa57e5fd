use Rattle.std.proofs.Common.{◌≡◌, ◌≤◌, ◌-◌, length}
use Rattle.odin_store.specs.Loading.{Past, HeldFit, IsPast, IsForSame, StaysUnchecked}
use Rattle.odin_store.proofs.LoadLemmas.{ItemsLoaded}
use Rattle.odin_store.proofs.loading.Loading.load.Given as goal

-- the items so far were loaded
abbrev pub invariant-items : goal.invariant-items
invariant-items l = record {
  inside : l.at ≤ length l.payload;
  same : IsForSame l.initial.self l.self;
  gate : l.self.gate ≡ l.initial.self.gate;
  loaded : (past : Past) → IsPast l.initial.self past → ItemsLoaded l.payload l.at l.initial.self l.self past;
  unchecked : StaysUnchecked l.initial.self l.self;
  fit : HeldFit l.self;
}

abbrev pub decreases-items : goal.decreases-items
decreases-items l = length l.payload - l.at
