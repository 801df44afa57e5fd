-- Where nothing is kept of nodes, and a walk that has not begun.
use Rattle.std.proofs.Common.{[]}
use Rattle.std.specs.Prelude.{None}
use Rattle.object_values.specs.declared.nodes.Node.{Node}
use Rattle.meaning_texts.proofs.Lemmas.{some_is_none}
use Rattle.meaning_graph.specs.Graphs.{Graph}
use Rattle.meaning_graph.specs.Grammar.{IsSpellable}
use Rattle.meaning_graph.specs.Checks.{Checked}
use Rattle.meaning_tasks.specs.Nodes.{Fits}
use Rattle.meaning_derive.specs.Derive.{Sources, Outcomes}
use Rattle.meaning_derive.specs.Given.{AreSources, OutcomesFit}
use Rattle.meaning_true.specs.Knowing.{no_records}
use Rattle.meaning_true.proofs.Lemmas.{nothing_known}
use Rattle.derive_walk.specs.Keeping.{AreReadable}
use Rattle.derive_walk.specs.Looked.{AreLookups}
use Rattle.derive_walk.specs.Told.{AreTold}
use Rattle.derive_walk.specs.Walks.{IsFormed, IsRight, new_walk}
use Rattle.derive_walk.specs.Worlds.{World, IsWorld, KnowsIn, world}

-- ---- no records

pub none_readable : (g : Graph) → AreReadable g no_records
none_readable g n k e = some_is_none None k e cc

-- derivation may go by outcomes alone
pub world_is : (g : Graph) (s : Sources) (outcomes : Outcomes) → IsSpellable g → Checked g → AreSources s → OutcomesFit outcomes → IsWorld (world g s outcomes)
world_is g s outcomes spellable checked sources fit = record { spellable = spellable; checked = checked; sources = sources; fit = fit; readable = none_readable g }

pub knows_nothing : (g : Graph) (s : Sources) (outcomes : Outcomes) → KnowsIn (world g s outcomes)
knows_nothing = nothing_known

-- ---- a new walk

nothing_told : (w : World) → AreTold w [] [] []
nothing_told w = record {
  noted = λ f i. absurd i;
  kept = λ r i. absurd i;
  once = tt;
  kept_once = tt;
  apart = λ n i j. absurd i;
  all = λ n d e stepped. some_is_none None d e cc;
}

nothing_looked : (w : World) → AreLookups w [] []
nothing_looked w = record {
  different = tt;
  stepped = λ n i. absurd i;
  places = λ n place e. some_is_none None place e cc;
  done = λ n there stepped. there;
}

pub new_is_formed : (w : World) (root : Node) → Fits w.graph root → OutcomesFit w.outcomes → IsFormed w (new_walk root)
new_is_formed w root fits fit = record {
  fit = fit;
  root = fits;
  done = record { each = λ n d e. some_is_none None d e cc; different = tt };
  told = nothing_told w;
  looked = nothing_looked w;
  wanted = record { each = λ call i. absurd i; outside = λ call i. absurd i; once = tt };
  found = tt;
}

pub new_is_right : (w : World) (root : Node) → Fits w.graph root → OutcomesFit w.outcomes → KnowsIn w → IsRight w (new_walk root)
new_is_right w root fits fit knows = record {
  fit = fit;
  knows = knows;
  root = fits;
  told = nothing_told w;
  rightly = record { present = λ f i. absurd i; anew = λ f i. absurd i; tight = λ f i. absurd i; current = λ r i. absurd i; renewed_tight = λ r i. absurd i };
  done = record { each = λ n d e. some_is_none None d e cc; needs = λ n d e. some_is_none None d e cc; different = tt };
  met = λ n i. absurd i;
  looked = nothing_looked w;
  may = λ n i. absurd i;
  taken = record { once = tt; each = λ n i. absurd i };
  wanted = λ call i. absurd i;
  once = tt;
  found = tt;
}
