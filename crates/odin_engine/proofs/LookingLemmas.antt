-- The looks of an ask, by those of its derivation.
use Rattle.std.proofs.Common.{◌≡◌, ◌≢◌, ◌+◌, ℕ, [], inl, inr, refl, sym, subst}
use Rattle.std.specs.Prelude.{Result, Ok, Err, IfOk}
use Rattle.object_values.specs.declared.nodes.Node.{Node}
use Rattle.object_values.specs.declared.views.View.{View}
use Rattle.odin_outside.specs.Disk.{Telling}
use Rattle.meaning_graph.specs.Graphs.{Text, Graph}
use Rattle.meaning_derive.proofs.Lemmas.{one_node}
use Rattle.meaning_true.specs.Knowing.{CheckedRootIsOne, IsChecked, LooksAreCounted}
use Rattle.meaning_true.proofs.Lemmas.{knows_on}
use Rattle.odin_store.specs.declared.store.Store.{Store}
use Rattle.derive_walk.specs.declared.found.Found.{Found}
use Rattle.derive_walk.specs.declared.found.Found.TheVariants as found
use Rattle.kept_derive.specs.declared.fault.KeptFault.{KeptFault}
use Rattle.kept_derive.specs.declared.fault.KeptFault.TheVariants as stop
use Rattle.kept_derive.specs.Looked.{AreLooks}
use Rattle.kept_derive.specs.Knowing.{KnowsStore, known_in, store_records}
use Rattle.kept_derive.specs.Runs.{At, HasFound}
use Rattle.kept_derive.proofs.Lemmas.{found_keeps}
use Rattle.odin_engine.specs.declared.fault.AskFault.{AskFault}
use Rattle.odin_engine.specs.declared.fault.AskFault.TheVariants as fault
use Rattle.odin_engine.specs.Asked.{IsNodeOf}
use Rattle.odin_engine.specs.Asking.{answer_of}
use Rattle.odin_engine.specs.Looking.{IsCountedFor, IsLookedFor, AreAskLooks}

module _ {D : Type 0} (told : D → Telling) (g : Graph) (limit : ℕ) (text : Text) (node : Node) (is : IsNodeOf g text node) (old new : At D) (first last : ℕ) where
  looked_for : (r : Result Found KeptFault) (given : AskFault) → answer_of r ≡ Err given → (KnowsStore g old.store → AreLooks told g node limit old new first last r)
      → IsLookedFor told g limit text old new first last given
  looked_for r given answers looks = record { node = node; is = is; derived = r; answers = answers; looks = looks }

  pub looks_so : (r : Result Found KeptFault) → IfOk r (HasFound told g node limit old new) → (KnowsStore g old.store → AreLooks told g node limit old new first last r)
      → AreAskLooks told g limit text old new first last (answer_of r)
  looks_so (Ok (found.Answer view)) has looks = λ known. record { node = node; is = is; kept = found_keeps told g node limit old new (found.Answer view) has; counted = looks known }
  looks_so (Ok (found.Circular chain)) has looks = inr (looked_for (Ok (found.Circular chain)) (fault.Circular chain) refl looks)
  looks_so (Ok (found.Deep chain)) has looks = inr (looked_for (Ok (found.Deep chain)) (fault.Deep chain) refl looks)
  looks_so (Err stop.Spawn) has looks = inr (looked_for (Err stop.Spawn) fault.Spawn refl looks)
  looks_so (Err stop.Disk) has looks = inr (looked_for (Err stop.Disk) fault.Disk refl looks)
  looks_so (Err (stop.Full end count)) has looks = inr (looked_for (Err (stop.Full end count)) (fault.Full end count) refl looks)
  looks_so (Err stop.Memory) has looks = inr (looked_for (Err stop.Memory) fault.Memory refl looks)

-- a text that asks for nothing
pub refused_looks : {D : Type 0} (r : Result View AskFault) (told : D → Telling) (g : Graph) (limit : ℕ) (text : Text) (now : At D) (count : ℕ) (given : AskFault) → r ≡ Err given → AreAskLooks told g limit text now now count count r
refused_looks r told g limit text now count given is = subst (AreAskLooks told g limit text now now count count) (sym is) (inl refl)

-- A node whose record is checked takes just one look.
pub takes_one : CheckedRootIsOne → (g : Graph) (text : Text) (old new : Store) (first last : ℕ) → KnowsStore g old → (n : Node) → IsNodeOf g text n → n.steps ≢ []
    → IsChecked (store_records old) n → IsCountedFor g text old new first last → last ≡ first + 1
takes_one law g text old new first last known n is stepped checked counted =
    let same : counted.node ≡ n = one_node g text n counted.node is.asks counted.is.asks in
    law g old.sources.texts (known_in new) (store_records old) n (knows_on g old.sources.texts (known_in old) (known_in new) (store_records old) counted.kept known)
    stepped checked first last
    (subst (λ z. LooksAreCounted g old.sources.texts (known_in new) (store_records old) z first last) same counted.counted)
