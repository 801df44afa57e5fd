-- A node that has settled as it was closed may be noted.
use Rattle.std.proofs.Common.{◌≡◌, ℕ, ◌+◌, true, false, cond, max, List, [], ◌∷◌, inl, inr, sym, ap, ◌∙◌, refl, is_some}
use Rattle.object_values.specs.declared.nodes.Node.{Node}
use Rattle.meaning_texts.proofs.Lemmas.{some_or_none}
use Rattle.node_tasks.specs.declared.needed.Needed.{Needed}
use Rattle.node_tasks.specs.declared.settling.Settled.{Settled as Whole}
use Rattle.derive_walk.specs.declared.walk.Walk.{Walk}
use Rattle.derive_walk.specs.Tables.{Entries, Waits, done_in, results_of, are_done, heights_of, height_or_zero, top_of}
use Rattle.derive_walk.specs.Noting.{MayNote}
use Rattle.derive_walk.specs.Paths.{IsLast, IsClosing}
use Rattle.derive_walk.specs.Settled.{HasSettledWhole}
use Rattle.derive_walk.specs.Worlds.{World, IsWorld}
use Rattle.derive_walk.proofs.ClosedLemmas.{whole_settled}
use Rattle.derive_walk.proofs.ClosingLemmas.{last_fits}
use Rattle.derive_walk.proofs.FormedLemmas.{settles_formed}
use Rattle.derive_walk.proofs.Tables.{height_if_done}

-- nodes that are done are as high without those that wait
top_of_done : (done : Entries) (waits : Waits) (ns : List Node) → are_done done ns ≡ true → top_of (heights_of done waits) ns ≡ top_of (heights_of done []) ns
top_of_done done waits [] all = refl
top_of_done done waits (n ∷ ns) all = elim (some_or_none (done_in done n)) [
  | inl d ↦
      let rest = top_of_done done waits ns (sym (ap (λ o. cond (is_some o) (are_done done ns) false) d.1) ∙ all) in
      let here = height_if_done done waits n d.0 d.1 ∙ sym (height_if_done done [] n d.0 d.1) in
      (λ i. max (height_or_zero (here i)) (rest i))
  | inr q ↦ let z : cond (is_some (done_in done n)) (are_done done ns) false ≡ false = ap (λ o. cond (is_some o) (are_done done ns) false) q in cc
]

pub may_note : (w : World) → IsWorld w → (walk : Walk) (n : Node) → IsLast w walk n → {needed : Needed} (height : ℕ) → IsClosing w walk n needed height
    → (whole : Whole) → HasSettledWhole w n (results_of walk.done) whole → MayNote w.graph w.outcomes walk.done n needed whole height
may_note w is walk n last height closing whole so = record {
  formed = last.formed.done;
  fits = last_fits w walk n last;
  stepped = so.stepped;
  found = closing.found;
  needs = closing.needs;
  listed = closing.listed;
  all = closing.done;
  call = so.call;
  called = so.called;
  outcome = so.outcome;
  given = so.given;
  settles = so.settles;
  short = settles_formed w walk last.formed is n (last_fits w walk n last) whole.view (whole_settled w n (results_of walk.done) whole so);
  above = closing.above ∙ ap (λ k. k + 1) (top_of_done walk.done walk.waiting closing.needs closing.done);
  high = closing.high;
}
