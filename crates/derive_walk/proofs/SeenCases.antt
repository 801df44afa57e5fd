-- A node whose needs are done is closed: it is done, or its call is wanted and it waits.
use Rattle.std.proofs.Common.{◌≡◌, ◌<◌, ℕ, List, [], ◌∷◌, ◌++◌, inr, sym, ap, subst, refl, arith}
use Rattle.object_values.specs.declared.nodes.Node.{Node}
use Rattle.object_values.specs.declared.views.View.{View}
use Rattle.object_values.specs.declared.calls.Call.{Call}
use Rattle.meaning_texts.specs.Lists.{IsIn}
use Rattle.object_values.specs.declared.facts.Fresh.{Fresh}
use Rattle.node_tasks.specs.declared.needed.Needed.{Needed}
use Rattle.node_tasks.specs.declared.settling.Settled.{Settled as Whole}
use Rattle.derive_walk.specs.declared.done.Done.{Done}
use Rattle.derive_walk.specs.Tables.{Entries, Waits, results_of, top_of}
use Rattle.derive_walk.specs.Calls.{put_in, AreOnce}
use Rattle.derive_walk.proofs.CallLemmas.{put_keeps, put_there, put_once}
use Rattle.derive_walk.specs.declared.walk.Walk.{Walk}
use Rattle.derive_walk.specs.Paths.{IsLast, IsLed, IsClosing}
use Rattle.derive_walk.specs.Noting.{IsNoteOf}
use Rattle.derive_walk.specs.Settled.{HasSettled, HasSettledWhole, NodeHasStopped}
use Rattle.derive_walk.specs.Told.{TakesSettled}
use Rattle.derive_walk.specs.States.{heights_in, IsFormedIn, HoldsIn, GoesOnFrom}
use Rattle.derive_walk.specs.Worlds.{World, IsWorld}
use Rattle.derive_walk.proofs.ClosedLemmas.{whole_settled}
use Rattle.derive_walk.proofs.NoteLemmas.{note_in, note_present, note_anew}
use Rattle.derive_walk.proofs.Tables.{not_done}
use Rattle.derive_walk.proofs.TellingLemmas.{note_tells}
use Rattle.derive_walk.proofs.ToldLemmas.{told_source, told_settled, rightly_settled}
use Rattle.derive_walk.proofs.Added.{KeepCalls, holds_with_done, holds_with_waiting, holds_with_wanted}
use Rattle.derive_walk.proofs.FormedLemmas.{formed_with_done, formed_with_waiting, formed_with_wanted, settles_formed, stops_formed}
use Rattle.derive_walk.proofs.ClosingLemmas.{last_fits, last_is_new, met_here, stops_here, needs_stay, settled_is_done, stopped_runs, stopped_waits}

pub keep_put : (call : Call) (wanted more : List Call) → more ≡ put_in call wanted → KeepCalls wanted more
keep_put call wanted more same c i = subst (λ l. IsIn c l) (sym same) (put_keeps call c wanted i)

pub goes_wanting : (walk : Walk) (call : Call) (more : List Call) → more ≡ put_in call walk.wanted → GoesOnFrom walk (record walk { wanted = more })
goes_wanting walk call more same = record { root = refl; wanted = keep_put call walk.wanted more same; keeps = λ m k e. e; looked = λ m place e. e; results = λ m view e. e }

-- ---- what is formed

module _ (w : World) (is : IsWorld w) (walk : Walk) (n : Node) {needed : Needed} (height : ℕ) (last : IsLast w walk n)
    (closing : IsClosing w walk n needed height) where
  low : 0 < height
  low = omega (arith, closing.above)

  -- a source
  pub source_formed : (view : View) → n.steps ≡ [] → HasSettled w n (results_of walk.done) view → (done : Entries)
      → done ≡ walk.done ++ (n, record { view = view; height = height }) ∷ [] → IsFormedIn w (record walk { done = done })
  source_formed view source so done same =
      let d : Done = record { view = view; height = height } in
      let none = not_done walk.done walk.waiting n (last_is_new w walk n last) in
      formed_with_done w walk last.formed n (last_is_new w walk n last) d
      (record { result = settles_formed w walk last.formed is n (last_fits w walk n last) view so; low = low; high = closing.high })
      walk.fresh walk.renewed (told_source w walk.done walk.fresh walk.renewed last.formed.told n none d source) last.looked (record walk { done = done })
      (ap (λ z. record walk { done = z }) same)

  -- a node with steps, with what is noted of it
  pub whole_formed : (whole : Whole) → HasSettledWhole w n (results_of walk.done) whole → (note : Fresh) → IsNoteOf w.graph w.outcomes walk.done n whole height note
      → (next : Walk) → TakesSettled walk next n (record { view = whole.view; height = height }) note → IsFormedIn w next
  whole_formed whole so note noted next takes =
      let d : Done = record { view = whole.view; height = height } in
      let none = not_done walk.done walk.waiting n (last_is_new w walk n last) in
      formed_with_done w walk last.formed n (last_is_new w walk n last) d
      (record { result = settles_formed w walk last.formed is n (last_fits w walk n last) whole.view (whole_settled w n (results_of walk.done) whole so); low = low; high = closing.high })
      (walk.fresh ++ note ∷ []) walk.renewed
      (told_settled w walk.done walk.fresh walk.renewed last.formed.told n none d note noted.node (note_in w walk.done n whole height note noted d refl refl none))
      last.looked next takes.is

  module _ (call : Call) (so : NodeHasStopped w n (results_of walk.done) call) (wanted : List Call) (more : wanted ≡ put_in call walk.wanted) where
    pub wanted_formed : IsFormedIn w (record walk { wanted = wanted })
    wanted_formed = formed_with_wanted w walk last.formed call (stops_formed w walk last.formed is n (last_fits w walk n last) call so) so.outside wanted more

    pub stopped_formed : (waiting : Waits) → waiting ≡ walk.waiting ++ (n, height) ∷ [] → IsFormedIn w (record walk { wanted = wanted; waiting = waiting })
    stopped_formed waiting same =
        formed_with_waiting w (record walk { wanted = wanted }) wanted_formed n height
        (record { fits = last_fits w walk n last; low = low; high = closing.high }) waiting same

-- ---- what is right

module _ (w : World) (walk : Walk) (led : IsLed w walk) (n : Node) {needed : Needed} (height : ℕ) (last : IsLast w walk n)
    (closing : IsClosing w walk n needed height) where
  holds : HoldsIn w walk
  holds = led.holds

  pub source_holds : (view : View) → HasSettled w n (results_of walk.done) view → (done : Entries) → done ≡ walk.done ++ (n, record { view = view; height = height }) ∷ [] → HoldsIn w (record walk { done = done })
  source_holds view so done same =
      let d : Done = record { view = view; height = height } in
      holds_with_done w walk holds n (last_is_new w walk n last) d (settled_is_done w walk holds n height closing (last_fits w walk n last) view so)
      (inr (needs_stay w walk holds n height closing)) (met_here w walk n last led)
      walk.fresh walk.renewed holds.rightly (record walk { done = done }) (ap (λ z. record walk { done = z }) same)

  pub whole_holds : (whole : Whole) → HasSettledWhole w n (results_of walk.done) whole → (note : Fresh) → IsNoteOf w.graph w.outcomes walk.done n whole height note
      → (next : Walk) → TakesSettled walk next n (record { view = whole.view; height = height }) note → HoldsIn w next
  whole_holds whole so note noted next takes =
      let d : Done = record { view = whole.view; height = height } in
      holds_with_done w walk holds n (last_is_new w walk n last) d
      (settled_is_done w walk holds n height closing (last_fits w walk n last) whole.view (whole_settled w n (results_of walk.done) whole so))
      (inr (needs_stay w walk holds n height closing)) (met_here w walk n last led)
      (walk.fresh ++ note ∷ []) walk.renewed
      (rightly_settled w walk.fresh walk.renewed holds.rightly note (note_present w walk holds n height closing note noted.node noted.closed)
      (note_anew w walk holds n height closing so.stepped note noted.node)
      (note_tells w walk.done holds.done n whole height note noted (top_of (heights_in walk) closing.needs) (sym closing.above))) next takes.is

  module _ (call : Call) (so : NodeHasStopped w n (results_of walk.done) call) (wanted : List Call) (more : wanted ≡ put_in call walk.wanted) where
    pub wanted_holds : HoldsIn w (record walk { wanted = wanted })
    wanted_holds = holds_with_wanted w walk holds call
        (stops_here w walk n last led call (stopped_runs w walk holds n height closing call so) so.outside) wanted more
        (subst AreOnce (sym more) (put_once call walk.wanted holds.once))

    there : IsIn call wanted
    there = subst (λ l. IsIn call l) (sym more) (put_there call walk.wanted)

    pub stopped_holds : (waiting : Waits) → waiting ≡ walk.waiting ++ (n, height) ∷ [] → HoldsIn w (record walk { wanted = wanted; waiting = waiting })
    stopped_holds waiting same = holds_with_waiting w (record walk { wanted = wanted }) wanted_holds n (last_is_new w walk n last) height (stopped_waits w walk holds n height closing (last_fits w walk n last) call so wanted there) (call, there) waiting same
