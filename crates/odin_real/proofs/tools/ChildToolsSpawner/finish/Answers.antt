use Rattle.std.proofs.Common.{rules, ◌≡◌, ◌∙◌, sym, ap, map, refl, subst}
use Rattle.std.specs.Prelude.{remove}
use Rattle.std.specs.List.{HoldsAt}
use Rattle.odin_real.specs.Ends.{EndsAs}
use Rattle.odin_real.specs.Finishes.{FolderIsCleared, ResultIsGiven, ResultIsLost, IsGivenUp}
use Rattle.odin_real.specs.Seen.{seen_of}
use Rattle.odin_real.specs.Told.{AreAsked, children_view}
use Rattle.odin_real.proofs.AskedLemmas.{all_twice, runs_on}
use Rattle.odin_real.proofs.CutLemmas.{IsOut, given, given_up, lost, put_off, ends, loses}
use Rattle.odin_real.proofs.FaultLemmas.{ok_differs, failed_differs}
use Rattle.odin_real.proofs.tools.ChildToolsSpawner.finish.Goals as goal

pub returns-in-Ok-clause-finishes : goal.returns-in-Ok-clause-finishes
returns-in-Ok-clause-finishes g c =
    subst (λ tools. ResultIsGiven (map seen_of c.args.self.now.started.items) (map seen_of tools) c.take_at.result c.in-Ok.raw (g.S.System.held c.args.self.now.system) (g.S.System.held c.end_at.new.system) (g.S.System.log c.args.self.now.system) (g.S.System.log c.end_at.new.system)) (sym c.take_at.ensures.others)
    (given seen_of (map seen_of c.args.self.now.started.items) c.wait_any-place.new.started.items c.end_at.new.started.items c.wait_any-place.result c.take_at.result c.in-Ok.raw c.end_at.result _ _ _ _ (search rules) c.wait_any-place.ensures.asked c.end_at.ensures.asked
    (search rules) c.end_at.ensures.ends (c.end_at.ensures.cleared (ok_differs _ c.in-Ok.raw (search rules))) c.take_at.ensures.slot c.wait_any-place.ensures.oldest c.end_at.ensures.others)

pub returns-in-Ok-clause-ok : goal.returns-in-Ok-clause-ok
returns-in-Ok-clause-ok g c =
    ends seen_of c.args.self.now.started.items c.take_at.new.started.items c.take_at.result _ _ _ _ c.in-Ok.raw (g.S.System.held c.args.self.now.system) (g.S.System.held c.end_at.new.system)
    (subst (λ tools. IsGivenUp (map seen_of c.args.self.now.started.items) (map seen_of tools) c.take_at.result (g.S.System.held c.args.self.now.system) (g.S.System.held c.end_at.new.system)) (sym c.take_at.ensures.others)
    (given_up seen_of (map seen_of c.args.self.now.started.items) c.wait_any-place.new.started.items c.end_at.new.started.items c.wait_any-place.result c.take_at.result _ _ (search rules) c.wait_any-place.ensures.asked c.end_at.ensures.asked
    (c.end_at.ensures.cleared (ok_differs _ c.in-Ok.raw (search rules))) c.take_at.ensures.slot c.wait_any-place.ensures.oldest c.end_at.ensures.others))
    refl refl

pub returns-in-Err-Memory-clause-memory : goal.returns-in-Err-Memory-clause-memory
returns-in-Err-Memory-clause-memory g c = λ is. ap (λ running. children_view running c.args.self.now.starts c.args.self.now.faults)
    (runs_on seen_of c.args.self.now.started.items c.end_at.new.started.items (all_twice _ _ _ c.wait_any-place.ensures.asked c.end_at.ensures.asked))

pub returns-in-Err-Memory-clause-finishes : goal.returns-in-Err-Memory-clause-finishes
returns-in-Err-Memory-clause-finishes g c =
    put_off seen_of (map seen_of c.args.self.now.started.items) c.wait_any-place.new.started.items c.end_at.new.started.items c.wait_any-place.result c.end_at.result _ _ _ _ (search rules) c.wait_any-place.ensures.asked c.end_at.ensures.asked
    (search rules) c.end_at.ensures.ends c.end_at.ensures.held

pub returns-in-Err-Failed-clause-finishes : goal.returns-in-Err-Failed-clause-finishes
returns-in-Err-Failed-clause-finishes g c =
    let slot = c.take_at-in-Err-Failed.result in
    subst (λ tools. ResultIsLost (map seen_of c.args.self.now.started.items) (map seen_of tools) slot (g.S.System.held c.args.self.now.system) (g.S.System.held c.count_fault.new.self.system) (g.S.System.log c.args.self.now.system) (g.S.System.log c.count_fault.new.self.system)) (sym c.take_at-in-Err-Failed.ensures.others)
    (lost seen_of (map seen_of c.args.self.now.started.items) c.wait_any-place.new.started.items c.count_fault.new.self.started.items c.wait_any-place.result slot c.end_at.result _ _ _ _ (search rules) c.wait_any-place.ensures.asked
    (subst (λ started. AreAsked (map seen_of c.wait_any-place.new.started.items) (map seen_of started.items)) (sym c.count_fault.ensures.started) c.end_at.ensures.asked)
    (search rules)
    (subst (λ system. HoldsAt (λ tool. EndsAs (seen_of tool) (g.S.System.log c.args.self.now.system) (g.S.System.log system) c.end_at.result) c.wait_any-place.new.started.items c.wait_any-place.result) (sym c.count_fault.ensures.system) c.end_at.ensures.ends)
    (subst (λ system. HoldsAt (λ tool. FolderIsCleared (seen_of tool) (g.S.System.held c.args.self.now.system) (g.S.System.held system)) c.wait_any-place.new.started.items c.wait_any-place.result) (sym c.count_fault.ensures.system) (c.end_at.ensures.cleared (failed_differs _ (search rules))))
    c.take_at-in-Err-Failed.ensures.slot c.wait_any-place.ensures.oldest
    (subst (λ started. remove started.items c.wait_any-place.result ≡ remove c.wait_any-place.new.started.items c.wait_any-place.result) (sym c.count_fault.ensures.started) c.end_at.ensures.others))

pub returns-in-Err-Failed-clause-lost : goal.returns-in-Err-Failed-clause-lost
returns-in-Err-Failed-clause-lost g c = λ slot is.
    let same : c.take_at-in-Err-Failed.result ≡ slot = cc in
    loses seen_of c.args.self.now.started.items c.take_at-in-Err-Failed.new.started.items slot _ _ _ _ (g.S.System.held c.args.self.now.system) (g.S.System.held c.count_fault.new.self.system)
    (subst (λ tools. IsGivenUp (map seen_of c.args.self.now.started.items) (map seen_of tools) slot (g.S.System.held c.args.self.now.system) (g.S.System.held c.count_fault.new.self.system)) (sym c.take_at-in-Err-Failed.ensures.others)
    (given_up seen_of (map seen_of c.args.self.now.started.items) c.wait_any-place.new.started.items c.count_fault.new.self.started.items c.wait_any-place.result slot _ _ (search rules) c.wait_any-place.ensures.asked
    (subst (λ started. AreAsked (map seen_of c.wait_any-place.new.started.items) (map seen_of started.items)) (sym c.count_fault.ensures.started) c.end_at.ensures.asked)
    (subst (λ system. HoldsAt (λ tool. FolderIsCleared (seen_of tool) (g.S.System.held c.args.self.now.system) (g.S.System.held system)) c.wait_any-place.new.started.items c.wait_any-place.result) (sym c.count_fault.ensures.system) (c.end_at.ensures.cleared (failed_differs _ (search rules))))
    (subst (λ n. HoldsAt (IsOut seen_of n) c.count_fault.new.self.started.items c.wait_any-place.result) same c.take_at-in-Err-Failed.ensures.slot) c.wait_any-place.ensures.oldest
    (subst (λ started. remove started.items c.wait_any-place.result ≡ remove c.wait_any-place.new.started.items c.wait_any-place.result) (sym c.count_fault.ensures.started) c.end_at.ensures.others)))
    c.count_fault.ensures.starts c.count_fault.ensures.counted
