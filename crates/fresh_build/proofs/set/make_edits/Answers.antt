use Rattle.std.proofs.Common.{◌≡◌, ◌+◌, suc, List, [], ◌∷◌, ◌++◌, take, drop, refl, sym, ap, subst, ◌∙◌, add-one}
use Rattle.std.proofs.Math.Seq.{drop-cons}
use Rattle.std.proofs.lemmas.List.{map_more, map-append, take-append-drop}
use Rattle.odin_store.specs.Held.{Change}
use Rattle.fresh_build.specs.declared.edits.Edit.{Edit}
use Rattle.fresh_build.specs.Edits.{change_of, changes_of}
use Rattle.fresh_build.specs.Sets.{FailsToMake, MakesChanges, MayMake}
use Rattle.fresh_build.proofs.SetLemmas.{fails_at, handed, may_first, may_rest, none_made, one_more}
use Rattle.fresh_build.proofs.set.make_edits.Goals as goal

pub edits-init : goal.edits-init
edits-init g c = record {
  makes = none_made g.D.Disk.told c.changes_follow.ensures c.args.engine.now.store c.args.disk.now;
  may = c.requires;
  stays = record { graph = refl; jobs = refl };
  counted = refl;
}

pub make_edit-requires : goal.make_edit-requires
make_edit-requires g c =
    let edits = c.args.edits.now in
    let place = c.edits.edit-index in
    let edit = c.edit-item.result in
    let at : drop place edits ≡ edit ∷ drop (suc place) edits = drop-cons edits place edit c.edits-test.true
    ∙ ap (λ (e : Edit). e ∷ drop (suc place) edits) (sym c.edit-item.is) in
    may_first c.edits.engine.store _ edit (drop (suc place) edits)
    (subst (λ (l : List Edit). MayMake c.edits.engine.store (g.D.Disk.size_of c.edits.disk) l) at c.edits.invariant.may)

pub returns-in_err-make_edit-clause-err : goal.returns-in_err-make_edit-clause-err
returns-in_err-make_edit-clause-err g c =
    let edits = c.args.edits.now in
    let place = c.edits.edit-index in
    let edit = c.edit-item.result in
    let at : drop place edits ≡ edit ∷ drop (suc place) edits = drop-cons edits place edit c.edits-test.true
    ∙ ap (λ (e : Edit). e ∷ drop (suc place) edits) (sym c.edit-item.is) in
    let whole : changes_of edits ≡ changes_of (take place edits) ++ change_of edit ∷ changes_of (drop (suc place) edits) =
    ap changes_of (sym (take-append-drop place edits)) ∙ map-append change_of (take place edits) (drop place edits)
    ∙ ap (λ (l : List Edit). changes_of (take place edits) ++ changes_of l) at in
    let store = c.args.engine.now.store in
    let next = c.make_edit.new.engine.store in
    let e = c.in_err-make_edit.field-0.0 in
    handed (FailsToMake g.D.Disk.told (changes_of edits) store next c.args.disk.now c.make_edit.new.disk) c.from_residual.result e c.from_residual.ensures.1
    (fails_at g.D.Disk.told c.changes_follow.ensures (changes_of edits) (changes_of (take place edits)) (changes_of (drop (suc place) edits))
    (change_of edit) whole
    store c.edits.engine.store next c.args.disk.now c.edits.disk c.make_edit.new.disk c.edits.invariant.makes.goes e c.in_err-make_edit.ensures.err)

pub edits-preserved : goal.edits-preserved
edits-preserved g c =
    let edits = c.args.edits.now in
    let place = c.edits.edit-index in
    let edit = c.edit-item.result in
    let at : drop place edits ≡ edit ∷ drop (suc place) edits = drop-cons edits place edit c.edits-test.true
    ∙ ap (λ (e : Edit). e ∷ drop (suc place) edits) (sym c.edit-item.is) in
    let made : changes_of (take (place + 1) edits) ≡ changes_of (take place edits) ++ change_of edit ∷ [] =
    map_more change_of edits place edit c.edits-test.true ∙ ap (λ (e : Edit). changes_of (take place edits) ++ change_of e ∷ []) (sym c.edit-item.is) in
    let left : drop (suc place) edits ≡ drop (place + 1) edits = ap (λ n. drop n edits) (sym (add-one place)) in
    let store = c.args.engine.now.store in
    let mid = c.edits.engine.store in
    let next = c.make_edit.new.engine.store in
    let makes = c.in_ok-make_edit.ensures.ok in
    record {
      makes = subst (λ (l : List Change). MakesChanges g.D.Disk.told l store next c.args.disk.now c.make_edit.new.disk) (sym made)
          (one_more g.D.Disk.told c.changes_follow.ensures (changes_of (take place edits))
          (change_of edit) store mid next c.args.disk.now c.edits.disk c.make_edit.new.disk c.edits.invariant.makes makes);
      may = subst (λ (l : List Edit). MayMake next (g.D.Disk.size_of c.make_edit.new.disk) l) left
          (may_rest g.D.Disk.told mid next c.edits.disk c.make_edit.new.disk (g.D.Disk.size_of c.edits.disk)
          (g.D.Disk.size_of c.make_edit.new.disk) edit (drop (suc place) edits)
          (subst (λ (l : List Edit). MayMake mid (g.D.Disk.size_of c.edits.disk) l) at c.edits.invariant.may) makes c.in_ok-make_edit.ensures.left.ready);
      stays = record {
        graph = c.in_ok-make_edit.ensures.stays.graph ∙ c.edits.invariant.stays.graph;
        jobs = c.in_ok-make_edit.ensures.stays.jobs ∙ c.edits.invariant.stays.jobs;
      };
      counted = c.in_ok-make_edit.ensures.cause.ok ∙ c.edits.invariant.counted;
    }
