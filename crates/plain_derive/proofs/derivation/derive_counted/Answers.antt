use Rattle.std.proofs.Common.{rules, ◌≡◌, ◌∙◌, sym, ap, refl}
use Rattle.std.specs.Prelude.{Some, None, Err}
use Rattle.std.proofs.lemmas.Result.{err_from_is_err_and}
use Rattle.derive_walk.specs.Walks.{Walked}
use Rattle.derive_walk.proofs.Lemmas.{right_is_formed, none_readable, world_is}
use Rattle.plain_derive.proofs.OnLemmas.{start, none_begun, given_up_at, way_on, way_moves, way_ends, way_stops, way_calm}
use Rattle.plain_derive.proofs.derivation.derive_counted.Goals.{else-loop-test, then-loop-test+in_ok-advance+then-is_some}
use Rattle.plain_derive.proofs.derivation.derive_counted.Goals as goal

pub returns-in_err-copy-clause-given_up : goal.returns-in_err-copy-clause-given_up
returns-in_err-copy-clause-given_up g c =
    let given = err_from_is_err_and _ c.from_residual.ensures.1 in
    given_up_at _ _ _ _ _ _ _ (given.1 ∙ ap (λ f. Err f) given.2) (none_begun _ _ _ _)

pub loop-init : goal.loop-init
loop-init g c = record {
  way = record {
    so = start _ _ _ _ _ _ c.new-walker.ensures.is c.in_ok-copy.ensures c.requires.fits c.new-walker.ensures.right;
    calm = λ r. (ap (λ (z : Walked). z.given) c.new-walker.ensures.is, refl);
  };
  none = ap (λ (z : Walked). z.result) c.new-walker.ensures.is;
  idle = c.requires.idle;
}

pub advance-requires-clause-formed : goal.advance-requires-clause-formed
advance-requires-clause-formed g c =
    let right = c.loop.invariant.way.so.right in
    right_is_formed _
    (world_is _ _ _ c.requires.spellable (rw c.graph.ensures at c.checked.ensures) c.requires.sources right.fit)
    _ right

pub advance-requires-clause-ground : goal.advance-requires-clause-ground
advance-requires-clause-ground g c = record { spellable = c.requires.spellable; sources = c.requires.sources; readable = none_readable c.args.planned.now }

pub returns-in_err-advance-clause-given_up : goal.returns-in_err-advance-clause-given_up
returns-in_err-advance-clause-given_up g c =
    let given = err_from_is_err_and _ c.from_residual-in_err-advance.ensures.1 in
    given_up_at _ _ _ _ _ _ _ (given.1 ∙ ap (λ f. Err f) given.2)
    (way_stops _ _ _ _ _ _ (way_on _ _ _ _ _ _ c.loop.invariant.way _ c.in_err-advance.ensures.on
    (c.in_err-advance.ensures.right c.loop.invariant.way.so.right)))

pub returns-in_err-run_wanted-clause-given_up : goal.returns-in_err-run_wanted-clause-given_up
returns-in_err-run_wanted-clause-given_up g c =
    let given = err_from_is_err_and _ c.from_residual-in_err-run_wanted.ensures.1 in
    let way = way_on _ _ _ _ _ _ c.loop.invariant.way _ c.in_ok-advance.ensures.on (c.in_ok-advance.ensures.right c.loop.invariant.way.so.right) in
    let still : c.advance.new.self.result ≡ None = search rules in
    given_up_at _ _ _ _ _ _ _ (given.1 ∙ ap (λ f. Err f) given.2)
    (c.in_err-run_wanted.ensures.stops _ _ _ _ (way_calm _ _ _ _ _ _ way (c.in_ok-advance.ensures.advanced c.loop.invariant.way.so.right) still) way.so)

pub loop-preserved : goal.loop-preserved
loop-preserved g c =
    let way = way_on _ _ _ _ _ _ c.loop.invariant.way _ c.in_ok-advance.ensures.on (c.in_ok-advance.ensures.right c.loop.invariant.way.so.right) in
    let still : c.advance.new.self.result ≡ None = search rules in
    record {
      way = record {
        so = c.in_ok-run_wanted.ensures.on _ _ _ _ way.so;
        calm = λ r. absurd (way_calm _ _ _ _ _ _ way (c.in_ok-advance.ensures.advanced c.loop.invariant.way.so.right) still r);
      };
      none = c.in_ok-run_wanted.ensures.none;
      idle = c.in_ok-run_wanted.ensures.idle;
    }

pub returns-in-Some-clause-found : goal.returns-in-Some-clause-found
returns-in-Some-clause-found g c = elim c.loop-test.branch [
  | else-loop-test w ↦ let e : None ≡ Some c.in-Some.found = sym c.loop.invariant.none ∙ ap (λ (z : Walked). z.result) (sym w.walker-is) ∙ sym c.into_result.ensures ∙ c.in-Some.is in cc
  | then-loop-test+in_ok-advance+then-is_some w ↦
      let way = way_on _ _ _ _ _ _ c.loop.invariant.way _ w.in_ok-advance.ensures.on (w.in_ok-advance.ensures.right c.loop.invariant.way.so.right) in
      way_ends _ _ _ _ c.loop-test.walker _ (way_moves _ _ _ _ _ _ way c.loop-test.walker w.walker-is) c.in-Some.found (sym c.into_result.ensures ∙ c.in-Some.is)
]

pub returns-clause-given_up : goal.returns-clause-given_up
returns-clause-given_up g c = elim c.loop-test.branch [
  | else-loop-test w ↦ way_stops _ _ _ _ _ _ c.loop.invariant.way
  | then-loop-test+in_ok-advance+then-is_some w ↦
      way_stops _ _ _ _ _ _ (way_on _ _ _ _ _ _ c.loop.invariant.way _ w.in_ok-advance.ensures.on (w.in_ok-advance.ensures.right c.loop.invariant.way.so.right))
]
