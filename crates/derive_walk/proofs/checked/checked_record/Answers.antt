-- What stands at the place of the node, as it was remembered or found.
use Rattle.std.proofs.Common.{◌≡◌, false, inr, sym, subst}
use Rattle.std.specs.Prelude.{Some}
use Rattle.object_values.specs.declared.nodes.Node.{Node}
use Rattle.meaning_true.specs.Numbered.{is_at}
use Rattle.derive_walk.specs.Keeping.{Keeping, places_in, records_in}
use Rattle.derive_walk.specs.Places.{at_place, place_in}
use Rattle.derive_walk.proofs.Lookups.{place_says}
use Rattle.derive_walk.proofs.PlacedRecords.{no_place, none_at, record_at, not_checked}
use Rattle.derive_walk.proofs.checked.checked_record.Goals as goal
use Rattle.derive_walk.proofs.checked.checked_record.Goals.{in-Some, in-None}

pub returns-in_default-clause-none : goal.returns-in_default-clause-none
returns-in_default-clause-none g c =
    let k : Keeping = g.K.Known.keeps c.args.setting.now.known.now in
    let n : Node = c.args.node.now in
    let at : at_place (places_in k) c.match-place.place ≡ records_in k n = elim c.match-place.branch [
      | in-Some b ↦
          let there : place_in c.args.walk.now.looked n ≡ Some c.match-place.place = cc (b.in-Some.is, b.place-is, c.place.ensures) in
          c.requires.looked.places n c.match-place.place there
      | in-None b ↦
          let same : b.find-place.result ≡ c.match-place.place = cc (b.place-is) in
          place_says k n c.match-place.place (subst (λ p. at_place k.placed p ≡ k.records n) same b.find-place.ensures.is)
    ] in
    inr (no_place k n c.match-place.place at c.in_default.is)

pub returns-in_default-at-clause-none : goal.returns-in_default-at-clause-none
returns-in_default-at-clause-none g c =
    let k : Keeping = g.K.Known.keeps c.args.setting.now.known.now in
    let n : Node = c.args.node.now in
    let at : at_place (places_in k) c.match-place.place ≡ records_in k n = elim c.match-place.branch [
      | in-Some b ↦
          let there : place_in c.args.walk.now.looked n ≡ Some c.match-place.place = cc (b.in-Some.is, b.place-is, c.place.ensures) in
          c.requires.looked.places n c.match-place.place there
      | in-None b ↦
          let same : b.find-place.result ≡ c.match-place.place = cc (b.place-is) in
          place_says k n c.match-place.place (subst (λ p. at_place k.placed p ≡ k.records n) same b.find-place.ensures.is)
    ] in
    inr (none_at k n c.match-place.place at c.in-Some-place.place c.in-Some-place.is (sym c.in_default-at.ensures.is))

pub returns-then-was_checked-clause-some : goal.returns-then-was_checked-clause-some
returns-then-was_checked-clause-some g c =
    let k : Keeping = g.K.Known.keeps c.args.setting.now.known.now in
    let n : Node = c.args.node.now in
    let at : at_place (places_in k) c.match-place.place ≡ records_in k n = elim c.match-place.branch [
      | in-Some b ↦
          let there : place_in c.args.walk.now.looked n ≡ Some c.match-place.place = cc (b.in-Some.is, b.place-is, c.place.ensures) in
          c.requires.looked.places n c.match-place.place there
      | in-None b ↦
          let same : b.find-place.result ≡ c.match-place.place = cc (b.place-is) in
          place_says k n c.match-place.place (subst (λ p. at_place k.placed p ≡ k.records n) same b.find-place.ensures.is)
    ] in
    record {
      is = record_at k n c.match-place.place at c.in-Some-place.place c.in-Some-place.is c.in-Some-at.kept.now (sym c.in-Some-at.ensures.is) c.in-Some-at.ensures.named;
      checked = cc (c.if-was_checked.true, c.was_checked.ensures, c.epoch.ensures);
    }

pub returns-clause-none : goal.returns-clause-none
returns-clause-none g c =
    let k : Keeping = g.K.Known.keeps c.args.setting.now.known.now in
    let n : Node = c.args.node.now in
    let at : at_place (places_in k) c.match-place.place ≡ records_in k n = elim c.match-place.branch [
      | in-Some b ↦
          let there : place_in c.args.walk.now.looked n ≡ Some c.match-place.place = cc (b.in-Some.is, b.place-is, c.place.ensures) in
          c.requires.looked.places n c.match-place.place there
      | in-None b ↦
          let same : b.find-place.result ≡ c.match-place.place = cc (b.place-is) in
          place_says k n c.match-place.place (subst (λ p. at_place k.placed p ≡ k.records n) same b.find-place.ensures.is)
    ] in
    let unchecked : is_at k.epoch c.in-Some-at.kept.now.checked ≡ false = cc (c.if-was_checked.false, c.was_checked.ensures, c.epoch.ensures) in
    inr (not_checked k n c.match-place.place at c.in-Some-place.place c.in-Some-place.is c.in-Some-at.kept.now (sym c.in-Some-at.ensures.is) unchecked)
