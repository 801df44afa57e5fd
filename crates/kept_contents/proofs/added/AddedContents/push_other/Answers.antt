use Rattle.std.proofs.Common.{◌≡◌, List, length, ap, ◌∙◌, sym, arith}
use Rattle.std.specs.Prelude.{None, nat_eq}
use Rattle.std.specs.HashMap.{get}
use Rattle.meaning_records.specs.Numbers.{number_of}
use Rattle.kept_contents.specs.declared.shared.Content.{Content}
use Rattle.kept_contents.specs.declared.shared.Content.TheVariants.{Other}
use Rattle.kept_contents.specs.Stocks.{values_of_contents}
use Rattle.kept_contents.proofs.AddedPlaces.{placed_still}
use Rattle.kept_contents.proofs.Contents.{values_long, values_push}
use Rattle.kept_contents.proofs.added.AddedContents.push_other.Goals as goal

pub invariant_of-self-in_err-reserve-2 : goal.invariant_of-self-in_err-reserve-2
invariant_of-self-in_err-reserve-2 c = rw c.reserve.ensures.items (c.self.invariant.0, c.reserve-2.ensures.same (values_of_contents c.self.inside.contents.items) c.self.invariant.1)

pub invariant_of-self-2 : goal.invariant_of-self-2
invariant_of-self-2 c =
    let items = c.self.inside.contents.items in
    let values = values_of_contents items in
    let value = c.args.value in
    let kept = ap (λ (l : List Content). length l) c.reserve.ensures.items in
    let many : c.len-place.result ≡ length items = omega (arith, kept) in
    let fresh : number_of value values ≡ None = ap (λ (l : List Content). number_of value (values_of_contents l)) c.self.view_is ∙ c.requires.fresh in
    let indexed = c.put.ensures.index values value (c.reserve-2.ensures.same values c.self.invariant.1) c.requires.other fresh c.requires.digest (many ∙ sym (values_long items)) in (
      rw (c.push_within.ensures.items, c.reserve.ensures.items) (placed_still items value (get nat_eq c.self.inside.places) c.self.invariant.0),
      rw (c.push_within.ensures.items, c.reserve.ensures.items, values_push items (Other value)) indexed,
    )
