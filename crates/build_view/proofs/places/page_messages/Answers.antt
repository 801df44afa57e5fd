use Rattle.std.proofs.Common.{◌≡◌, rules}
use Rattle.std.specs.Ordering.{is_lt}
use Rattle.std.proofs.lemmas.List.Sorted.{answers_always}
use Rattle.build_view.specs.Places.{page_cmp}
use Rattle.build_view.proofs.PlaceLemmas.{are_page_messages, page_ranks}
use Rattle.build_view.proofs.places.page_messages.Goals as goal

pub returns : goal.returns
returns c =
    let told = answers_always _ (λ a r. is_lt r ≡ is_lt (page_cmp a.0.now a.1.0.now)) _ (λ f a r g h. search rules) in
    let sorts = c.in_ok-sort_by.ensures in
    are_page_messages c.args.messages.now c.in_ok-all.all c.in_ok-ordered.ordered.items c.sort_by.new.self.items c.from_vec.result c.in_ok-all.ensures
    (search rules) sorts.permutation (sorts.sorted _ page_ranks told) (sorts.stable _ page_ranks told) c.from_vec.ensures
