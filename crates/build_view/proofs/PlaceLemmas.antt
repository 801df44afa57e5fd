-- The order of a page's messages.
use Rattle.std.proofs.Common.{◌≡◌, List, subst, sym}
use Rattle.std.specs.Cmp.{bool_cmp_total, IsStrictWeakOrder, IsTotalOrder}
use Rattle.std.specs.Cmp.Lexicographic.{options_total}
use Rattle.std.specs.List.{AllZip}
use Rattle.std.specs.List.Sorted.{IsPermutation, IsSorted, IsStable}
use Rattle.std.specs.Ordering.{is_lt}
use Rattle.std.proofs.lemmas.Cmp.{nat_cmp_total, nat_list_cmp_total, on_total, then_total}
use Rattle.std.proofs.lemmas.List.MinMax.{ranks_by}
use Rattle.object_values.specs.declared.messages.Message.{Message}
use Rattle.build_view.specs.declared.places.PageMessage.{PageMessage}
use Rattle.build_view.specs.Places.{ArePageMessages, first_messages, IsPageMessage, is_placeless, page_cmp, place_cmp}

place_total : IsTotalOrder place_cmp
place_total = then_total (on_total (λ p. p.path) nat_list_cmp_total) (then_total (on_total (λ p. p.line) nat_cmp_total) (on_total (λ p. p.column) nat_cmp_total))

pub page_total : IsTotalOrder page_cmp
page_total = on_total (λ m. m.place) (then_total (on_total is_placeless bool_cmp_total) (options_total place_total))

pub page_ranks : IsStrictWeakOrder (λ (x y : PageMessage). is_lt (page_cmp x y))
page_ranks = ranks_by page_total (λ m. m)

pub are_page_messages : (messages : List Message) (all firsts ordered shown : List PageMessage) → AllZip IsPageMessage messages all → firsts ≡ first_messages all → IsPermutation firsts ordered → IsSorted page_cmp ordered → IsStable page_cmp firsts ordered → shown ≡ ordered → ArePageMessages messages shown
are_page_messages messages all firsts ordered shown each once same sorted stable is =
    subst (ArePageMessages messages) (sym is) (record {
      all = all;
      each = each;
      same = subst (λ l. IsPermutation l ordered) once same;
      sorted = sorted;
      stable = subst (λ l. IsStable page_cmp l ordered) once stable;
    })
