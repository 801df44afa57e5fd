use Rattle.std.proofs.Common.{◌≡◌, ◌++◌, ◌∷◌, [], List, length, ap, ◌∙◌, sym}
use Rattle.std.specs.Prelude.{Some, None}
use Rattle.content_store.specs.Marks.{Finds, KeepsNumbers}
use Rattle.kept_contents.specs.declared.head.CallHead.{CallHead}
use Rattle.kept_contents.specs.Heads.{head_of, marks_of, place_of_head}
use Rattle.kept_contents.proofs.HeadLemmas.{head_more, head_new, heads_kept}
use Rattle.kept_contents.proofs.heads.Heads.hold.Goals as goal

pub invariant_of-self-in_err-reserve-2 : goal.invariant_of-self-in_err-reserve-2
invariant_of-self-in_err-reserve-2 c = rw c.reserve.ensures.items (heads_kept c.self.inside.heads.items c.self.inside.marks c.self.invariant c.reserve-2.new.self c.reserve-2.ensures.kept)

pub invariant_of-self-2 : goal.invariant_of-self-2
invariant_of-self-2 c =
    let heads = c.self.inside.heads.items in
    let head = head_of c.args.call.now in
    let none : place_of_head head heads ≡ None = ap (place_of_head head) c.self.view_is ∙ sym c.in_default.ensures in
    let kept : KeepsNumbers c.self.inside.marks c.add.new.self = λ marks i found. c.add.ensures.kept marks i (c.reserve-2.ensures.kept marks i found) in
    let long : c.len-number.result ≡ length heads = c.len-number.ensures ∙ sym (ap length (sym c.as_slice.ensures.value) ∙ c.as_slice.ensures.len) ∙ ap length c.reserve.ensures.items in
    let there : Finds c.add.new.self (marks_of head) (length heads) = rw long at c.add.ensures.added in
    let now : c.push_within.new.heads.items ≡ heads ++ head ∷ [] = c.push_within.ensures ∙ ap (λ (l : List CallHead). l ++ c.in_ok-head.head ∷ []) c.reserve.ensures.items ∙ ap (λ (h : CallHead). heads ++ h ∷ []) c.in_ok-head.ensures in
    rw now (head_more heads c.self.inside.marks c.self.invariant head c.add.new.self none kept there)

pub returns-clause-number : goal.returns-clause-number
returns-clause-number c =
    let heads = c.self.inside.heads.items in
    let head = head_of c.args.call.now in
    let none : place_of_head head heads ≡ None = ap (place_of_head head) c.self.view_is ∙ sym c.in_default.ensures in
    let long : c.len-number.result ≡ length heads = c.len-number.ensures ∙ sym (ap length (sym c.as_slice.ensures.value) ∙ c.as_slice.ensures.len) ∙ ap length c.reserve.ensures.items in
    let now : c.push_within.new.heads.items ≡ heads ++ head ∷ [] = c.push_within.ensures ∙ ap (λ (l : List CallHead). l ++ c.in_ok-head.head ∷ []) c.reserve.ensures.items ∙ ap (λ (h : CallHead). heads ++ h ∷ []) c.in_ok-head.ensures in
    ap (place_of_head head) now ∙ head_new head heads none ∙ ap Some (sym long)
