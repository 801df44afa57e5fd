-- Parameters put among those that are kept, one after another.
use Rattle.std.proofs.Common.{◌≡◌, ℕ, ◌+◌, ◌<◌, List, [], ◌∷◌, ◌++◌, length, take, get_or, sym, ap, subst, ◌∙◌, append-nil, append_assoc}
use Rattle.std.proofs.lemmas.List.{take_more}
use Rattle.object_values.specs.declared.nodes.ParamValue.{ParamValue}
use Rattle.meaning_texts.specs.Expressions.{AreKeptAs}
use Rattle.meaning_texts.specs.Reading.{kept_params}
use Rattle.meaning_texts.proofs.Lemmas.{one_kept}
use Rattle.request_parser.specs.Kept.{KeepsOne, KeepsAll}
use Rattle.request_parser.proofs.ListLemmas.{none_kept}

pub none_more : (old : List ParamValue) → KeepsAll [] old old
none_more old written k = subst (λ w. AreKeptAs w old) (sym (append-nil written)) k

pub one_more : (ps old kept new : List ParamValue) (place : ℕ) (p : ParamValue) → place < length ps → p ≡ get_or ps place p → KeepsAll (take place ps) old kept → KeepsOne p kept new → KeepsAll (take (place + 1) ps) old new
one_more ps old kept new place p inside is all one written k =
    let there : take (place + 1) ps ≡ take place ps ++ p ∷ [] = take_more ps place p inside ∙ ap (λ q. take place ps ++ q ∷ []) (sym is) in
    let whole : (written ++ take place ps) ++ p ∷ [] ≡ written ++ take (place + 1) ps = append_assoc written (take place ps) (p ∷ []) ∙ ap (λ t. written ++ t) (sym there) in
    subst (λ w. AreKeptAs w new) whole (one (written ++ take place ps) (all written k))

-- what is kept of both is what is computed of them
pub both_kept : (first second kept new : List ParamValue) → KeepsAll first [] kept → KeepsAll second kept new → new ≡ kept_params (first ++ second)
both_kept first second kept new a b = one_kept (first ++ second) new (b first (a [] none_kept))
