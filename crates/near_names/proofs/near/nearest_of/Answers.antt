use Rattle.std.proofs.Common.{◌≡◌, ◌<◌, ◌++◌, ◌∷◌, [], ℕ, ◌+◌, List, Option, option_map, map, length, get_or, take, Bor, ap, sym, subst, ◌∙◌}
use Rattle.std.proofs.lemmas.List.{take_more, map-append}
use Rattle.near_names.specs.declared.near.Near.{Near}
use Rattle.near_names.specs.Nearest.{IsSoFar}
use Rattle.near_names.proofs.near.nearest_of.Goals as goal

abbrev texts : List (Bor (List ℕ)) → List (List ℕ)
texts names = map (λ (name : Bor (List ℕ)). name.now) names

-- what was found, as it is told
abbrev told : Option Near → Option (List ℕ × ℕ)
told best = option_map (λ (near : Near). (near.name.now, near.away)) best

-- what stands where there is no name
abbrev nothing : Bor (List ℕ)
nothing = record { ref_ptr = (0, 0); now = [] }

one_more : (names : List (Bor (List ℕ))) (i : ℕ) → i < length names → texts (take i names) ++ (get_or names i nothing).now ∷ [] ≡ texts (take (i + 1) names)
one_more names i inside =
    sym (ap texts (take_more names i nothing inside) ∙ map-append (λ (name : Bor (List ℕ)). name.now) (take i names) (get_or names i nothing ∷ []))

found_more : (word : List ℕ) (names : List (Bor (List ℕ))) (i : ℕ) (best : Option Near) → i < length names
    → IsSoFar word (texts (take i names) ++ (get_or names i nothing).now ∷ []) (told best) → IsSoFar word (texts (take (i + 1) names)) (told best)
found_more word names i best inside so = subst (λ seen. IsSoFar word seen (told best)) (one_more names i inside) so

pub loop-name-preserved : goal.loop-name-preserved
loop-name-preserved c =
    let i = c.loop-name.name-index in let names = c.args.names.now in
    found_more c.args.word.now names i c.in_ok-best.best c.loop-name-test.true (c.in_ok-best.ensures (texts (take i names)) c.loop-name.invariant)
