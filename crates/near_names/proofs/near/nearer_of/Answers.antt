use Rattle.std.proofs.Common.{◌≡◌, Bool, true, false, List, ℕ, Option, option_map, ap, sym, ◌∙◌}
use Rattle.near_names.specs.declared.near.Near.{Near}
use Rattle.near_names.specs.Nearest.{distance, is_near, is_nearer}
use Rattle.near_names.proofs.NearLemmas.{no_reach, reach_near, reach_is, step_far, step_kept, step_nearer}
use Rattle.near_names.proofs.near.nearer_of.Goals as goal

-- what was found, as it is told
abbrev told : Option Near → Option (List ℕ × ℕ)
told best = option_map (λ (near : Near). (near.name.now, near.away)) best

-- the distance by which a name was compared is the name's
of_name : (best : Option Near) (away n : ℕ) (r b : Bool) → away ≡ n → r ≡ is_nearer away (told best) → r ≡ b → is_nearer n (told best) ≡ b
of_name best away n r b is compared so = ap (λ m. is_nearer m (told best)) (sym is) ∙ sym compared ∙ so

pub returns-in_default : goal.returns-in_default
returns-in_default c =
    let word = c.args.word.now in let name = c.args.name.now in
    λ seen so. step_far word seen (told c.args.best) name (no_reach (is_near word name) (distance word name) (sym c.in_ok-away.ensures ∙ c.in_default.is)) so

pub returns-then-is_nearer : goal.returns-then-is_nearer
returns-then-is_nearer c =
    let word = c.args.word.now in let name = c.args.name.now in
    let is = sym c.in_ok-away.ensures ∙ c.in-Some.is in
    let away = reach_is (is_near word name) (distance word name) c.in-Some.away is in
    λ seen so. (
      away,
      step_nearer word seen (told c.args.best) name (reach_near (is_near word name) (distance word name) c.in-Some.away is)
          (of_name c.args.best c.in-Some.away (distance word name) c.is_nearer.result true away c.is_nearer.ensures c.if-is_nearer.true) so,
    )

pub returns-else-is_nearer : goal.returns-else-is_nearer
returns-else-is_nearer c =
    let word = c.args.word.now in let name = c.args.name.now in
    let away = reach_is (is_near word name) (distance word name) c.in-Some.away (sym c.in_ok-away.ensures ∙ c.in-Some.is) in
    λ seen so. step_kept word seen (told c.args.best) name
    (of_name c.args.best c.in-Some.away (distance word name) c.is_nearer.result false away c.is_nearer.ensures c.if-is_nearer.false) so
