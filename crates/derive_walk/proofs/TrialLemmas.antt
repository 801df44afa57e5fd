-- What comes of the trial of a record: by what a check of it says, each dep is as it was, or one has another value.
use Rattle.std.proofs.Common.{◌≡◌, ◌<◌, ℕ, ◌+◌, suc, Vec, Global, List, [], map, inl, inr, sym, ap, ◌∙◌, subst, arith}
use Rattle.std.proofs.lemmas.Option.{MatchOption-at_some}
use Rattle.std.specs.Prelude.{⊤, Option, Some, None, IfSome}
use Rattle.object_values.specs.declared.facts.FactDep.{FactDep}
use Rattle.object_values.specs.declared.records.Dep.{Dep}
use Rattle.object_values.specs.declared.records.NodeRecord.{NodeRecord}
use Rattle.object_values.specs.declared.records.Renewed.{Renewed}
use Rattle.object_values.specs.declared.views.View.{View}
use Rattle.meaning_texts.specs.Limits.{height_limit}
use Rattle.meaning_texts.proofs.Lemmas.{in_all}
use Rattle.meaning_tasks.specs.Values.{inherit}
use Rattle.meaning_true.specs.Facts.{view_of_record}
use Rattle.meaning_true.specs.Numbered.{Contents, value_at, fact_by}
use Rattle.validator.specs.declared.verdict.Now.{Now}
use Rattle.validator.specs.declared.verdict.Verdict.TheVariants.{Current as current_at, Stale as stale_at}
use Rattle.validator.specs.Laws.{AreSame, VerdictIsExact}
use Rattle.validator.specs.Verdicts.{highest, renewed_by, verdict_of}
use Rattle.derive_walk.specs.declared.trial.Current.{Current}
use Rattle.derive_walk.specs.SeenNow.{AreNow, IsStood, view_renewed}
use Rattle.derive_walk.specs.Tables.{Entries, results_of, heights_of, place_of}
use Rattle.derive_walk.specs.Trials.{IsNamed, IsNamedSeen, Differs, IsValued, IsTried, top_of_deps, tight_of_deps}
use Rattle.derive_walk.proofs.SeenNowLemmas.{same_or_differs, same_is_seen, worst_now, messages_now, highest_now, first_now}

-- what is told of the deps, where it was found
pub found_now : (contents : Contents) (done : Entries) (slice deps : List Dep) → slice ≡ deps → (found : Option (Vec Now Global)) (now : Vec Now Global) → found ≡ Some now
    → IfSome found (λ (v : Vec Now Global). AreNow contents done slice v.items) → (items : List Now) → items ≡ now.items → AreNow contents done deps items
found_now contents done slice deps same found now is each items e =
    let all = MatchOption-at_some ⊤ (λ (v : Vec Now Global). AreNow contents done slice v.items) now is each in
    subst (λ l. AreNow contents done l items) same (subst (AreNow contents done slice) (sym e) all)

module _ (contents : Contents) (done : Entries) (kept : NodeRecord) (now : List Now) (named : IsNamed contents kept) (are : AreNow contents done kept.deps now)
    (exact : VerdictIsExact kept now) where
  -- ---- stale

  pub stale_differs : (place : ℕ) → verdict_of kept now ≡ stale_at place → Differs done (fact_by contents kept).deps
  stale_differs place stale = elim (same_or_differs contents done kept.deps now (in_all (λ (d : Dep). IsNamedSeen contents d.seen) kept.deps named.deps) are) [
    | inl same ↦ let no : current_at (renewed_by kept now) ≡ stale_at place = sym (exact.holds same) ∙ stale in cc
    | inr differs ↦ differs
  ]

  -- ---- current

  module _ (renewed : Renewed) (current : verdict_of kept now ≡ current_at renewed) where
    same : AreSame kept.deps now
    same = exact.current renewed current

    renewed_is : renewed ≡ renewed_by kept now
    renewed_is = let e : current_at renewed ≡ current_at (renewed_by kept now) = sym current ∙ exact.holds same in cc

    view_is : view_renewed contents kept renewed ≡ view_of_record (results_of done) (fact_by contents kept)
    view_is =
        let worst = ap (λ (r : Renewed). r.status) renewed_is ∙ worst_now contents done kept.own_status kept.deps now are in
        let told = ap (λ (r : Renewed). r.messages) renewed_is ∙ ap (λ m. inherit m kept.own_messages) (messages_now contents done kept.deps now are) in
        λ i. record { value = value_at contents kept.value; status = worst i; messages = told i }

    height_is : renewed.height ≡ suc (top_of_deps done (fact_by contents kept).deps)
    height_is = ap (λ (r : Renewed). r.height) renewed_is ∙ (ap (λ h. h + 1) (highest_now contents done kept.deps now are) ∙ omega arith)

    tight_is : renewed.tight ≡ tight_of_deps done (fact_by contents kept).deps
    tight_is =
        let heights = heights_of done [] in
        let nodes = map (λ (d : FactDep). d.node) (fact_by contents kept).deps in
        ap (λ (r : Renewed). r.tight) renewed_is ∙ first_now contents done (highest now) kept.deps now are
        ∙ ap (λ h. place_of heights h nodes) (highest_now contents done kept.deps now are)

    pub stood_is_tried : (found : Option Current) → IsStood contents kept renewed found → IsTried done (fact_by contents kept) found
    stood_is_tried None why = inr (inr (record {
      seen = same_is_seen contents done kept.deps now are same;
      why = elim why [
        | inl high ↦ inl (subst (λ h. height_limit < h) height_is high)
        | inr unvalued ↦ inr (subst (λ (v : View). ¬ IsValued v) view_is unvalued)
      ];
    }))
    stood_is_tried (Some found) stands = record {
      seen = same_is_seen contents done kept.deps now are same;
      view = stands.view ∙ view_is;
      height = stands.height ∙ height_is;
      tight = stands.tight ∙ tight_is;
      high = stands.high;
      valued = stands.valued;
    }
