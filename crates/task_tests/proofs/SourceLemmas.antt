-- Sources with one more are names with texts that are not too long.
use Rattle.std.proofs.Common.{◌≡◌, ◌≢◌, ◌≤◌, Bool, true, false, length, ap, sym, ◌∙◌, refl, subst}
use Rattle.std.specs.Prelude.{Some, None}
use Rattle.std.specs.FinMap.{get, insert, get-empty}
use Rattle.std.specs.Str.{bytes_eq}
use Rattle.std.proofs.lemmas.Slice.Eq.{bytes_eq-Decides}
use Rattle.object_values.specs.Texts.{Text, Texts, no_texts}
use Rattle.object_values.specs.Gets.{put_here, put_other}
use Rattle.meaning_texts.specs.Classes.{IsName}
use Rattle.meaning_texts.specs.Limits.{body_limit}
use Rattle.meaning_derive.specs.Given.{IsSource, AreSources}

pub put_stays : (old : Texts) (name text : Text) → AreSources old → IsName name → length text ≤ body_limit → AreSources (insert old name text)
put_stays old name text are named short q t is = by (bytes_eq q name) refl
  where
    by : (b : Bool) → bytes_eq q name ≡ b → IsSource q t
    by true e =
        let same : q ≡ name = (bytes_eq-Decides q name).0 e in
        let found : Some t ≡ Some text = sym is ∙ ap (get (insert old name text)) same ∙ put_here old name text in
        let text_is : t ≡ text = cc in
        record { named = subst (λ n. IsName n) (sym same) named; short = subst (λ x. length x ≤ body_limit) (sym text_is) short }
    by false e =
        let other : q ≢ name = λ same. let yes = (bytes_eq-Decides q name).1 same in cc in
        are q t (sym (put_other old name text q other) ∙ is)

pub none_are : (texts : Texts) → texts ≡ no_texts → AreSources texts
none_are texts none name text is = let no : Some text ≡ None = sym is ∙ ap (λ t. get t name) none ∙ get-empty _ name in cc
