use Rattle.std.proofs.Common.{◌≡◌, ◌≤◌, length, true, subst, sym, ◌∙◌}
use Rattle.meaning_texts.specs.Classes.{IsName, is_name_byte}
use Rattle.meaning_texts.specs.Limits.{body_limit}
use Rattle.meaning_texts.specs.Tests.{is_name}
use Rattle.meaning_texts.proofs.Lemmas.{word_decides}
use Rattle.meaning_derive.specs.Given.{AreSources}
use Rattle.task_tests.proofs.SourceLemmas.{put_stays}
use Rattle.task_tests.proofs.derived.put_source.Goals as goal

pub returns : goal.returns
returns c =
    let test : is_name c.args.name.now ≡ true = sym c.is_name.ensures ∙ c.if-not-is_name.false in
    let named : IsName c.args.name.now = (word_decides is_name_byte c.args.name.now).0 test in
    let short : length c.args.text.now ≤ body_limit = c.if-text-gt-BODY_LIMIT.false in
    let are : AreSources c.reserve.new.self.texts = subst AreSources (sym c.reserve.ensures.same) c.requires in
    subst AreSources (sym c.put.ensures.put)
    (put_stays c.reserve.new.self.texts c.in_ok-name.name c.in_ok-text.text are (subst (λ n. IsName n) (sym c.in_ok-name.ensures) named) (subst (λ t. length t ≤ body_limit) (sym c.in_ok-text.ensures) short))
