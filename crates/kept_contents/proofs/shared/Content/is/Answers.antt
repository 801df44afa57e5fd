use Rattle.std.proofs.Common.{◌∙◌, sym}
use Rattle.meaning_records.proofs.Lemmas.{value_exact}
use Rattle.kept_contents.proofs.shared.Content.is.Goals as goal

pub returns-in-Other : goal.returns-in-Other
returns-in-Other c =
    let exact = value_exact c.in-Other.other c.args.value.now in
    rw c.in-Other.is (λ yes. exact.0 (sym c.eq.ensures ∙ yes), λ same. c.eq.ensures ∙ exact.1 same)
