-- Where a reply stands in a text.
use Rattle.std.proofs.Common.{◌≡◌, ◌≢◌, ℕ, ◌-◌, List, ◌++◌, drop, sym, ap, ◌∙◌}
use Rattle.std.proofs.lemmas.List.{take-append-drop}
use Rattle.object_values.specs.declared.replies.Reply.{Reply}
use Rattle.meaning_commands.specs.Replies.{reply_text}
use Rattle.meaning_commands.specs.Formed.{IsFormed}
use Rattle.odin_commands.specs.Reading.{IsReplyAt}

-- none stands where the text from there on begins with none
pub none_stands : (text rest : List ℕ) (at : ℕ) → rest ≡ drop at text → ((reply : Reply) (behind : List ℕ) → IsFormed reply → rest ≢ reply_text reply ++ behind) → (reply : Reply) (end : ℕ) → ¬ IsReplyAt text at reply end
none_stands text rest at is none reply end stands =
    let behind = drop (end - at) (drop at text) in
    none reply behind stands.formed (is ∙ sym (take-append-drop (end - at) (drop at text)) ∙ ap (λ l. l ++ behind) stands.is)
