use Rattle.std.proofs.Common.{List, ◌∷◌, [], subst}
use Rattle.std.specs.Prelude.{codes}
use Rattle.std.proofs.lemmas.Result.{on_ok_weaker}
use Rattle.object_values.specs.declared.graph.Extra.{Extra}
use Rattle.meaning_graph.specs.Tokens.{word}
use Rattle.meaning_graph.specs.Grammar.{string_tokens, optional_tokens, extra_tokens}
use Rattle.dg_reader.specs.Written.{Writes}
use Rattle.dg_reader.proofs.WriteLemmas.{tool_written}
use Rattle.dg_reader.proofs.writer.Writer.tool.Goals as goal

pub returns : goal.returns
returns c =
    let name = subst (λ w. Writes (word w ∷ []) c.word.new.self c.word-2.new.self) c.as_slice.ensures c.in_ok-word-2.ensures in
    let version = subst (λ w. Writes (word w ∷ []) c.word-2.new.self c.word-3.new.self) c.as_slice-2.ensures c.in_ok-word-3.ensures in
    let words = subst (λ ws. Writes (string_tokens ws) c.word-4.new.self c.strings.new.self) c.as_slice-3.ensures c.in_ok-strings.ensures in
    let uses = subst (λ us. Writes (optional_tokens (codes "uses") us) c.strings.new.self c.optional.new.self) c.as_slice-4.ensures c.in_ok-optional.ensures in
    let extras = subst (λ (es : List Extra). Writes (extra_tokens es) c.optional.new.self c.extras.new.self) c.as_slice-5.ensures c.in_ok-extras.ensures in
    on_ok_weaker c.closure.result (tool_written c.args.maker.now c.args.tool.now c.args.self.now c.word.new.self c.word-2.new.self c.word-3.new.self c.way.new.self c.word-4.new.self c.strings.new.self c.optional.new.self c.extras.new.self c.closure.new.self c.in_ok-word.ensures name version c.in_ok-way.ensures c.in_ok-word-4.ensures words uses extras) c.closure.ensures
