-- The first suffix that is declared is the longest one.
use Rattle.std.proofs.Common.{◌∙◌, sym, ap, slice_index_or}
use Rattle.meaning_graph.specs.Suffixes.{suffix_of, source_type}
use Rattle.type_graph.proofs.SuffixLemmas.{suffix_hit, suffix_miss, no_suffix, same_suffix, text_source}
use Rattle.type_graph.proofs.graph.Graph.source_type.Goals as goal

pub returns-in-Some : goal.returns-in-Some
returns-in-Some c =
    ap (λ l. slice_index_or l c.in-Some.place 0) (c.as_slice.ensures ∙ c.self.invariant.numbered.ends_are)
    ∙ suffix_hit c.self.inside.decls c.self.inside.tables.spaces.suffixes c.self.invariant.named.suffixes_are c.loop-place.rest.now c.in-Some.place (sym c.in-Some.ensures)
    ∙ ap (λ g. source_type g c.loop-place.rest.now) c.self.view_is
    ∙ sym (same_suffix c.args.self.now c.args.name.now c.loop-place.rest.now c.loop-place.invariant)

pub loop-place-preserved : goal.loop-place-preserved
loop-place-preserved c =
    c.loop-place.invariant ∙ sym (ap (λ g. suffix_of g c.loop-place.rest.now) c.self.view_is)
    ∙ suffix_miss c.self.inside.decls c.self.inside.tables.spaces.suffixes c.self.invariant.named.suffixes_are c.loop-place.rest.now c.in-Some-split_first.shorter.now c.in-Some-split_first.field-0-0.now c.in-Some-split_first.ensures.cases.0 (sym c.in_default.ensures)
    ∙ ap (λ g. suffix_of g c.in-Some-split_first.shorter.now) c.self.view_is

pub returns-in-None : goal.returns-in-None
returns-in-None c =
    sym (text_source c.args.self.now c.args.name.now (c.loop-place.invariant ∙ sym (ap (λ g. suffix_of g c.loop-place.rest.now) c.self.view_is)
    ∙ no_suffix c.self.inside.decls c.self.inside.tables.spaces.suffixes c.self.invariant.named.suffixes_are c.loop-place.rest.now c.in-None.ensures.cases (sym c.in_default.ensures)))
