-- The kinds of declared types.
use Rattle.std.specs.Prelude.{ℕ, zero, suc, Option, None, filter_map, slice_get, option_map, option_and_then}
use Rattle.object_values.specs.declared.graph.Kind.{Kind}
use Rattle.meaning_graph.specs.Graphs.{Text, Graph, as_type, type_named}

-- the kind of the type of a number, and none of `text`
abbrev pub declared_at : Graph → ℕ → Option Kind
declared_at g zero = None
declared_at g (suc t) = option_map (λ d. d.kind) (slice_get (filter_map as_type g) t)

-- the kind of the type that a name means, where it is declared
abbrev pub declared_kind : Graph → Text → Option Kind
declared_kind g name = option_and_then (declared_at g) (type_named g name)
