-- What the document of a project with kits says.
use Rattle.std.specs.Prelude.{ℕ, List, [], ◌∷◌, Option, Some, None, Ok, codes}
use Rattle.object_values.specs.declared.jobs.FileBody.{FileBody}
use Rattle.toml.specs.Data.{Data, Members, get_member}
use Rattle.project_file.specs.Projects.{Reading, ◌>>=◌, problem, texts_of, graph_of, sources_of, targets_of}
use Rattle.project_file.specs.declared.project.Flaw.TheVariants.{NotTexts}
use Rattle.project_file.specs.declared.project.Target.{Target}
use Rattle.project_kits.specs.declared.wanted.Units.{Units}
use Rattle.project_kits.specs.declared.wanted.Wanted.{Wanted}
use Rattle.project_kits.specs.Settings.{all_settings}
use Rattle.project_kits.specs.Units.{all_units}

-- ---- the kits

abbrev pub kits_in : Option (List (List ℕ)) → Reading (List (List ℕ))
kits_in None = problem (codes "kits" ∷ []) NotTexts
kits_in (Some kits) = Ok kits

-- none where the key isn't there
abbrev pub kits_of : Option Data → Reading (List (List ℕ))
kits_of None = Ok []
kits_of (Some value) = kits_in (texts_of value)

-- ---- what the project has of its own, where it has it

abbrev pub own_graph : Option Data → Reading (Option (List ℕ))
own_graph None = Ok None
own_graph (Some value) = graph_of (Some value) >>= λ path. Ok (Some path)

abbrev pub own_sources : Option Data → Reading (List (List ℕ))
own_sources None = Ok []
own_sources (Some value) = sources_of (Some value)

abbrev pub own_targets : Option Data → Reading (List Target)
own_targets None = Ok []
own_targets (Some value) = targets_of (Some value)

-- ---- all of it

abbrev pub wanted : Option (List ℕ) → List (List ℕ) → List Target → List Units → List FileBody → Wanted
wanted graph sources targets units settings =
    record { graph = graph; sources = sources; targets = targets; units = units; settings = settings }

abbrev pub wanted_of : List (List ℕ) → Members → Reading Wanted
wanted_of kits keys =
    own_graph (get_member (codes "graph") keys) >>= λ graph.
    own_sources (get_member (codes "sources") keys) >>= λ sources.
    own_targets (get_member (codes "target") keys) >>= λ targets.
    all_units kits keys >>= λ units.
    all_settings kits keys >>= λ settings. Ok (wanted graph sources targets units settings)
