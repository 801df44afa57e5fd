-- Texts at a key, and what is read after something.
use Rattle.std.specs.Prelude.{ℕ, List, [], ◌∷◌, ◌++◌, Option, Some, None, Ok, Err}
use Rattle.toml.specs.Data.{Data, string}
use Rattle.project_file.specs.Projects.{Reading, problem, texts_of}
use Rattle.project_file.specs.declared.project.Flaw.TheVariants.{NotTexts}

-- a text, or the texts of a list that has nothing else
abbrev pub one_or_more : Data → Option (List (List ℕ))
one_or_more (string text) = Some (text ∷ [])
one_or_more other = texts_of other

abbrev pub texts_in : List (List ℕ) → Option (List (List ℕ)) → Reading (List (List ℕ))
texts_in place None = problem place NotTexts
texts_in place (Some texts) = Ok texts

abbrev pub texts_at : List (List ℕ) → Data → Reading (List (List ℕ))
texts_at place value = texts_in place (one_or_more value)

-- with these in front
abbrev pub prefixed : {A : Type 0} → List A → Reading (List A) → Reading (List A)
prefixed done (Ok xs) = Ok (done ++ xs)
prefixed done (Err p) = Err p
