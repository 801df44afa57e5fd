-- The edits that lead from one map of texts to another: each is due, and after them the sources are those that are wanted.
use Rattle.std.proofs.Common.{◌≡◌, ◌≢◌, ◌⊎◌, ◌≤◌, length, Bool, true, false, cond, List, [], ◌∷◌, ◌++◌, Option, Some, None, IsSome, refl, sym, ap, subst, ◌∙◌, inl, inr}
use Rattle.std.specs.Prelude.{T}
use Rattle.std.specs.Str.{bytes_eq}
use Rattle.std.proofs.lemmas.Slice.Eq.{bytes_eq-Decides}
use Rattle.std.specs.Cmp.Lexicographic.{slice_cmp, nat_list_cmp_total}
use Rattle.std.specs.Ordering.{nat_cmp}
use Rattle.std.specs.FinMap as map
use Rattle.std.proofs.lemmas.List.{map-append}
use Rattle.std.specs.FinMap.{get, entries}
use Rattle.std.specs.FinMap.Entries.{is_sorted}
use Rattle.object_values.specs.Texts.{Text, Texts}
use Rattle.object_values.specs.Gets.{put_here, put_other, remove_here, remove_other}
use Rattle.meaning_texts.specs.Limits.{body_limit}
use Rattle.meaning_texts.specs.Lists.{IsIn}
use Rattle.meaning_derive.specs.Given.{AreSources}
use Rattle.odin_journal.specs.Trails as trails
use Rattle.odin_store.specs.Held.{Held, Change, puts, drops, apply}
use Rattle.odin_store.specs.Keeping.{store_keeping}
use Rattle.odin_answers.specs.Changes.{source_changes}
use Rattle.fresh_build.specs.declared.edits.Edit.{Edit}
use Rattle.fresh_build.specs.declared.edits.Edit.TheVariants as edit
use Rattle.fresh_build.specs.Edits.{change_of, changes_of, drop_of, drops_to, puts_to, changes_to, AreShort, AreDue}
use Rattle.fresh_build.proofs.MapLemmas.{Source, either_name, other_name, entry_given, given_entry, first_of, rest_of}

-- ---- changes one after another

abbrev pub after_changes : List Change → Held → Held
after_changes = trails.after_changes store_keeping

after_more : (some more : List Change) (held : Held) → after_changes (some ++ more) held ≡ after_changes more (after_changes some held)
after_more [] more held = refl
after_more (change ∷ some) more held = after_more some more (apply change held)

due_more : (some more : List Change) (held : Held) → AreDue some held → AreDue more (after_changes some held) → AreDue (some ++ more) held
due_more [] more held due then = then
due_more (change ∷ some) more held due then = (due.0, due_more some more (apply change held) due.1 then)

-- ---- the change of one source

drop_cases : (name : Text) (wanted : Option Text) → (IsSome wanted × (drop_of name wanted ≡ [])) ⊎ ((wanted ≡ None) × (drop_of name wanted ≡ drops name ∷ []))
drop_cases name None = inr (refl, refl)
drop_cases name (Some text) = inl (refl, refl)

put_cases : (name text : Text) (there : Option Text)
    → ((there ≡ Some text) × (source_changes name there (Some text) ≡ [])) ⊎ ((there ≢ Some text) × (source_changes name there (Some text) ≡ puts name text ∷ []))
put_cases name text None = inr (λ is. let no : ⊥ = cc in no, refl)
put_cases name text (Some old) = by (bytes_eq old text) refl
  where
    same_text : (x y : Text) → Some x ≡ Some y → x ≡ y
    same_text x y e = cc

    by : (b : Bool) → bytes_eq old text ≡ b
        → ((Some old ≡ Some text) × (source_changes name (Some old) (Some text) ≡ [])) ⊎ ((Some old ≢ Some text) × (source_changes name (Some old) (Some text) ≡ puts name text ∷ []))
    by true e = inl (ap (λ t. Some t) ((bytes_eq-Decides old text).0 e), ap (λ b. cond b [] (puts name text ∷ [])) e)
    by false e = inr (
      λ is. let same = (bytes_eq-Decides old text).1 (same_text old text is) in let no : ⊥ = cc in no,
      ap (λ b. cond b [] (puts name text ∷ [])) e,
    )

some_of : (o : Option Text) (text : Text) → o ≡ Some text → IsSome o
some_of o text is = subst (λ (x : Option Text). IsSome x) (sym is) refl

absent : {A : Type 0} (o : Option A) → o ≡ None → IsSome o → ⊥
absent o none some = cc

-- ---- edits that are noted

-- a put
pub put_noted : (edits next : List Edit) (name text name_was text_was : Text) (there : Option Text) → next ≡ edits ++ edit.Put name text ∷ []
    → name ≡ name_was → text ≡ text_was → there ≢ Some text_was
    → changes_of next ≡ changes_of edits ++ source_changes name_was there (Some text_was)
put_noted edits next name text name_was text_was there is name_is text_is other = elim (put_cases name_was text_was there) [
  | inl c ↦ absurd (other c.0)
  | inr c ↦ ap changes_of is ∙ map-append change_of edits (edit.Put name text ∷ [])
      ∙ (λ i. changes_of edits ++ puts (name_is i) (text_is i) ∷ []) ∙ ap (λ (l : List Change). changes_of edits ++ l) (sym c.1)
]

-- ---- their texts

short_more : (some more : List Change) → AreShort some → AreShort more → AreShort (some ++ more)
short_more [] more short then = then
short_more (change ∷ some) more short then = (short.0, short_more some more short.1 then)

drops_short : (wanted : Texts) (sources : List Source) → AreShort (drops_to wanted sources)
drops_short wanted [] = tt
drops_short wanted (s ∷ sources) = elim (drop_cases s.0 (get wanted s.0)) [
  | inl c ↦ subst (λ (x : List Change). AreShort (x ++ drops_to wanted sources)) (sym c.1) (drops_short wanted sources)
  | inr c ↦ subst (λ (x : List Change). AreShort (x ++ drops_to wanted sources)) (sym c.1) (tt, drops_short wanted sources)
]

puts_short : (old : Texts) (sources : List Source) → ((s : Source) → IsIn s sources → length s.1 ≤ body_limit) → AreShort (puts_to old sources)
puts_short old [] short = tt
puts_short old (s ∷ sources) short =
    let rest = puts_short old sources (λ other i. short other (inr i)) in
    elim (put_cases s.0 s.1 (get old s.0)) [
      | inl c ↦ subst (λ (x : List Change). AreShort (x ++ puts_to old sources)) (sym c.1) rest
      | inr c ↦ subst (λ (x : List Change). AreShort (x ++ puts_to old sources)) (sym c.1) (short s (inl refl), rest)
    ]

-- no edit puts a text that is too long
pub edits_short : (wanted old : Texts) → AreSources wanted → AreShort (changes_to wanted old)
edits_short wanted old fit =
    short_more (drops_to wanted (entries old)) (puts_to old (entries wanted)) (drops_short wanted (entries old))
    (puts_short old (entries wanted) (λ s i. (fit s.0 s.1 (entry_given wanted s i)).short))

-- ---- sources that are wanted as they are

drops_nothing : (wanted : Texts) (sources : List Source) → ((s : Source) → IsIn s sources → IsSome (get wanted s.0)) → drops_to wanted sources ≡ []
drops_nothing wanted [] there = refl
drops_nothing wanted (s ∷ sources) there = elim (drop_cases s.0 (get wanted s.0)) [
  | inl c ↦ ap (λ (x : List Change). x ++ drops_to wanted sources) c.1 ∙ drops_nothing wanted sources (λ other i. there other (inr i))
  | inr c ↦ absurd (absent (get wanted s.0) c.0 (there s (inl refl)))
]

puts_nothing : (old : Texts) (sources : List Source) → ((s : Source) → IsIn s sources → get old s.0 ≡ Some s.1) → puts_to old sources ≡ []
puts_nothing old [] there = refl
puts_nothing old (s ∷ sources) there = elim (put_cases s.0 s.1 (get old s.0)) [
  | inl c ↦ ap (λ (x : List Change). x ++ puts_to old sources) c.1 ∙ puts_nothing old sources (λ other i. there other (inr i))
  | inr c ↦ absurd (c.0 (there s (inl refl)))
]

-- they take no edit
pub no_edits : (wanted old : Texts) → old ≡ wanted → changes_to wanted old ≡ []
no_edits wanted old same = ap (changes_to wanted) same
    ∙ ap (λ (x : List Change). x ++ puts_to wanted (entries wanted)) (drops_nothing wanted (entries wanted) (λ s i. some_of (get wanted s.0) s.1 (entry_given wanted s i)))
    ∙ puts_nothing wanted (entries wanted) (λ s i. entry_given wanted s i)

-- ---- the drops

module _ (wanted : Texts) where
  -- what becomes of a held after the drops of these sources
  abbrev dropped : List Source → Held → Held
  dropped sources held = after_changes (drops_to wanted sources) held

  drops_step : (source : Source) (sources : List Source) (held : Held)
      → (IsSome (get wanted source.0) × (dropped (source ∷ sources) held ≡ dropped sources held))
      ⊎ ((get wanted source.0 ≡ None) × (dropped (source ∷ sources) held ≡ dropped sources (apply (drops source.0) held)))
  drops_step source sources held = elim (drop_cases source.0 (get wanted source.0)) [
    | inl c ↦ inl (c.0, ap (λ (x : List Change). after_changes (x ++ drops_to wanted sources) held) c.1)
    | inr c ↦ inr (c.0, ap (λ (x : List Change). after_changes (x ++ drops_to wanted sources) held) c.1)
  ]

  -- a wanted source stays
  drops_keep : (sources : List Source) (held : Held) (name : Text) → IsSome (get wanted name) → get (dropped sources held).sources name ≡ get held.sources name
  drops_keep [] held name some = refl
  drops_keep (s ∷ sources) held name some = elim (drops_step s sources held) [
    | inl c ↦ ap (λ (h : Held). get h.sources name) c.1 ∙ drops_keep sources held name some
    | inr c ↦ ap (λ (h : Held). get h.sources name) c.1 ∙ drops_keep sources (apply (drops s.0) held) name some
        ∙ remove_other held.sources s.0 name (λ same. absent (get wanted name) (ap (get wanted) same ∙ c.0) some)
  ]

  -- one that isn't there stays away
  drops_none : (sources : List Source) (held : Held) (name : Text) → get held.sources name ≡ None → get (dropped sources held).sources name ≡ None
  drops_none [] held name none = none
  drops_none (s ∷ sources) held name none = elim (drops_step s sources held) [
    | inl c ↦ ap (λ (h : Held). get h.sources name) c.1 ∙ drops_none sources held name none
    | inr c ↦ ap (λ (h : Held). get h.sources name) c.1 ∙ drops_none sources (apply (drops s.0) held) name (elim (either_name name s.0) [
      | inl same ↦ ap (get (map.remove held.sources s.0)) same ∙ remove_here held.sources s.0
      | inr other ↦ remove_other held.sources s.0 name other ∙ none
    ])
  ]

  -- one that isn't wanted goes
  drops_all : (sources : List Source) (held : Held) (source : Source) → IsIn source sources → get wanted source.0 ≡ None
      → get (dropped sources held).sources source.0 ≡ None
  drops_all [] held source is none = absurd is
  drops_all (s ∷ sources) held source (inl e) none = elim (drops_step s sources held) [
    | inl c ↦ absurd (absent (get wanted source.0) none (subst (λ (x : Source). IsSome (get wanted x.0)) (sym e) c.0))
    | inr c ↦ ap (λ (h : Held). get h.sources source.0) c.1 ∙ drops_none sources (apply (drops s.0) held) source.0
        (ap (λ (x : Source). get (map.remove held.sources s.0) x.0) e ∙ remove_here held.sources s.0)
  ]
  drops_all (s ∷ sources) held source (inr i) none = elim (drops_step s sources held) [
    | inl c ↦ ap (λ (h : Held). get h.sources source.0) c.1 ∙ drops_all sources held source i none
    | inr c ↦ ap (λ (h : Held). get h.sources source.0) c.1 ∙ drops_all sources (apply (drops s.0) held) source i none
  ]

  drops_calls : (sources : List Source) (held : Held) → (dropped sources held).calls ≡ held.calls
  drops_calls [] held = refl
  drops_calls (s ∷ sources) held = elim (drops_step s sources held) [
    | inl c ↦ ap (λ (h : Held). h.calls) c.1 ∙ drops_calls sources held
    | inr c ↦ ap (λ (h : Held). h.calls) c.1 ∙ drops_calls sources (apply (drops s.0) held)
  ]

  -- each drop is due
  drops_due : (sources : List Source) (held : Held) → T (is_sorted (slice_cmp nat_cmp) sources)
      → ((s : Source) → IsIn s sources → get held.sources s.0 ≡ Some s.1) → AreDue (drops_to wanted sources) held
  drops_due [] held sorted there = tt
  drops_due (s ∷ sources) held sorted there = elim (drop_cases s.0 (get wanted s.0)) [
    | inl c ↦ subst (λ (x : List Change). AreDue (x ++ drops_to wanted sources) held) (sym c.1) (drops_due sources held (rest_of _ _ sorted)
        (λ other i. there other (inr i)))
    | inr c ↦ subst (λ (x : List Change). AreDue (x ++ drops_to wanted sources) held) (sym c.1) (
      subst (λ (o : Option Text). IsSome o) (sym (there s (inl refl))) refl,
      drops_due sources (apply (drops s.0) held) (rest_of _ _ sorted)
          (λ other i. remove_other held.sources s.0 other.0 (other_name s.0 sources other (first_of _ _ sorted) i) ∙ there other (inr i)),
    )
  ]

-- ---- the puts

module _ (old : Texts) where
  abbrev put : List Source → Held → Held
  put sources held = after_changes (puts_to old sources) held

  puts_step : (source : Source) (sources : List Source) (held : Held)
      → ((get old source.0 ≡ Some source.1) × (put (source ∷ sources) held ≡ put sources held))
      ⊎ ((get old source.0 ≢ Some source.1) × (put (source ∷ sources) held ≡ put sources (apply (puts source.0 source.1) held)))
  puts_step source sources held = elim (put_cases source.0 source.1 (get old source.0)) [
    | inl c ↦ inl (c.0, ap (λ (x : List Change). after_changes (x ++ puts_to old sources) held) c.1)
    | inr c ↦ inr (c.0, ap (λ (x : List Change). after_changes (x ++ puts_to old sources) held) c.1)
  ]

  -- a name that none of the sources has keeps its text
  puts_other : (sources : List Source) (held : Held) (name : Text) → ((s : Source) → IsIn s sources → s.0 ≢ name)
      → get (put sources held).sources name ≡ get held.sources name
  puts_other [] held name others = refl
  puts_other (s ∷ sources) held name others = elim (puts_step s sources held) [
    | inl c ↦ ap (λ (h : Held). get h.sources name) c.1 ∙ puts_other sources held name (λ other i. others other (inr i))
    | inr c ↦ ap (λ (h : Held). get h.sources name) c.1 ∙ puts_other sources (apply (puts s.0 s.1) held) name (λ other i. others other (inr i))
        ∙ put_other held.sources s.0 s.1 name (λ same. others s (inl refl) (sym same))
  ]

  -- each source has its text
  puts_all : (sources : List Source) (held : Held) → T (is_sorted (slice_cmp nat_cmp) sources)
      → ((s : Source) → IsIn s sources → get held.sources s.0 ≡ get old s.0)
      → (source : Source) → IsIn source sources → get (put sources held).sources source.0 ≡ Some source.1
  puts_all [] held sorted alike source is = absurd is
  puts_all (s ∷ sources) held sorted alike source (inl e) =
      let others = λ (other : Source) (i : IsIn other sources). other_name s.0 sources other (first_of _ _ sorted) i in
      subst (λ (x : Source). get (put (s ∷ sources) held).sources x.0 ≡ Some x.1) (sym e) (elim (puts_step s sources held) [
        | inl c ↦ ap (λ (h : Held). get h.sources s.0) c.1 ∙ puts_other sources held s.0 others ∙ alike s (inl refl) ∙ c.0
        | inr c ↦ ap (λ (h : Held). get h.sources s.0) c.1 ∙ puts_other sources (apply (puts s.0 s.1) held) s.0 others ∙ put_here held.sources s.0 s.1
      ])
  puts_all (s ∷ sources) held sorted alike source (inr i) = elim (puts_step s sources held) [
    | inl c ↦ ap (λ (h : Held). get h.sources source.0) c.1 ∙ puts_all sources held (rest_of _ _ sorted) (λ other j. alike other (inr j)) source i
    | inr c ↦ ap (λ (h : Held). get h.sources source.0) c.1 ∙ puts_all sources (apply (puts s.0 s.1) held) (rest_of _ _ sorted)
        (λ other j. put_other held.sources s.0 s.1 other.0 (other_name s.0 sources other (first_of _ _ sorted) j) ∙ alike other (inr j)) source i
  ]

  puts_calls : (sources : List Source) (held : Held) → (put sources held).calls ≡ held.calls
  puts_calls [] held = refl
  puts_calls (s ∷ sources) held = elim (puts_step s sources held) [
    | inl c ↦ ap (λ (h : Held). h.calls) c.1 ∙ puts_calls sources held
    | inr c ↦ ap (λ (h : Held). h.calls) c.1 ∙ puts_calls sources (apply (puts s.0 s.1) held)
  ]

  -- each put is due
  puts_due : (sources : List Source) (held : Held) → T (is_sorted (slice_cmp nat_cmp) sources)
      → ((s : Source) → IsIn s sources → get held.sources s.0 ≡ get old s.0) → AreDue (puts_to old sources) held
  puts_due [] held sorted alike = tt
  puts_due (s ∷ sources) held sorted alike = elim (put_cases s.0 s.1 (get old s.0)) [
    | inl c ↦ subst (λ (x : List Change). AreDue (x ++ puts_to old sources) held) (sym c.1) (puts_due sources held (rest_of _ _ sorted)
        (λ other i. alike other (inr i)))
    | inr c ↦ subst (λ (x : List Change). AreDue (x ++ puts_to old sources) held) (sym c.1) (
      λ is. c.0 (sym (alike s (inl refl)) ∙ is),
      puts_due sources (apply (puts s.0 s.1) held) (rest_of _ _ sorted)
          (λ other i. put_other held.sources s.0 s.1 other.0 (other_name s.0 sources other (first_of _ _ sorted) i) ∙ alike other (inr i)),
    )
  ]

-- ---- all of them

module _ (wanted : Texts) (held : Held) where
  abbrev old : Texts
  old = held.sources

  abbrev mid : Held
  mid = dropped wanted (entries old) held

  -- after the drops each wanted source is as it was
  mid_alike : (s : Source) → IsIn s (entries wanted) → get mid.sources s.0 ≡ get old s.0
  mid_alike s is = drops_keep wanted (entries old) held s.0 (some_of (get wanted s.0) s.1 (entry_given wanted s is))

  -- and the others are gone
  mid_gone : (name : Text) → get wanted name ≡ None → get mid.sources name ≡ None
  mid_gone name none = by (get old name) refl
    where
      by : (o : Option Text) → get old name ≡ o → get mid.sources name ≡ None
      by None e = drops_none wanted (entries old) held name e
      by (Some text) e = drops_all wanted (entries old) held (name, text) (given_entry old name text e) none

  last_is : (name : Text) (o : Option Text) → get wanted name ≡ o → get (after_changes (changes_to wanted old) held).sources name ≡ o
  last_is name None e =
      ap (λ (h : Held). get h.sources name) (after_more (drops_to wanted (entries old)) (puts_to old (entries wanted)) held)
      ∙ puts_other old (entries wanted) mid name
      (λ s i same. absent (get wanted name) e (subst (λ (n : Text). IsSome (get wanted n)) same (some_of (get wanted s.0) s.1 (entry_given wanted s i))))
      ∙ mid_gone name e
  last_is name (Some text) e =
      ap (λ (h : Held). get h.sources name) (after_more (drops_to wanted (entries old)) (puts_to old (entries wanted)) held)
      ∙ puts_all old (entries wanted) mid (map.entries_sorted wanted) mid_alike (name, text) (given_entry wanted name text e)

  -- After the edits the sources are those that are wanted.
  pub edits_reach : (after_changes (changes_to wanted old) held).sources ≡ wanted
  edits_reach =
      map.same_map nat_list_cmp_total (map.slice_cmp-IsAntisymmetric map.nat_cmp-IsAntisymmetric) _ wanted (λ name. last_is name (get wanted name) refl)

  -- the calls stay
  pub edits_keep : (after_changes (changes_to wanted old) held).calls ≡ held.calls
  edits_keep =
      ap (λ (h : Held). h.calls) (after_more (drops_to wanted (entries old)) (puts_to old (entries wanted)) held)
      ∙ puts_calls old (entries wanted) mid ∙ drops_calls wanted (entries old) held

  -- each edit is due
  pub edits_due : AreDue (changes_to wanted old) held
  edits_due =
      due_more (drops_to wanted (entries old)) (puts_to old (entries wanted)) held
      (drops_due wanted (entries old) held (map.entries_sorted old) (λ s i. entry_given old s i))
      (puts_due old (entries wanted) mid (map.entries_sorted wanted) mid_alike)
