-- The computed path is the chosen one.
use Rattle.std.proofs.Common.{◌≡◌, ℕ, ◌<◌, ◌+◌, Bool, true, false, List, [], ◌∷◌, inl, inr, sym, ap, ◌∙◌, subst, refl, length, arith, slice_get, cond, nat_lt}
use Rattle.std.specs.Prelude.{Option, Some, None, option_map, option_and_then, MatchOption, bytes_eq}
use Rattle.std.specs.List.{position_or_len}
use Rattle.std.proofs.lemmas.Bool.Decides.{Decides-ltb}
use Rattle.object_values.specs.declared.graph.TypeDecl.{TypeDecl}
use Rattle.object_values.specs.declared.graph.MakerDecl.{MakerDecl}
use Rattle.meaning_texts.specs.Lists.{IsIn, numbered}
use Rattle.meaning_graph.specs.Graphs.{Text, Graph, types, makers, type_named}
use Rattle.meaning_graph.specs.Types.{IsA, itself, by_super, is_a}
use Rattle.meaning_graph.specs.Routes.{least_route}
use Rattle.meaning_graph.specs.Paths.{Makes, Path, Chosen, HasNoPath, made_of, maker_edges, chosen_path}
use Rattle.meaning_texts.proofs.Lemmas.{in_chosen, from_chosen, numbered_in, in_numbered, same_some}
use Rattle.std.proofs.lemmas.Bool.{cond-true}
use Rattle.meaning_graph.proofs.Order.{IsLeast, before_chain, not_before_itself}
use Rattle.meaning_graph.proofs.Routes.{Route, least_of_all}
use Rattle.meaning_graph.proofs.Types.{numbers, in_below, length-below, super_numbered, is_a_so, so_is_a}

module _ (g : Graph) where
  abbrev is_named : Text → TypeDecl → Bool
  is_named name d = bytes_eq d.name name

  pub named_below : (name : Text) (t : ℕ) → type_named g name ≡ Some t → t < length (types g)
  named_below name t h = (elim (nat_lt (position_or_len (is_named name) (types g)) (length (types g))) as (λ b. nat_lt (position_or_len (is_named name) (types g)) (length (types g)) ≡ b → cond b (Some (position_or_len (is_named name) (types g))) None ≡ Some t → t < length (types g)) [
    | true ↦ λ e k. subst (λ z. z < length (types g)) (same_some k) ((Decides-ltb (position_or_len (is_named name) (types g)) (length (types g))).0 e)
    | false ↦ λ e k. cc
  ]) refl h

  -- ---- makers as edges

  -- what a maker that takes the type makes
  record Made (a : ℕ) (m : MakerDecl) (to : ℕ) : Type 0 where
    taken : ℕ
    takes : type_named g m.from ≡ Some taken
    fits : IsA g a taken
    makes : type_named g m.to ≡ Some to

  made_so : (a : ℕ) (m : MakerDecl) (to : ℕ) → made_of g a m ≡ Some to → Made a m to
  made_so a m to h = (elim (type_named g m.from) as (λ o. type_named g m.from ≡ o → option_and_then (λ t. cond (is_a g a t) (type_named g m.to) None) o ≡ Some to → Made a m to) [
    | None ↦ λ e k. cc
    | Some t ↦ λ e k. (elim (is_a g a t) as (λ b. is_a g a t ≡ b → cond b (type_named g m.to) None ≡ Some to → Made a m to) [
      | true ↦ λ p q. record { taken = t; takes = e; fits = is_a_so g a t p; makes = q }
      | false ↦ λ p q. cc
    ]) refl k
  ]) refl h

  so_made : (a : ℕ) (m : MakerDecl) (to : ℕ) → Made a m to → made_of g a m ≡ Some to
  so_made a m to d = ap (option_and_then (λ t. cond (is_a g a t) (type_named g m.to) None)) d.takes ∙ cond-true (is_a g a d.taken) (type_named g m.to) None (so_is_a g a d.taken d.fits) ∙ d.makes

  abbrev edge : ℕ → ℕ × MakerDecl → Option (ℕ × ℕ)
  edge a e = option_map (λ to. (e.0, to)) (made_of g a e.1)

  labelled_so : (j : ℕ) (o : Option ℕ) (k to : ℕ) → option_map {U = ℕ × ℕ} (λ t. (j, t)) o ≡ Some (k, to) → (j ≡ k) × (o ≡ Some to)
  labelled_so j None k to h = cc
  labelled_so j (Some t) k to h = let p : ◌≡◌ {A = ℕ × ℕ} (j, t) (k, to) = same_some h in (ap (λ (z : ℕ × ℕ). z.0) p, ap (λ (z : ℕ × ℕ). Some z.1) p)

  edge_so : (a : ℕ) (e : ℕ × MakerDecl) (k to : ℕ) → edge a e ≡ Some (k, to) → (e.0 ≡ k) × (made_of g a e.1 ≡ Some to)
  edge_so a e k to h = labelled_so e.0 (made_of g a e.1) k to h

  pub edge_makes : (a k to : ℕ) → IsIn (k, to) (maker_edges g a) → Makes g a k to
  edge_makes a k to h =
      let r = from_chosen (edge a) (k, to) (numbered 0 (makers g)) h in
      let e = edge_so a r.0 k to r.2 in
      let n = in_numbered 0 (makers g) r.0.0 r.0.1 r.1 in
      let d = made_so a r.0.1 to e.1 in
      let same : n.0 ≡ k = sym (n.1 ∙ plus_zero n.0) ∙ e.0 in
      record { maker = r.0.1; taken = d.taken; numbered = ap (slice_get (makers g)) (sym same) ∙ n.2; takes = d.takes; fits = d.fits; makes = d.makes }
    where
      plus_zero : (n : ℕ) → n + 0 ≡ n
      plus_zero n = omega arith

  pub makes_edge : (a k to : ℕ) → Makes g a k to → IsIn (k, to) (maker_edges g a)
  makes_edge a k to m =
      in_chosen (edge a) (k, m.maker) (k, to) (numbered 0 (makers g)) (subst (λ z. IsIn (z, m.maker) (numbered 0 (makers g))) (plus_zero k) (numbered_in 0 (makers g) k m.maker m.numbered))
      (ap (option_map (λ t. (k, t))) (so_made a m.maker to (record { taken = m.taken; takes = m.takes; fits = m.fits; makes = m.makes })))
    where
      plus_zero : (n : ℕ) → n + 0 ≡ n
      plus_zero n = omega arith

  taken_numbered : (a c : ℕ) → IsA g a c → c < length (types g) → IsIn a (numbers g)
  taken_numbered a c (itself b) h = in_below (length (types g)) b h
  taken_numbered a c (by_super b d e s r) h = super_numbered g b d s

  edge_numbered : (a : ℕ) (e : ℕ × ℕ) → IsIn e (maker_edges g a) → IsIn a (numbers g)
  edge_numbered a e h = let m = edge_makes a e.0 e.1 h in taken_numbered a m.taken m.fits (named_below m.maker.from m.taken m.takes)

  -- ---- paths as routes

  path_route : (q : List ℕ) (a b : ℕ) → Path g a b q → Route (maker_edges g) (λ c. is_a g c b) a q
  path_route [] a b p = so_is_a g a b p
  path_route (k ∷ q) a b p = (p.0, makes_edge a k p.0 p.1, path_route q p.0 b p.2)

  route_path : (q : List ℕ) (a b : ℕ) → Route (maker_edges g) (λ c. is_a g c b) a q → Path g a b q
  route_path [] a b r = is_a_so g a b r
  route_path (k ∷ q) a b r = (r.0, edge_makes a k r.0 r.1, route_path q r.0 b r.2)

  as_chosen : (a b : ℕ) (o : Option (List ℕ)) → IsLeast (Route (maker_edges g) (λ c. is_a g c b) a) o → MatchOption o (HasNoPath g a b) (Chosen g a b)
  as_chosen a b None l = λ q p. l q (path_route q a b p)
  as_chosen a b (Some p) l = record { path = route_path p a b l.0; least = λ q k. l.1 q (path_route q a b k) }

  -- The computed path is the chosen one, and there is none exactly where there is no path.
  pub path_chosen : (a b : ℕ) → MatchOption (chosen_path g a b) (HasNoPath g a b) (Chosen g a b)
  unfolding chosen_path
  path_chosen a b = as_chosen a b _ (subst (λ n. IsLeast (Route (maker_edges g) (λ c. is_a g c b) a) (least_route (maker_edges g) (λ c. is_a g c b) n a)) (length-below (length (types g))) (least_of_all (maker_edges g) (λ c. is_a g c b) (numbers g) edge_numbered a))

  -- There is one chosen path.
  pub one_chosen : (a b : ℕ) (p q : List ℕ) → Chosen g a b p → Chosen g a b q → p ≡ q
  one_chosen a b p q x y = elim (x.least q y.path) [
    | inl e ↦ sym e
    | inr h ↦ elim (y.least p x.path) [ inl e ↦ e | inr k ↦ absurd (not_before_itself p (before_chain p q p h k)) ]
  ]
