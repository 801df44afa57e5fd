-- Rows that are closed, round by round.
use Rattle.std.proofs.Common.{◌≡◌, ℕ, ◌+◌, ◌<◌, ◌≤◌, ◌||◌, Bool, List, [], ◌∷◌, get_or, inl, inr, refl, ap, ◌∙◌, subst, length, arith, nat_eq}
use Rattle.std.specs.List.{list_any}
use Rattle.std.proofs.lemmas.Bool.{eqb-true, eq-eqb}
use Rattle.meaning_texts.specs.Lists.{IsIn}
use Rattle.meaning_graph.specs.Graphs.{Graph, as_type}
use Rattle.meaning_graph.specs.Types.{is_a}
use Rattle.meaning_graph.proofs.Lemmas.{is_a_so, so_is_a}
use Rattle.type_graph.specs.declared.rows.Rows.{Rows}
use Rattle.type_graph.specs.Rows.{bit, Has, AreFor, IsOwn, RowsAreLed, RowsGrow, HasAllAbove, AreSupersOfGraph, IsCloser, RowsAreClosed, IsTransitive}
use Rattle.type_graph.specs.Tables.{AreRows}
use Rattle.type_graph.specs.Walks.{Leads, here, over, AreAllBelow}
use Rattle.type_graph.proofs.BitLemmas.{fits_on}
use Rattle.type_graph.proofs.ContextLemmas.{each_type, leads_up, up_leads, alike}
use Rattle.type_graph.proofs.TableLemmas.{few_found}

-- After the first round, rows have the supertypes that their types name.
pub record IsCloserBy (supers : List (List ℕ)) (width rounds : ℕ) (words : List ℕ) : Type 0 where
  pub fits : AreFor (length supers) width words
  pub itself : (a : ℕ) → a < length supers → Has width words a a
  pub led : RowsAreLed supers width words
  pub named : 0 < rounds → (a s : ℕ) → a < length supers → IsIn s (get_or supers a []) → Has width words a s

module _ (supers : List (List ℕ)) (width : ℕ) where
  pub first_rows : (words : List ℕ) → IsOwn (length supers) width words → IsCloserBy supers width 0 words
  first_rows words own = record {
    fits = own.fits;
    itself = own.itself;
    led = λ a b h k x. subst (Leads supers a) (own.only a b h k x) (here a);
    named = λ h. absurd (omega (arith, h));
  }

  module _ (n : ℕ) (old new : List ℕ) (below : AreAllBelow supers) (so_far : IsCloserBy supers width n old) (grows : RowsGrow supers width old new) (above : HasAllAbove supers width old new) where
    pub next_round : IsCloserBy supers width (n + 1) new
    next_round = record {
      fits = fits_on (length supers) width old new so_far.fits grows.sized;
      itself = λ a h. grows.kept a a h h (so_far.itself a h);
      led = grows.led so_far.led;
      named = λ more a s h i. above a h s s i (below a s i) (so_far.itself s (below a s i));
    }

    -- after a round in which nothing grew
    pub no_more : new ≡ old → IsCloser supers width new
    no_more same = record {
      fits = fits_on (length supers) width old new so_far.fits grows.sized;
      led = grows.led so_far.led;
      all = reach;
    }
      where
        reach : (a b : ℕ) → a < length supers → b < length supers → Leads supers a b → Has width new a b
        reach a b h k (here c) = grows.kept c c h h (so_far.itself c h)
        reach a b h k (over c d e i r) = above c h d e i k (subst (λ words. Has width words d e) same (reach d e (below c d i) k r))

  -- after the rounds, where what rows have passes on
  pub passed_on : (n : ℕ) (old new : List ℕ) → AreAllBelow supers → IsCloserBy supers width n old → 0 < n → RowsGrow supers width old new → IsTransitive (length supers) width new → IsCloser supers width new
  passed_on n old new below so_far some grows passes = record {
    fits = fits_on (length supers) width old new so_far.fits grows.sized;
    led = grows.led so_far.led;
    all = reach;
  }
    where
      reach : (a b : ℕ) → a < length supers → b < length supers → Leads supers a b → Has width new a b
      reach a b h k (here c) = grows.kept c c h h (so_far.itself c h)
      reach a b h k (over c d e i r) = let m = below c d i in passes c d e m h k (grows.kept c d h m (so_far.named some c d h i)) (reach d e m k r)

pub closed_answers : (supers : List (List ℕ)) (width : ℕ) (words : List ℕ) → IsCloser supers width words
    → (g : Graph) → AreSupersOfGraph g supers → (a b : ℕ) → a < length supers → b < length supers → nat_eq (bit width words a b) 1 ≡ is_a g a b
closed_answers supers width words c g are a b h k =
    alike g supers are (nat_eq (bit width words a b) 1) (is_a g a b)
    (λ e. so_is_a g a b (leads_up g supers are a b (c.led a b h k (eqb-true (bit width words a b) 1 e))))
    (λ e. eq-eqb (bit width words a b) 1 (c.all a b h k (up_leads g supers are a b (is_a_so g a b e))))

pub ordered_rows : (g : Graph) (supers : List (List ℕ)) → AreSupersOfGraph g supers → (rows : Rows) → RowsAreClosed supers rows → AreRows g rows
ordered_rows g supers are rows c =
    let long = each_type g supers are in
    record { counted = c.counted ∙ long; fits = c.fits; right = λ a b h k. c.right g are a b (omega (arith, h, long)) (omega (arith, k, long)) }

-- there are no more types than declarations and one
pub few_supers : (g : Graph) (supers : List (List ℕ)) → AreSupersOfGraph g supers → length supers ≤ length g + 1
few_supers g supers are = omega (arith, each_type g supers are, few_found as_type g)

-- a test of any element by another one that answers alike
pub any_alike : (p q : ℕ → Bool) (xs : List ℕ) → ((x : ℕ) → IsIn x xs → p x ≡ q x) → list_any p xs ≡ list_any q xs
any_alike p q [] h = refl
any_alike p q (x ∷ xs) h = ap (λ b. b || list_any p xs) (h x (inl refl)) ∙ ap (λ b. q x || b) (any_alike p q xs (λ y i. h y (inr i)))
