-- The visit of a node, from need to need.
use Rattle.std.proofs.Common.{◌≡◌, ◌+◌, ◌≤◌, ◌<◌, true, false, List, [], ◌∷◌, ◌++◌, inl, inr, sym, ap, ◌∙◌, subst, length, take, arith, length-append}
use Rattle.std.proofs.Math.Seq.{take-append_seam}
use Rattle.std.proofs.lemmas.Bool.{or_cases, or_left, or_right}
use Rattle.std.specs.Prelude.{◌≢◌, Option, Some, None, IsSome, is_some}
use Rattle.object_values.specs.declared.nodes.Node.{Node}
use Rattle.object_values.specs.contracts.nodes.NodePartialEq.TheImpl.{ghosts as node_eq}
use Rattle.object_values.specs.Exact.{node_exact}
use Rattle.meaning_texts.specs.Limits.{height_limit}
use Rattle.meaning_texts.specs.Lists.{IsIn}
use Rattle.meaning_texts.proofs.Lemmas.{in_left, value_of_some}
use Rattle.meaning_tasks.specs.Nodes.{Fits}
use Rattle.meaning_derive.specs.Chains.{Chain, AreDifferent}
use Rattle.meaning_derive.proofs.Lemmas.{chain_on}
use Rattle.meaning_true.specs.Knowing.{IsChecked, MayLook, a_need}
use Rattle.derive_walk.specs.declared.found.Found.{Found}
use Rattle.derive_walk.specs.declared.found.Found.TheVariants.{Answer, Circular, Deep}
use Rattle.derive_walk.specs.Chains.{IsChainTo}
use Rattle.derive_walk.specs.Places.{place_in}
use Rattle.derive_walk.specs.Tables.{node_in}
use Rattle.derive_walk.specs.declared.walk.Walk.{Walk}
use Rattle.derive_walk.specs.Worlds.{World, seen_in, IsNeedIn}
use Rattle.derive_walk.specs.Founds.{IsFound, AllFit, NodesFit, IsChain, IsFitChain}
use Rattle.derive_walk.specs.States.{heights_in, IsFormedIn, HoldsIn, GoesOnFrom, OnlyLooks, Visited, AfterVisit}
use Rattle.derive_walk.specs.Paths.{IsChainFromRoot, MayBeOnPath, IsPath, IsNext, IsLast, IsLed, LeadsTo}
use Rattle.derive_walk.proofs.Tables.{different_push, in_push, at_end}
use Rattle.derive_walk.proofs.FormedLemmas.{formed_at}
use Rattle.derive_walk.proofs.GoingLemmas.{goes_looking}

-- ---- lists of nodes

pub node_is_in : (n : Node) (nodes : List Node) → node_in n nodes ≡ true → IsIn n nodes
node_is_in n [] h = cc
node_is_in n (m ∷ nodes) h = elim (or_cases (node_eq.eq m n) (node_in n nodes) h) [ inl k ↦ inl (sym ((node_exact m n).0 k)) | inr k ↦ inr (node_is_in n nodes k) ]

pub is_node_in : (n : Node) (nodes : List Node) → IsIn n nodes → node_in n nodes ≡ true
is_node_in n [] i = absurd i
is_node_in n (m ∷ nodes) (inl e) = or_left (node_eq.eq m n) (node_in n nodes) ((node_exact m n).1 (sym e))
is_node_in n (m ∷ nodes) (inr i) = or_right (node_eq.eq m n) (node_in n nodes) (is_node_in n nodes i)

pub not_in : (n : Node) (nodes : List Node) → node_in n nodes ≡ false → IsIn n nodes → ⊥
not_in n nodes e i = let z : node_in n nodes ≡ true = is_node_in n nodes i in cc

-- ---- one walk after another

pub goes_far : (a b c : Walk) → GoesOnFrom a b → GoesOnFrom b c → GoesOnFrom a c
goes_far a b c p q = record {
  root = q.root ∙ p.root;
  wanted = λ call i. q.wanted call (p.wanted call i);
  keeps = λ m k e. q.keeps m k (p.keeps m k e);
  looked = λ m place e. q.looked m place (p.looked m place e);
  results = λ m view e. q.results m view (p.results m view e);
}

-- the path is no part of what holds
pub holds_at : (w : World) (walk : Walk) (path : List Node) → HoldsIn w walk → HoldsIn w (record walk { path = path })
holds_at w walk path h = record {
  knows = h.knows;
  rightly = h.rightly;
  done = h.done;
  met = h.met;
  may = h.may;
  waiting = h.waiting;
  one = h.one;
  only = h.only;
  once = h.once;
}

pub goes_at : (old walk : Walk) (path : List Node) → GoesOnFrom old walk → GoesOnFrom old (record walk { path = path })
goes_at old walk path g = record { root = g.root; wanted = g.wanted; keeps = g.keeps; looked = g.looked; results = g.results }

-- ---- the walk so far in the visit of a node

-- A need of the node, whose record isn't checked.
pub record IsNextNeed (w : World) (n m : Node) : Type 0 where
  pub need : IsNeedIn w n m
  pub unchecked : ¬ IsChecked w.records n

-- It is right if it was so.
pub record SoFar (w : World) (old walk : Walk) (n : Node) : Type 0 where
  pub on : GoesOnFrom old walk
  pub ends : walk.path ≡ old.path ++ n ∷ []
  pub formed : IsFormedIn w walk
  pub path : IsPath w walk walk.path
  pub looked : n.steps ≢ [] → IsSome (place_in walk.looked n)
  pub right : LeadsTo w old n → IsLed w walk

module _ (w : World) (old : Walk) (n : Node) where
  -- once it was looked at
  pub start : (mid : Walk) → OnlyLooks old mid → IsFormedIn w mid → (MayLook w.graph w.sources w.outcomes w.records old.root n → HoldsIn w old → HoldsIn w mid)
      → (n.steps ≢ [] → IsSome (place_in mid.looked n)) → IsNext w old n → (path : List Node) → path ≡ mid.path ++ n ∷ [] → SoFar w old (record mid { path = path }) n
  start mid only formed holds there next path longer =
      let root : mid.root ≡ old.root = ap (λ (z : Walk). z.root) only.is in
      let is : path ≡ old.path ++ n ∷ [] = longer ∙ ap (λ (z : Walk). z.path ++ n ∷ []) only.is in
      record {
        on = goes_at old mid path (goes_looking old mid only);
        ends = is;
        formed = formed_at w mid path formed;
        path = record {
          fit = λ m i. next.path.fit m (subst (λ l. IsIn m l) is i);
          apart = λ m i. ap (λ (z : Walk). heights_in z m) only.is ∙ next.path.apart m (subst (λ l. IsIn m l) is i);
          different = subst (λ l. AreDifferent l) (sym is) next.path.different;
          few = subst (λ l. length l ≤ height_limit) (sym is) next.path.few;
        };
        looked = there;
        right = λ to. record {
          holds = holds_at w mid path (holds (to.may n (at_end n old.path)) to.holds);
          leads = subst (λ z. Chain w.graph (seen_in w) z path) (sym root) (subst (λ l. Chain w.graph (seen_in w) old.root l) (sym is) to.leads);
          may = λ m i. subst (λ z. MayLook w.graph w.sources w.outcomes w.records z m) (sym root) (to.may m (subst (λ l. IsIn m l) is i));
        };
      }

  -- the path is shorter than the limit before the node is put there
  pub room : IsNext w old n → length old.path < height_limit
  room next = omega (arith, next.path.few, length-append old.path (n ∷ []))

  pub last : (walk : Walk) → SoFar w old walk n → IsLast w walk n
  last walk so = record { formed = so.formed; front = old.path; is = so.ends; path = so.path; looked = so.looked }

  pub fits : (walk : Walk) → SoFar w old walk n → Fits w.graph n
  fits walk so = so.path.fit n (subst (λ l. IsIn n l) (sym so.ends) (at_end n old.path))

  pub longer : (walk : Walk) → SoFar w old walk n → length walk.path ≡ length old.path + 1
  longer walk so = omega (arith, ap length so.ends, length-append old.path (n ∷ []))

  -- ---- the end of the visit

  pub finish : (walk new : Walk) → SoFar w old walk n → GoesOnFrom walk new → (found : Option Found) → AfterVisit w (IsLed w walk) walk new n found
      → (path : List Node) → path ≡ take (length old.path) new.path → AfterVisit w (LeadsTo w old n) old (record new { path = path }) n found
  finish walk new so on (Some found) after path cut =
      (after.0, λ to. subst (λ z. IsFound w.graph w.sources w.outcomes z found) so.on.root (after.1 (so.right to)))
  finish walk new so on None after path cut = record {
    path = cut ∙ ap (take (length old.path)) (after.path ∙ so.ends) ∙ take-append_seam old.path (n ∷ []);
    there = after.there;
    apart = λ m i differs. after.apart m (subst (λ l. IsIn m l) (sym so.ends) (in_left m old.path (n ∷ []) i)) differs;
  }

  -- ---- a need that was not visited

  module _ (walk : Walk) (so : SoFar w old walk n) (k : Node) where
    chain_further : LeadsTo w old n → IsNextNeed w n k → IsChainFromRoot w walk (walk.path ++ k ∷ [])
    chain_further to next = subst (λ l. Chain w.graph (seen_in w) walk.root (l ++ k ∷ [])) (sym so.ends)
        (chain_on w.graph (seen_in w) old.path walk.root n k (subst (λ l. Chain w.graph (seen_in w) walk.root l) so.ends (so.right to).leads) next.need)

    may_further : LeadsTo w old n → IsNextNeed w n k → MayBeOnPath w walk (walk.path ++ k ∷ [])
    may_further to next m i = elim (in_push m k walk.path i) [
      | inl j ↦ (so.right to).may m j
      | inr e ↦ subst (λ z. MayLook w.graph w.sources w.outcomes w.records walk.root z) (sym e)
          (a_need n k ((so.right to).may n (subst (λ l. IsIn n l) (sym so.ends) (at_end n old.path))) next.unchecked next.need)
    ]

    pub leads_further : LeadsTo w old n → IsNextNeed w n k → LeadsTo w walk k
    leads_further to next = record { holds = (so.right to).holds; leads = chain_further to next; may = may_further to next }

    push_fits : Fits w.graph k → AllFit w.graph (walk.path ++ k ∷ [])
    push_fits fits m i = elim (in_push m k walk.path i) [ inl j ↦ so.path.fit m j | inr e ↦ subst (λ z. Fits w.graph z) (sym e) fits ]

    -- a chain that ends there
    chain_fits : Fits w.graph k → (found : Found) → IsChainTo walk.path k (Some found) → NodesFit w.graph found
    chain_fits fits (Answer view) c = absurd c
    chain_fits fits (Circular chain) c = subst (λ l. AllFit w.graph l) (sym c.1) (push_fits fits)
    chain_fits fits (Deep chain) c = subst (λ l. AllFit w.graph l) (sym c.2) (push_fits fits)

    chain_found : LeadsTo w old n → IsNextNeed w n k → (found : Found) → IsChainTo walk.path k (Some found) → IsFound w.graph w.sources w.outcomes old.root found
    chain_found to need (Answer view) c = absurd c
    chain_found to need (Circular chain) c = record {
      front = walk.path;
      last = k;
      is = c.1;
      leads = subst (λ z. Chain w.graph (seen_in w) z chain) so.on.root (subst (λ l. Chain w.graph (seen_in w) walk.root l) (sym c.1) (chain_further to need));
      different = so.path.different;
      repeated = node_is_in k walk.path c.0;
    }
    chain_found to need (Deep chain) c = record {
      leads = subst (λ z. Chain w.graph (seen_in w) z chain) so.on.root (subst (λ l. Chain w.graph (seen_in w) walk.root l) (sym c.2) (chain_further to need));
      long = omega (arith, ap length c.2, length-append walk.path (k ∷ []), c.1, so.path.few);
      different = subst (λ l. AreDifferent l) (sym c.2) (different_push walk.path k so.path.different (not_in k walk.path c.0));
    }

    is_chain : (found : Found) → IsChainTo walk.path k (Some found) → IsChain found
    is_chain (Answer view) c = absurd c
    is_chain (Circular chain) c = tt
    is_chain (Deep chain) c = tt

    pub chained : Fits w.graph k → (LeadsTo w old n → IsNextNeed w n k) → (found : Found) → IsChainTo walk.path k (Some found)
        → IsFitChain w.graph found × (LeadsTo w old n → IsFound w.graph w.sources w.outcomes old.root found)
    chained fits need found c = ((chain_fits fits found c, is_chain found c), λ to. chain_found to (need to) found c)

    -- a chain that was found from there
    pub found_further : (LeadsTo w old n → IsNextNeed w n k) → (found : Found)
        → IsFitChain w.graph found × (LeadsTo w walk k → IsFound w.graph w.sources w.outcomes walk.root found)
        → IsFitChain w.graph found × (LeadsTo w old n → IsFound w.graph w.sources w.outcomes old.root found)
    found_further need found after =
        (after.0, λ to. subst (λ z. IsFound w.graph w.sources w.outcomes z found) so.on.root (after.1 (leads_further to (need to))))

    pub next_need : Fits w.graph k → heights_in walk k ≡ None → IsChainTo walk.path k None → IsNext w walk k
    next_need fits unseen c = record {
      formed = so.formed;
      path = record {
        fit = push_fits fits;
        apart = λ m i. elim (in_push m k walk.path i) [ inl j ↦ so.path.apart m j | inr e ↦ ap (heights_in walk) e ∙ unseen ];
        different = different_push walk.path k so.path.different (not_in k walk.path c.0);
        few = omega (arith, length-append walk.path (k ∷ []), c.1);
      };
    }

    pub go_on : (LeadsTo w old n → IsNextNeed w n k) → (new : Walk) → GoesOnFrom walk new → IsFormedIn w new → (LeadsTo w walk k → HoldsIn w new)
        → Visited w walk new k → node_in k walk.path ≡ false → SoFar w old new n
    go_on need new on formed holds after off = record {
      on = goes_far old walk new so.on on;
      ends = after.path ∙ so.ends;
      formed = formed;
      path = record {
        fit = λ m i. so.path.fit m (subst (λ l. IsIn m l) after.path i);
        apart = λ m i. let j : IsIn m walk.path = subst (λ l. IsIn m l) after.path i in after.apart m j (λ e. not_in k walk.path off (subst (λ z. IsIn z walk.path) e j));
        different = subst (λ l. AreDifferent l) (sym after.path) so.path.different;
        few = subst (λ l. length l ≤ height_limit) (sym after.path) so.path.few;
      };
      looked = λ stepped. let x = value_of_some (place_in walk.looked n) (so.looked stepped) in ap is_some (on.looked n x.0 x.1);
      right = λ to. record {
        holds = holds (leads_further to (need to));
        leads = subst (λ z. Chain w.graph (seen_in w) z new.path) (sym on.root)
            (subst (λ l. Chain w.graph (seen_in w) walk.root l) (sym after.path) (so.right to).leads);
        may = λ m i. subst (λ z. MayLook w.graph w.sources w.outcomes w.records z m) (sym on.root) ((so.right to).may m (subst (λ l. IsIn m l) after.path i));
      };
    }
