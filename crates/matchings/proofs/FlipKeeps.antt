-- A flip along tight links keeps the prices as they are, and tight. Assumes nothing.
use Rattle.std.proofs.Common.{ℕ, List, ℤ, ◌∙◌, inl, inr}
use Rattle.rows.specs.Places.{weight}
use Rattle.duties.specs.Duties.{Net}
use Rattle.matchings.specs.Rowed.{weights, weighed}
use Rattle.matchings.specs.Sound.{Tight, Tree}
use Rattle.matchings.specs.Flips.{Flipped}
use Rattle.matchings.specs.Growths.{Stands, Ready}

module _ (net : Net ℤ) (n : ℕ) (next prior reached via : List ℕ) (a b : List ℤ) (h : ℤ) (t : ℕ) (tree : Tree net n prior reached via a b t) (next' prior' : List ℕ) (f : Flipped n reached via next prior next' prior') where
  pub flip_tight : Tight net n next prior a b h → Tight net n next' prior' a b h
  flip_tight old =
      record {
        pair = λ i l s.
            elim (f.changed.pair i l s) [
              | inl e ↦ rw e (old.pair i l (λ z. s (e ∙ z)))
              | inr x ↦ let e = x.1 in rw e (tree.source i l x.0).1
            ];
        tail = λ i l s. old.tail i l (f.tail i l s);
        head = λ j l s. old.head j l (f.changed.head j l s);
      }

module _ {V : Type 0} (row : V → List ℤ) (net : Net (List ℤ)) where
  -- the prices bear the new links out
  pub flipped : (n : ℕ) (next prior reached via : List ℕ) (a b : List V) (h : V) (i : ℕ) → Ready (weighed net) n next prior reached via (weights row a) (weights row b) i → (next' prior' : List ℕ) → Flipped n reached via next prior next' prior' → Stands row net n next prior a b h → Stands row net n next' prior' a b h
  flipped n next prior reached via a b h i ready next' prior' f s =
      record {
        a_long = s.a_long;
        b_long = s.b_long;
        sound = record {
          matching = f.matching;
          feasible = s.sound.feasible;
          tight = flip_tight (weighed net) n next prior reached via (weights row a) (weights row b) (weight (row h)) 65535 ready.tree next' prior' f s.sound.tight;
        };
      }
