-- What tests of an entry tell. Assumes nothing.
use Rattle.std.proofs.Common.{◌≡◌, ℕ, Bool, true, false, List, ◌≢◌, Some, None, Option, is_some, MatchBool, sym, ap, ◌∙◌, inr, ⊎_elim}
use Rattle.matchings.specs.Tables.{at, Reached}
use Rattle.planner.specs.Entries.{IsEntry}

module _ (x : ℕ) where
  -- an entry that names a trip
  pub some_entry : (o : Option ℕ) (r : Bool) → IsEntry x o → r ≡ is_some o → r ≡ true → x ≢ 65535
  some_entry None r e is yea = let z : ◌≡◌ {A = Bool} true false = sym yea ∙ is in absurd (let y : ⊥ = cc in y)
  some_entry (Some k) r e is yea = e.0

  -- one that names none
  pub no_entry : (o : Option ℕ) (r : Bool) → IsEntry x o → r ≡ is_some o → r ≡ false → x ≡ 65535
  no_entry None r e is nay = e
  no_entry (Some k) r e is nay = let z : ◌≡◌ {A = Bool} false true = sym nay ∙ is in absurd (let y : ⊥ = cc in y)

module _ (prior reached : List ℕ) (j i : ℕ) (e : IsEntry (at prior j) (Some i)) where
  -- a head with a tail is reached if its tail is
  pub reached_by : (r : Bool) → MatchBool r (at reached i ≢ 65535) (at reached i ≡ 65535) → MatchBool r (Reached prior reached j) (Reached prior reached j → ⊥)
  reached_by true h = inr (λ z. h (ap (at reached) e.1 ∙ z))
  reached_by false h = ⊎_elim e.0 (λ n. n (ap (at reached) (sym e.1) ∙ h))
