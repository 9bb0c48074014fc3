-- A loop that prints one numbered duty after the other: how many are still to come, and their text. Assumes nothing.
use Rattle.std.proofs.Common.{◌≡◌, ℕ, ◌+◌, ◌-◌, ◌^◌, ◌<◌, ◌⊎◌, List, [], ◌∷◌, ◌++◌, map, length, sym, ap, ◌∙◌, ⊎_elim, arith}
use Rattle.trips.specs.declared.trip.Trip.{Trip}
use Rattle.duties.specs.Tables.{firsts, duty_of}
use Rattle.duties.proofs.InOrder.{firsts_few}
use Rattle.plan_report.specs.Lines.{duty_text, duties_text}

module _ (t left : List ℕ) (at : ℕ) where
  -- the first of the duties to come is taken, with the next number
  module _ (number next first : ℕ) (later : List ℕ) (is : number ≡ at) (on : next ≡ number + 1) (taken : left ≡ first ∷ later) where
    pub number_more : at + length left ≡ 1 + length (firsts t) → next + length later ≡ 1 + length (firsts t)
    number_more so = let e : length left ≡ length (first ∷ later) = ap length taken in omega arith

    pub duties_more : (ts : List Trip) → duties_text ts at (map (duty_of t) left) ≡ duty_text ts number (duty_of t first) ++ duties_text ts next (map (duty_of t) later)
    duties_more ts =
        ap (λ ks. duties_text ts at (map (duty_of t) ks)) taken
        ∙ ap (λ n. duty_text ts n (duty_of t first) ++ duties_text ts (n + 1) (map (duty_of t) later)) (sym is)
        ∙ ap (λ n. duty_text ts number (duty_of t first) ++ duties_text ts n (map (duty_of t) later)) (sym on)

  -- the numbers do not run out before the duties
  pub all_taken : (Numbers Duties : Type 0) → at + length left ≡ 1 + length (firsts t) → length t + 2 < 2 ^ 64 → (Numbers → 2 ^ 64 - 1 - at ≡ 0) → (Duties → left ≡ []) → Numbers ⊎ Duties → left ≡ []
  all_taken Numbers Duties so few numbers duties over = ⊎_elim (λ n. let out = numbers n in absurd (omega (arith, firsts_few t))) duties over
