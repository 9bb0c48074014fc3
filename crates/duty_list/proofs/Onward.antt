-- Where a duty goes on, and where it is over. Assumes nothing.
use Rattle.std.proofs.Common.{◌≡◌, ℕ, ◌<◌, Bool, true, false, ltb, List, [], ◌∷◌, length, get_or, Some, None, Option, MatchOption, sym, refl, ap, ◌∙◌, ⊎_elim, arith}
use Rattle.std.specs.Bool.{then_some}
use Rattle.std.proofs.lemmas.Bool.{cases_lt, lt-ltb, le-ltb, ltb-false}
use Rattle.duties.specs.Tables.{duty_of}
use Rattle.duties.proofs.Following.{goes_on, goes_home, past_end}
use Rattle.duty_list.specs.Along.{trips_from}

module _ (t : List ℕ) where
  -- a duty goes on after a position as the entry there says
  pub onward_from : (at entry : ℕ) → at < length t → entry ≡ get_or t at 0 → duty_of t at ≡ at ∷ trips_from t (then_some (ltb at entry) entry)
  onward_from at entry h is =
      ⊎_elim
      (λ on. goes_on t at 0 h (omega arith) ∙ ap (λ v. at ∷ duty_of t v) (sym is) ∙ ap (λ b. at ∷ trips_from t (then_some b entry)) (sym (lt-ltb at entry on)))
      (λ home. goes_home t at 0 h (omega arith) ∙ ap (λ b. at ∷ trips_from t (then_some b entry)) (sym (le-ltb at entry home)))
      (cases_lt at entry)

  -- where no trip has the position, the duty is over
  over_at : (at : ℕ) (b : Bool) → b ≡ ltb at (length t) → then_some b at ≡ None → duty_of t at ≡ []
  over_at at true e none = let z : ◌≡◌ {A = ℕ} 0 1 = cc in absurd (omega arith)
  over_at at false e none = past_end t at (ltb-false at (length t) (sym e))

  pub over : (at : Option ℕ) (P : ℕ → Bool → Type 0) (found : Option ℕ) → ((x : ℕ) (b : Bool) → P x b → b ≡ ltb x (length t)) → MatchOption at (found ≡ None) (λ x. (b : Bool) × P x b × (found ≡ then_some b x)) → found ≡ None → trips_from t at ≡ []
  over None P found says is none = refl
  over (Some at) P found says is none = over_at at is.0 (says at is.0 is.1) (sym is.2 ∙ none)
