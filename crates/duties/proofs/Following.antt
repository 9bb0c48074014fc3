-- Following the entries of a table of any kind: where a duty goes on, and where it ends. Assumes nothing.
use Rattle.std.proofs.Common.{◌≡◌, ℕ, zero, suc, ◌+◌, ◌-◌, ◌<◌, ◌≤◌, false, cond, eqb, List, [], ◌∷◌, length, get_or, drop, sym, refl, ap, ◌∙◌, subst, add-zero, arith}
use Rattle.std.proofs.lemmas.List.{at_drop_more, at_drop_all, drop-drop}
use Rattle.std.proofs.lemmas.Bool.{eq-eqb, ne_eqb, cond-true, cond-false}
use Rattle.duties.specs.Tables.{duty_from, duty_of}

-- the positions before the wanted one are passed over
skip : (d : ℕ) (t : List ℕ) (p : ℕ) → duty_from p t (p + d) ≡ duty_from (p + d) (drop d t) (p + d)
skip zero t p = ap (λ n. duty_from n t (p + 0)) (sym (add-zero p))
skip (suc d) [] p = refl
skip (suc d) (s ∷ ss) p =
    let ne : eqb p (p + suc d) ≡ false = ne_eqb p (p + suc d) (λ e. omega arith) in
    let is : p + 1 + d ≡ p + suc d = omega arith in
    cond-false (eqb p (p + suc d)) _ _ ne
    ∙ subst (λ n. duty_from (p + 1) ss n ≡ duty_from n (drop d ss) n) is (skip d ss (p + 1))

-- a duty is found from its first position on
from_first : (t : List ℕ) (w : ℕ) → duty_of t w ≡ duty_from w (drop w t) w
from_first t w = let z : 0 + w ≡ w = omega arith in subst (λ n. duty_of t n ≡ duty_from n (drop w t) n) z (skip w t 0)

-- what is wanted from p on is wanted of the whole table
from_later : (t : List ℕ) (p d : ℕ) → duty_from p (drop p t) (p + d) ≡ duty_of t (p + d)
from_later t p d = skip d (drop p t) p ∙ ap (λ l. duty_from (p + d) l (p + d)) (drop-drop d p t) ∙ sym (from_first t (p + d))

-- what is wanted lies behind: nothing comes
behind : (t : List ℕ) (p w : ℕ) → w < p → duty_from p t w ≡ []
behind [] p w l = refl
behind (s ∷ ss) p w l = cond-false (eqb p w) _ _ (ne_eqb p w (λ e. omega arith)) ∙ behind ss (p + 1) w (omega arith)

-- past the end of a table there is no duty
pub past_end : (t : List ℕ) (w : ℕ) → length t ≤ w → duty_of t w ≡ []
past_end t w h = from_first t w ∙ at_drop_all (λ l. duty_from w l w) t w h

module _ (t : List ℕ) (w d : ℕ) (h : w < length t) where
  here : duty_of t w ≡ w ∷ duty_from (w + 1) (drop (w + 1) t) (get_or t w d)
  here =
      let open_up : duty_from w (drop w t) w ≡ cond (eqb w w) (w ∷ duty_from (w + 1) (drop (w + 1) t) (get_or t w d)) (duty_from (w + 1) (drop (w + 1) t) w) = at_drop_more (λ l. duty_from w l w) t w d h in
      from_first t w ∙ open_up ∙ cond-true (eqb w w) _ _ (eq-eqb w w refl)

  -- an entry that leads forward: the duty goes on there
  pub goes_on : w < get_or t w d → duty_of t w ≡ w ∷ duty_of t (get_or t w d)
  goes_on lt =
      let v = get_or t w d in
      let is : w + 1 + (v - (w + 1)) ≡ v = omega arith in
      here ∙ ap (λ l. w ∷ l) (subst (λ n. duty_from (w + 1) (drop (w + 1) t) n ≡ duty_of t n) is (from_later t (w + 1) (v - (w + 1))))

  -- an entry that does not lead forward: the duty ends
  pub goes_home : get_or t w d ≤ w → duty_of t w ≡ w ∷ []
  goes_home le = here ∙ ap (λ l. w ∷ l) (behind (drop (w + 1) t) (w + 1) (get_or t w d) (omega arith))

  -- a duty begins with its first trip
  pub duty_begins : (js : List ℕ) × (duty_of t w ≡ w ∷ js)
  duty_begins = (duty_from (w + 1) (drop (w + 1) t) (get_or t w d), here)
