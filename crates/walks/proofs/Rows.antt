-- Ways by one berth, tried row by row. Assumes nothing.
use Rattle.std.proofs.Common.{◌≡◌, ℕ, ◌+◌, ◌*◌, ◌^◌, ◌<◌, ◌≤◌, List, length, Some, Option, sym, ◌∙◌, arith, pow-add}
use Rattle.walks.specs.Walks.{IsBerth}
use Rattle.walks.specs.Tables.{Table, entry, at, via, Tried, Within}
use Rattle.walks.proofs.Ways.{via_within}

-- The row t is s with ways tried to each berth below j: the way to the third berth has the length first, and onward is its row.
pub record RowBelow (first : ℕ) (onward s : List (Option ℕ)) (j : ℕ) (t : List (Option ℕ)) : Type 0 where
  pub long : length t ≡ length s
  pub tried : (y : ℕ) → y < j → entry t y ≡ via (Some first) (entry onward y) (entry s y)
  pub ahead : (y : ℕ) → j ≤ y → entry t y ≡ entry s y

-- A round at most doubles the lengths, and 32 rounds keep them small.
pub round_within : (k : ℕ) (s t : Table) → IsBerth k → Tried k 32 s t → Within (65535 * 2 ^ k) s → Within (65535 * 2 ^ (k + 1)) t
round_within k s t hk u w x y n hx hy e =
    let most = 65535 * 2 ^ k in
    let b = via_within most (at s x k) (at s k y) (at s x y) n (λ m. w x k m hx hk) (λ m. w k y m hk hy) (λ m. w x y m hx hy) (sym (u.rows x y hx hy) ∙ e) in
    omega (arith, pow-add 2 k 1)
