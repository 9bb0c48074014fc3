-- What is known where a test gave something. Assumes nothing.
use Rattle.std.specs.Prelude.{◌≡◌, ℕ, Bool, true, false, cond, Some, None, refl}
use Rattle.std.proofs.Common.{arith}

-- something came of a test that gives x or nothing: the test passed, and it was x
pub chosen : {X : Type 0} (t : Bool) (x y : X) → cond t (Some x) None ≡ Some y → (t ≡ true) × (x ≡ y)
chosen true x y e = (refl, cc)
chosen false x y e = let z : ◌≡◌ {A = ℕ} 0 1 = cc in absurd (omega arith)
