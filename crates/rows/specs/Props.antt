-- Each of these statements about two rows has one proof at most, so that a row may hold it as a ghost field. Assumes nothing.
use Rattle.std.proofs.Common.{◌≡◌, Bool, List, ℤ, Option, Decides, Ordering, Less, Equal, Greater}
use Rattle.std.proofs.Props.{props}
use Rattle.rows.specs.Places.{Standing}

pub standing_prop : (xs ys : List ℤ) (o : Ordering) → IsProp (Standing xs ys o)
standing_prop xs ys Less = hlevel props
standing_prop xs ys Equal = hlevel props
standing_prop xs ys Greater = hlevel props

pub decides_prop : (xs ys : List ℤ) (same : Bool) → IsProp (Decides same (xs ≡ ys))
decides_prop xs ys same = hlevel props

pub answer_prop : (o p : Option Ordering) → IsProp (o ≡ p)
answer_prop o p = hlevel props
