-- The laws of least lengths. Assumes nothing.
use Rattle.std.proofs.Common.{ℕ, ◌+◌, ◌≤◌, List, get_or, Some, None, Option, subst, inl, inr, arith}
use Rattle.walks.specs.declared.edge.Edge.{Edge}
use Rattle.walks.specs.Walks.{no_edge, Joins, Step, Walk, stay, go, Least}
use Rattle.walks.specs.Laws.{WalkLaws}
use Rattle.walks.proofs.Leasts.{least_same, least_one}
use Rattle.walks.proofs.Relaxing.{joined}
use Rattle.walks.proofs.Existence.{least_there}
use Rattle.walks.proofs.Simple.{shortened}

-- An edge that can be run one way can be run the other way.
joins_back : (e : Edge) (x y : ℕ) → Joins e x y → Joins e y x
joins_back e x y (inl h) = inr h
joins_back e x y (inr h) = inl h

step_back : {es : List Edge} {x y m : ℕ} → Step es x y m → Step es y x m
step_back {es = es} {x = x} {y = y} s = record {
  from = s.to;
  to = s.from;
  place = s.place;
  listed = s.listed;
  joins = joins_back (get_or es s.place no_edge) x y s.joins;
  long = s.long;
}

walk_back : {es : List Edge} {x y n : ℕ} → Walk es x y n → Walk es y x n
walk_back (stay h) = stay h
walk_back {es = es} {y = z} (go {x = x} {m = m} {n = n} s w) =
    subst (Walk es z x) (omega arith) (joined (walk_back w) (go (step_back s) (stay s.from)))

detour_from : (es : List Edge) (x z n : ℕ) → Walk es x z n → (o : Option ℕ) → Least es x z o → (c : ℕ) × Least es x z (Some c) × (c ≤ n)
detour_from es x z n w None l = absurd (l n w)
detour_from es x z n w (Some c) l = (c, l, l.1 n w)

pub laws_hold : (es : List Edge) → WalkLaws es
laws_hold es = record {
  home = λ x h. (stay h, λ n w. omega arith);
  both_ways = λ x y d l. least_same (Walk es x y) (Walk es y x) d (λ n. walk_back) (λ n. walk_back) l;
  detour = λ x y z a b l k. let there = least_there es x z in detour_from es x z (a + b) (joined l.0 k.0) there.0 there.1;
  one = λ x y c d l k. least_one (Walk es x y) c d l k;
  far = λ most x y m each l. let s = shortened es most each l.0 in let low = l.1 s.0 s.1 in omega (arith, s.3);
}
