-- That a call leads to the only list with its trips. Assumes nothing.
use Rattle.std.proofs.Common.{◌≡◌, ℕ, Bool, true, false, cond, not, eqb, ◌⊎◌, List, [], ◌∷◌, ◌++◌, filter, sym, refl, ap, ◌∙◌, subst, inl, inr, ⊎_elim}
use Rattle.std.specs.List.{AllByRecursion as All}
use Rattle.std.proofs.lemmas.Bool.{both_ways, eqb-false, ne_eqb, not-true, not_from_false}
use Rattle.trips.specs.declared.trip.Trip.{Trip}
use Rattle.board.specs.Order.{before, InOrder}
use Rattle.board.specs.Lists.{stands, added, without}
use Rattle.board.specs.Exact.{Among, JoinedBy, RidOf, Only}
use Rattle.board.proofs.Pairs.{Pairs, pairs_from, places_from, pairs_kept}
use Rattle.board.proofs.Adds.{Ahead, one_way, whole, added_in_order}

all_among : (P : Trip → Type 0) (xs : List Trip) (u : Trip) → All P xs → Among u xs → P u
all_among P [] u h a = absurd a
all_among P (x ∷ xs) u (h, hs) (inl e) = subst P e h
all_among P (x ∷ xs) u (h, hs) (inr a) = all_among P xs u hs a

-- no trip stands before itself
not_itself : (u : Trip) → before u u ≡ true → ⊥
not_itself u h = both_ways (before u u) (one_way u u h) h

tail : (x y : Trip) (xs ys : List Trip) → All (Ahead x) xs → x ≡ y → ((u : Trip) → Among u (x ∷ xs) → Among u (y ∷ ys)) → (u : Trip) → Among u xs → Among u ys
tail x y xs ys h e to u a = ⊎_elim (λ is. absurd (not_itself u (subst (λ v. before v u ≡ true) (e ∙ is) (all_among (Ahead x) xs u h a)))) (λ b. b) (to u (inr a))

-- two lists in board order with the same trips are one
same : (xs ys : List Trip) → Pairs Ahead xs → Pairs Ahead ys → ((u : Trip) → Among u xs → Among u ys) → ((u : Trip) → Among u ys → Among u xs) → xs ≡ ys
same [] [] p q to from = refl
same [] (y ∷ ys) p q to from = absurd (from y (inl refl))
same (x ∷ xs) [] p q to from = absurd (to x (inl refl))
same (x ∷ xs) (y ∷ ys) (h, p) (k, q) to from =
    let first : x ≡ y =
    ⊎_elim
    (λ e. sym e)
    (λ a. ⊎_elim (λ e. e) (λ b. absurd (both_ways (before y x) (one_way x y (all_among (Ahead x) xs y h b)) (all_among (Ahead y) ys x k a))) (from y (inl refl)))
    (to x (inl refl)) in
    let rest = same xs ys p q (tail x y xs ys h first to) (tail y x ys xs k (sym first) from) in
    ap (λ z. z ∷ xs) first ∙ ap (λ l. y ∷ l) rest

among_joined : (t u : Trip) (xs ys : List Trip) → Among u (xs ++ (t ∷ ys)) → (u ≡ t) ⊎ Among u (xs ++ ys)
among_joined t u [] ys (inl e) = inl (sym e)
among_joined t u [] ys (inr a) = inr a
among_joined t u (x ∷ xs) ys (inl e) = inr (inl e)
among_joined t u (x ∷ xs) ys (inr a) = ⊎_elim (λ e. inl e) (λ b. inr (inr b)) (among_joined t u xs ys a)

joined_old : (t u : Trip) (xs ys : List Trip) → Among u (xs ++ ys) → Among u (xs ++ (t ∷ ys))
joined_old t u [] ys a = inr a
joined_old t u (x ∷ xs) ys (inl e) = inl e
joined_old t u (x ∷ xs) ys (inr a) = inr (joined_old t u xs ys a)

joined_new : (t : Trip) (xs ys : List Trip) → Among t (xs ++ (t ∷ ys))
joined_new t [] ys = inl refl
joined_new t (x ∷ xs) ys = inr (joined_new t xs ys)

pub only_added : (ts : List Trip) (t : Trip) → InOrder ts → stands ts t.number ≡ false → Only (JoinedBy ts t) (added ts t)
only_added ts t ordered new =
    let front = filter (λ x. before x t) ts in
    let back = filter (λ x. before t x) ts in
    let all = whole ts t ordered new in
    let is : JoinedBy ts t (added ts t) = record {
      ordered = added_in_order ts t ordered new;
      old = λ u a. joined_old t u front back (subst (Among u) (sym all) a);
      new = joined_new t front back;
      no_other = λ u a. ⊎_elim (λ e. inl e) (λ b. inr (subst (Among u) all b)) (among_joined t u front back a);
    } in (
      is,
      λ vs other.
          same vs (added ts t) (pairs_from Ahead vs other.ordered) (pairs_from Ahead (added ts t) is.ordered)
          (λ u a. ⊎_elim (λ e. subst (λ v. Among v (added ts t)) (sym e) is.new) (λ b. is.old u b) (other.no_other u a))
          (λ u a. ⊎_elim (λ e. subst (λ v. Among v vs) (sym e) other.new) (λ b. other.old u b) (is.no_other u a)),
    )

kept_step : (b : Bool) (x u : Trip) (l : List Trip) (P : Type 0) → Among u (cond b (x ∷ l) l) → (b ≡ true → x ≡ u → P) → (Among u l → P) → P
kept_step true x u l P a f g = ⊎_elim (f refl) g a
kept_step false x u l P a f g = g a

kept_old : (b : Bool) (x u : Trip) (l : List Trip) → Among u l → Among u (cond b (x ∷ l) l)
kept_old true x u l a = inr a
kept_old false x u l a = a

kept_here : (b : Bool) (x u : Trip) (l : List Trip) → b ≡ true → x ≡ u → Among u (cond b (x ∷ l) l)
kept_here true x u l t e = inl e
kept_here false x u l t e = absurd (both_ways false refl t)

among_kept : (p : Trip → Bool) (xs : List Trip) (u : Trip) → Among u (filter p xs) → Among u xs × (p u ≡ true)
among_kept p [] u a = absurd a
among_kept p (x ∷ xs) u a =
    kept_step (p x) x u (filter p xs) (Among u (x ∷ xs) × (p u ≡ true)) a
    (λ t e. (inl e, subst (λ v. p v ≡ true) e t))
    (λ b. let rest = among_kept p xs u b in (inr rest.0, rest.1))

kept_among : (p : Trip → Bool) (xs : List Trip) (u : Trip) → Among u xs → p u ≡ true → Among u (filter p xs)
kept_among p [] u a t = absurd a
kept_among p (x ∷ xs) u (inl e) t = kept_here (p x) x u (filter p xs) (subst (λ v. p v ≡ true) (sym e) t) e
kept_among p (x ∷ xs) u (inr a) t = kept_old (p x) x u (filter p xs) (kept_among p xs u a t)

pub only_without : (ts : List Trip) (n : ℕ) → InOrder ts → Only (RidOf ts n) (without ts n)
only_without ts n ordered =
    let is : RidOf ts n (without ts n) = record {
      ordered = places_from Ahead (without ts n) (pairs_kept Ahead (λ x. not (eqb x.number n)) ts (pairs_from Ahead ts ordered));
      old = λ u a d. kept_among (λ x. not (eqb x.number n)) ts u a (not_from_false (eqb u.number n) (ne_eqb u.number n d));
      no_other = λ u a. let k = among_kept (λ x. not (eqb x.number n)) ts u a in (k.0, eqb-false u.number n (not-true (eqb u.number n) k.1));
    } in (
      is,
      λ vs left.
          same vs (without ts n) (pairs_from Ahead vs left.ordered) (pairs_from Ahead (without ts n) is.ordered)
          (λ u a. let k = left.no_other u a in is.old u k.0 k.1)
          (λ u a. let k = is.no_other u a in left.old u k.0 k.1),
    )
