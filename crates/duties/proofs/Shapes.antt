-- Nets with the same trips and links have the same selections, covers and tables, whatever their costs are. Assumes nothing.
use Rattle.std.proofs.Common.{◌≡◌, ℕ, ◌<◌, List, [], ◌∷◌, ℤ, pos, is_some, Some, None, Option, sym, refl, ◌∙◌, arith}
use Rattle.std.specs.List.{AllByRecursion}
use Rattle.std.proofs.ByRecursion.{All-weaker}
use Rattle.std.specs.Option.{option_map}
use Rattle.duties.specs.Duties.{Net, Links, Linked, IsDuty, positions, Selection, Cover}
use Rattle.duties.specs.Tables.{Table, Follows, duties_of}
use Rattle.duties.proofs.InOrder.{duties_traced}

module _ {V W : Type 0} (N : Net V) (M : Net W) (same : N.trips ≡ M.trips) (shape : (i j : ℕ) → Links N i j → Links M i j) where
  linked_of : (i : ℕ) (js : List ℕ) → Linked N i js → Linked M i js
  linked_of i [] l = tt
  linked_of i (j ∷ js) l = (shape i j l.0, linked_of j js l.1)

  pub duty_of_lem : (d : List ℕ) → IsDuty N d → IsDuty M d
  duty_of_lem [] l = l
  duty_of_lem (i ∷ js) l = linked_of i js l

  pub selection_of : (ds : List (List ℕ)) → Selection N ds → Selection M ds
  selection_of ds s = record {
    duties = All-weaker (IsDuty N) (IsDuty M) duty_of_lem ds s.duties;
    within = All-weaker (λ k. k < N.trips) (λ k. k < M.trips) (λ k l. omega arith) (positions ds) s.within;
    once = s.once;
  }

  pub cover_of : (ds : List (List ℕ)) → Cover N ds → Cover M ds
  cover_of ds c = record { selection = selection_of ds c.selection; every = λ k l. c.every k (omega arith) }

  pub table_of : (t : List ℕ) → Table N t → Table M t
  table_of t tab = record {
    small = let s = tab.small in omega arith;
    long = tab.long ∙ same;
    later = λ i l f. let x = tab.later i (omega arith) f in (x.0, (let y = x.1 in omega arith), shape i _ x.2);
    apart = λ i j l m e. tab.apart i j l (omega arith) e;
  }

-- what a link is made into leaves it a link
pub some_mapped : {X Y : Type 0} (f : X → Y) (o : Option X) → is_some (option_map f o) ≡ is_some o
some_mapped f None = refl
some_mapped f (Some x) = refl

-- the net of the same trips and links in which a duty costs 1 to open, and nothing else
abbrev pub counted : {V : Type 0} → Net V → Net ℤ
counted N = record { trips = N.trips; opens = λ _. pos 1; link = λ i j. option_map (λ _. pos 0) (N.link i j); homes = λ _. pos 0 }

module _ {V : Type 0} (N : Net V) where
  pub to_counted : (i j : ℕ) → Links N i j → Links (counted N) i j
  to_counted i j l = some_mapped (λ _. pos 0) (N.link i j) ∙ l

  pub from_counted : (i j : ℕ) → Links (counted N) i j → Links N i j
  from_counted i j l = sym (some_mapped (λ _. pos 0) (N.link i j)) ∙ l

  -- the duties of a table are a cover, in a net of any kind of costs
  pub duties_cover : (t : List ℕ) → Table N t → Cover N (duties_of t)
  duties_cover t tab = cover_of (counted N) N refl from_counted (duties_of t) (duties_traced (counted N) t (table_of N (counted N) refl to_counted t tab)).cover

  -- and each goes on as the table says
  pub duties_follow : (t : List ℕ) → Table N t → AllByRecursion (Follows t) (duties_of t)
  duties_follow t tab = (duties_traced (counted N) t (table_of N (counted N) refl to_counted t tab)).follows
