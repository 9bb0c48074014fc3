-- That the ferry rule's facts are those of the walks along its chart's edges. Assumes nothing.
use Rattle.std.proofs.Common.{◌≡◌, ℕ, ◌+◌, Bool, true, false, T, pos, Some, None, Option, sym, refl, ◌∙◌, subst}
use mathlib.Core.Logic.{∥∥₁_elim}
use lib.Signed.{le_z, le_z_yes}
use Rattle.std.proofs.lemmas.Bool.{true≢false, and_parts, and_from, cond_both}
use Rattle.std.proofs.lemmas.Option.{none-some, same_Some}
use Rattle.walks.proofs.Lawful.{laws_hold}
use Rattle.chart.proofs.Distances.{answer_least}
use Rattle.trips.specs.declared.trip.Trip.{Trip}
use Rattle.trips.specs.Gaps.{gap_of, gap_lies_within}
use Rattle.rules.specs.declared.rule.YardCents.{YardCents}
use Rattle.ferry_rule.specs.declared.terms.Terms.{Terms}
use Rattle.ferry_rule.specs.declared.rule.FerryRule.{FerryRule}
use Rattle.ferry_rule.specs.Facts.{way, link_by, yard_by, ferry_link, ferry_yard}
use Rattle.ferry_rule.specs.Sailing.{Distance, Lies, LinkSailed, YardSailed}

is_true : (b : Bool) → T b → b ≡ true
is_true true h = refl
is_true false h = absurd h

module _ (terms : Terms) (d : ℕ) (a b : Trip) where
  within_lies : gap_lies_within (terms.least + d) (terms.most + d) a b ≡ true → Lies terms d a b
  within_lies e =
      let p = and_parts (le_z (pos (terms.least + d)) (gap_of a b)) (le_z (gap_of a b) (pos (terms.most + d))) e in
      record { long = le_z_yes (subst T (sym p.0) tt); short = le_z_yes (subst T (sym p.1) tt) }

  lies_within : Lies terms d a b → gap_lies_within (terms.least + d) (terms.most + d) a b ≡ true
  lies_within l = and_from _ _ (is_true _ l.long.le) (is_true _ l.short.le)

module _ (s : FerryRule) where
  there : (x y d : ℕ) → way s x y ≡ Some d → Distance s x y d
  there x y d e = answer_least s.chart.edges.list.items s.chart.lengths.lengths x y (Some d) s.chart.closed (sym e)

  -- a distance is the way's minutes
  only : (x y d : ℕ) → Distance s x y d → (o : Option ℕ) → way s x y ≡ o → (Some d ≡ o → ⊥) → ⊥
  only x y d dist o e ne =
      let es = s.chart.edges.list.items in
      ∥∥₁_elim dist (λ p q. absurd p)
      (λ l. ∥∥₁_elim (answer_least es s.chart.lengths.lengths x y o s.chart.closed (sym e)) (λ p q. absurd p) (λ k. ne ((laws_hold es).one x y (Some d) o l k)))

  none : (d : ℕ) → Some d ≡ None → ⊥
  none d e = none-some d (sym e)

  module _ (a b : Trip) where
    link_of : (o : Option ℕ) → way s a.end b.start ≡ o → LinkSailed s a b (link_by s.terms a b o)
    link_of None e = λ d dist lies. only a.end b.start d dist None e (none d)
    link_of (Some m) e =
        cond_both (gap_lies_within (s.terms.least + m) (s.terms.most + m) a b) _ _ (LinkSailed s a b)
        (λ yes. (m, there a.end b.start m e, within_lies s.terms m a b yes, refl))
        (λ outside d dist lies.
        only a.end b.start d dist (Some m) e
        (λ same.
        let w = subst (λ k. Lies s.terms k a b) (same_Some d m same) lies in
        true≢false (sym (lies_within s.terms m a b w) ∙ outside)))

    pub link_sailed : (r : Option ℕ) → r ≡ ferry_link s a b → LinkSailed s a b r
    link_sailed r e = subst (LinkSailed s a b) (sym e) (link_of (way s a.end b.start) refl)

  module _ (trip : Trip) where
    yard_of : (o p : Option ℕ) → way s 0 trip.start ≡ o → way s trip.end 0 ≡ p → YardSailed s trip (yard_by s.terms o p)
    yard_of None p e f = λ out home there_is back. only 0 trip.start out there_is None e (none out)
    yard_of (Some out) None e f = λ o home there_is back. only trip.end 0 home back None f (none home)
    yard_of (Some out) (Some home) e f = (out, home, there 0 trip.start out e, there trip.end 0 home f, refl, refl)

    pub yard_sailed : (r : Option YardCents) → r ≡ ferry_yard s trip → YardSailed s trip r
    yard_sailed r e = subst (YardSailed s trip) (sym e) (yard_of (way s 0 trip.start) (way s trip.end 0) refl refl)
