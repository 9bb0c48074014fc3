-- What stands, and the limit, after one call more.
use Rattle.std.proofs.Common.{◌≡◌, ℕ, ◌+◌, ◌<◌, List, [], ◌∷◌, ◌++◌, length, get_or, take, Option, refl, ap, ◌∙◌}
use Rattle.std.proofs.lemmas.List.{take_more}
use Rattle.trips.specs.declared.trip.Trip.{Trip}
use Rattle.rules.specs.declared.rule.YardCents.{YardCents}
use Rattle.calls.specs.declared.call.Call.{Call}
use Rattle.calls.specs.Standing.{after_call, limit_after_call, standing_from, limit_from, standing, limit_after, no_call}

standing_push : (yard : Trip → Option YardCents) (ts : List Trip) (cs : List Call) (c : Call) → standing_from yard ts (cs ++ (c ∷ [])) ≡ after_call yard (standing_from yard ts cs) c
standing_push yard ts [] c = refl
standing_push yard ts (x ∷ cs) c = standing_push yard (after_call yard ts x) cs c

limit_push : (n : ℕ) (cs : List Call) (c : Call) → limit_from n (cs ++ (c ∷ [])) ≡ limit_after_call (limit_from n cs) c
limit_push n [] c = refl
limit_push n (x ∷ cs) c = limit_push (limit_after_call n x) cs c

pub standing_more : (yard : Trip → Option YardCents) (cs : List Call) (k : ℕ) → k < length cs → standing yard (take (k + 1) cs) ≡ after_call yard (standing yard (take k cs)) (get_or cs k no_call)
standing_more yard cs k h = ap (standing yard) (take_more cs k no_call h) ∙ standing_push yard [] (take k cs) (get_or cs k no_call)

pub limit_more : (cs : List Call) (k : ℕ) → k < length cs → limit_after (take (k + 1) cs) ≡ limit_after_call (limit_after (take k cs)) (get_or cs k no_call)
limit_more cs k h = ap limit_after (take_more cs k no_call h) ∙ limit_push 0 (take k cs) (get_or cs k no_call)
