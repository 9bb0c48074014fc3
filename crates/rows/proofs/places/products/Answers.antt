use Rattle.std.proofs.Common.{◌*ℤ◌, ap, ◌∙◌, arith, rules, w64, to_z, of_z}
use Rattle.std.specs.Int.{saturate_to_bits}
use Rattle.std.proofs.lemmas.Int.{to_z-of_z}
use Rattle.rows.specs.Places.{scaled, kept}
use Rattle.rows.proofs.Steps.{mapped_more, mapped_all, kept_saturated}
use Rattle.rows.proofs.places.products.Goals as goal

pub loop-x-preserved : goal.loop-x-preserved
loop-x-preserved g c = mapped_more (λ x. saturate_to_bits 63 (x *ℤ to_z w64 (of_z w64 c.args.by))) c.args.xs c.loop-x.x-items c.loop-x.x-index _ (omega arith) c.loop-x.invariant (search rules)

pub returns : goal.returns
returns g c = ap kept (mapped_all (λ x. saturate_to_bits 63 (x *ℤ to_z w64 (of_z w64 c.args.by))) c.args.xs _ c.loop-x.x-index (omega arith) c.loop-x.invariant) ∙ kept_saturated (to_z w64 (of_z w64 c.args.by)) c.args.xs ∙ ap (λ b. kept (scaled b c.args.xs)) (to_z-of_z w64 c.args.by c.ranges.by)
