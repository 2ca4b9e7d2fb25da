-- Bodies and rows of sources, one after the other.
use Rattle.std.proofs.Common.{◌≡◌, ℕ, suc, ◌<◌, Some, List, [], ◌∷◌, ◌++◌, length, get_or, map, flat_map, refl, sym, subst, arith}
use Rattle.jn_points.specs.declared.program.Program.{Program}
use Rattle.jn_lowering.specs.Bodies.{bodies_of}
use Rattle.jn_lowering.specs.BodyRows.{rows_of_bodies}
use Rattle.jn_lower_stmt.specs.declared.body.Source.{Source}
use Rattle.jn_lower_stmt.specs.Sources.{source_of, sources_of}
use Rattle.jn_program.specs.declared.bodies.LoweredBody.{LoweredBody}
use Rattle.jn_program.specs.Ranges.{IsLoweredAt, IsLoweredBody, body_of, rows_in}

same_source : (one other : Source) → Some one ≡ Some other → one ≡ other
same_source one other e = cc

-- sources that are lowered one by one are all lowered
pub all_lowered : (P : Program) (sources : List Source) (lowered : List LoweredBody) → length lowered ≡ length sources → ((n : ℕ) (d : LoweredBody) → n < length sources → IsLoweredAt P sources n (get_or lowered n d)) → (map body_of lowered ≡ bodies_of P (sources_of sources)) × (flat_map rows_in lowered ≡ rows_of_bodies P (sources_of sources))
all_lowered P [] [] many each = (refl, refl)
all_lowered P [] (one ∷ lowered) many each = absurd (omega (arith, many))
all_lowered P (source ∷ sources) [] many each = absurd (omega (arith, many))
all_lowered P (source ∷ sources) (one ∷ lowered) many each =
    let first = each 0 one (omega arith) in
    let is : IsLoweredBody P (source_of source) one = subst (λ (s : Source). IsLoweredBody P (source_of s) one) (sym (same_source source first.0 first.1)) first.2 in
    let rest = all_lowered P sources lowered (omega (arith, many)) (λ n d lt. each (suc n) d (omega (arith, lt))) in
    (λ i. is.body i ∷ rest.0 i, λ i. is.rows i ++ rest.1 i)
