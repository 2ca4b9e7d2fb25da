-- A body's facts are the keys of its environments.
use Rattle.std.proofs.Common.{◌≡◌, refl, sym, subst}
use Rattle.std.specs.Prelude.{◌&&◌, ltb, List, length, filter, flat_map, Option}
use Rattle.jn_points.specs.declared.program.Body.{Body}
use Rattle.jn_points.specs.declared.program.Program.{Program}
use Rattle.jn_points.specs.Lookup.{locals_of, method_of_body, points_of, ref_field}
use Rattle.jn_points.specs.Members.{below}
use Rattle.jn_env.specs.Keys.{distinct, is_own, kind_keys}
use Rattle.jn_lowering.specs.BodyRows.{facts, own_fields}
use Rattle.jn_lowering.proofs.law.counted_facts_are_keys.Goals as goal

abbrev facts_at : Program → Option Body → List Rattle.jn_env.specs.Keys.Key
facts_at P o = distinct (filter (λ k. ltb k.reg (locals_of o) && ref_field P k.field) (flat_map (λ pt. kind_keys pt.kind) (points_of o)))

pub returns : goal.returns
returns c = λ P ss b x there. (subst (λ o. facts P x ≡ facts_at P o) (sym there) refl, subst (λ o. own_fields P x.method.0 ≡ filter (is_own P (method_of_body P o)) (below (length P.fields))) (sym there) refl)
