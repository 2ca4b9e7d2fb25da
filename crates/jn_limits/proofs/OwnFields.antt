-- A class's reference fields are among the fields that it declares.
use Rattle.std.proofs.Common.{◌≡◌, ℕ, Bool, true, false, List, length, Option, refl, ap, ◌∙◌}
use Rattle.std.specs.Prelude.{◌&&◌, eqb, filter}
use Rattle.jn_points.specs.declared.program.Method.{Method}
use Rattle.jn_points.specs.declared.program.Program.{Program}
use Rattle.jn_points.specs.Lookup.{class_of, ctor_of, field_info, owner_of, ref_field}
use Rattle.jn_points.specs.Members.{below}
use Rattle.jn_env.specs.Keys.{is_own}
use Rattle.jn_member_tables.specs.Numbers.{places_of}
use Rattle.jn_index.specs.Index.{field_owners}
use Rattle.jn_index.proofs.Named.{own_kept}

second_off : (a b r : Bool) → b ≡ false → (a && b && r) ≡ false
second_off true true r h = cc
second_off true false r h = refl
second_off false b r h = refl

pub own_listed : (P : Program) (m : Option Method) → length (filter (is_own P m) (places_of (class_of m) 0 (field_owners P.fields))) ≡ length (filter (is_own P m) (below (length P.fields)))
own_listed P m = ap (λ (fs : List ℕ). length fs) (own_kept P (is_own P m) (class_of m) (λ k y at e. second_off (ctor_of m) (eqb (owner_of (field_info P k)) (class_of m)) (ref_field P k) (ap (λ o. eqb (owner_of o) (class_of m)) at ∙ e)))
