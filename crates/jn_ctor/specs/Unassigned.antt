-- The fields that a constructor leaves unassigned at some of its ends (JLS 8, chapter 16; the Checker Framework manual, initialization).
use Rattle.std.specs.Prelude.{ℕ, ◌+◌, Bool, false, not, ◌||◌, eqb, List, [], ◌∷◌, filter, Option, Some}
use Rattle.jn_base.specs.declared.number.FieldNo.{FieldNo}
use Rattle.jn_points.specs.declared.point.Point.{Point}
use Rattle.jn_points.specs.declared.point.PointKind.{PointKind}
use Rattle.jn_points.specs.declared.point.PointKind.TheVariants.{Return}
use Rattle.jn_points.specs.declared.program.Program.{Program}
use Rattle.jn_points.specs.Lookup.{points_of, body_at}
use Rattle.jn_env.specs.Environment.{Env}
use Rattle.jn_env.specs.Order.{Table, env_in}
use Rattle.jn_env.specs.Keys.{is_on, own_keys}

-- at a reached Return the field isn't among the own ones that are assigned
abbrev pub lacks : List ℕ → ℕ → PointKind → Option Env → Bool
lacks own f (Return v) (Some e) = not (is_on (λ k. eqb k f) own e.assigned)
lacks own f kind slot = false

-- at some point, from point p on
abbrev pub lacks_from : List ℕ → ℕ → List Point → ℕ → Table → Bool
lacks_from own f [] p t = false
lacks_from own f (pt ∷ pts) p t = lacks own f pt.kind (env_in t p) || lacks_from own f pts (p + 1) t

-- the reference fields of the constructor's class that aren't assigned at some reached Return
abbrev pub unassigned_at_end : Program → ℕ → Table → List ℕ
unassigned_at_end P b t = filter (λ f. lacks_from (own_keys P b) f (points_of (body_at P b)) 0 t) (own_keys P b)

-- fields by their numbers
abbrev pub field_numbers : List FieldNo → List ℕ
field_numbers [] = []
field_numbers (f ∷ fs) = f.0 ∷ field_numbers fs
