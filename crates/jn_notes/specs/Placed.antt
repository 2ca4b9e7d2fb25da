-- That the points are kept which stand at places of the text is one fact.
use Rattle.std.proofs.Common.{◌≡◌, List, Some}
use Rattle.std.proofs.Math.Nat.{ℕ_set}
use Rattle.std.proofs.Math.Path.{fun_ext}
use mathlib.Core.List.{is_set}
use Rattle.jn_base.specs.declared.place.Span.{Span}
use Rattle.jn_points.specs.declared.program.Program.{Program}
use Rattle.jn_reasons.specs.declared.sources.Spot.{Spot}
use Rattle.jn_sites.specs.Marks.{AreSites, all_marks}
use Rattle.jn_sites.specs.Sites.{Key, kept_at}

spot_set : IsSet Spot
spot_set = hlevel ℕ_set

spots_set : IsSet (List Spot)
spots_set = is_set spot_set

pub sites_prop : (P : Program) (entries : List (Key × List Spot)) → IsProp (AreSites P entries)
sites_prop P entries = λ f g. fun_ext (λ (z : Span). fun_ext (λ (list : List Spot). fun_ext (λ (h : kept_at Spot entries z ≡ Some list). spots_set list (all_marks P z) (f z list h) (g z list h))))
