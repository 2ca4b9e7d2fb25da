use Rattle.std.proofs.Common.{◌≡◌, ◌++◌, drop, map}
use Rattle.std.specs.Prelude.{slice_index_or}
use Rattle.jn_cert_form.proofs.building.turned.Given as goal

abbrev pub invariant-loop-place : goal.invariant-loop-place
invariant-loop-place l = l.turned.items ++ map (λ i. slice_index_or l.order i 0) (drop l.place-index l.places) ≡ map (λ i. slice_index_or l.order i 0) l.places
