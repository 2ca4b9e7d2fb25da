use Rattle.std.proofs.Common.{◌≡◌, ◌++◌, drop}
use Rattle.std.specs.Prelude.{flat_map}
use Rattle.jn_points.specs.Lookup.{method_at}
use Rattle.jn_lsp_actions.specs.Own as spec
use Rattle.jn_lsp_actions.proofs.wants.put_lowers.Given as goal

abbrev pub invariant-loop-lower : goal.invariant-loop-lower
invariant-loop-lower l =
    l.slots.items ++ flat_map (λ k. spec.lower_wants l.sig l.part l.over (method_at l.program k)) (drop l.lower-index l.under)
    ≡ l.fn.slots.items ++ flat_map (λ k. spec.lower_wants l.sig l.part l.over (method_at l.program k)) l.under
