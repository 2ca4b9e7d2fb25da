use Rattle.std.proofs.Common.{◌≡◌, ◌++◌, drop}
use Rattle.std.specs.Prelude.{flat_map}
use Rattle.jn_lsp_actions.specs.Own as spec
use Rattle.jn_lsp_actions.proofs.wants.put_overriders.Given as goal

abbrev pub invariant-loop-overrider : goal.invariant-loop-overrider
invariant-loop-overrider l =
    let one = spec.listed_wants l.sig l.program l.span l.part in
    l.slots.items ++ flat_map one (drop l.overrider-index l.overriders) ≡ l.fn.slots.items ++ flat_map one l.overriders
