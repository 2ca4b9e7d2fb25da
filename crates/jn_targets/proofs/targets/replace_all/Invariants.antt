use Rattle.std.proofs.Common.{◌≡◌, ◌++◌, ◌-◌, ◌≤◌, false, length, take}
use Rattle.std.specs.List.{list_any}
use Rattle.jn_targets.specs.Replacing.{is_refused}
use Rattle.jn_targets.proofs.targets.replace_all.Given as goal

abbrev pub invariant-loop-done : goal.invariant-loop-done
invariant-loop-done g l = let k = g.T.Targets in record {
  within : l.done ≤ length l.wanted;
  first : k.replaced l.targets ≡ k.replaced l.fn.targets ++ take l.done l.wanted;
  special : k.special l.targets ≡ k.special l.fn.targets;
  plain : list_any (is_refused (k.special l.fn.targets)) (take l.done l.wanted) ≡ false;
  faults : k.faults l.targets ≡ k.faults l.fn.targets;
}

abbrev pub decreases-loop-done : goal.decreases-loop-done
decreases-loop-done g l = length l.wanted - l.done
