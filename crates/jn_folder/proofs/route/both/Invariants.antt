use Rattle.std.proofs.Common.{◌≡◌, ◌++◌, take}
use Rattle.jn_folder.proofs.route.both.Given as goal

abbrev pub invariant-loop-name : goal.invariant-loop-name
invariant-loop-name l = l.all.items ≡ l.fn.one.items ++ take l.name-index l.other
