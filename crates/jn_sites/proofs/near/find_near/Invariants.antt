use Rattle.std.proofs.Common.{take}
use Rattle.jn_contrib.specs.declared.listed.Overrider.{Overrider}
use Rattle.jn_sites.specs.Near.{near}
use Rattle.jn_sites.specs.Sites.{AreKept}
use Rattle.jn_sites.proofs.near.find_near.Given as goal

abbrev pub invariant-loop-overrider : goal.invariant-loop-overrider
invariant-loop-overrider l = AreKept Overrider (near l.program (take l.overrider-index l.overriders)) l.sites
