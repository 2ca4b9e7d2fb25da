use Rattle.std.proofs.Common.{List, drop}
use Rattle.jn_base.specs.declared.number.WordNo.{WordNo}
use Rattle.jn_inference_law.specs.Reading.{methods_reads}
use Rattle.jn_system.specs.ReadLists.{Adds}
use Rattle.jn_system.proofs.listing.add_methods.Given as goal

abbrev pub invariant-loop-method : goal.invariant-loop-method
invariant-loop-method l = (last : List WordNo) → Adds l.count (methods_reads l.program (drop l.method-index l.methods)) l.list.items last → Adds l.count (methods_reads l.program l.methods) l.fn.list.items last
