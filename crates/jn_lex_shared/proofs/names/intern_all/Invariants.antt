use Rattle.std.proofs.Common.{◌≡◌, take}
use Rattle.jn_lex_shared.specs.Interned.{interned}
use Rattle.jn_lex_shared.proofs.names.intern_all.Given as goal

abbrev pub invariant-loop-text : goal.invariant-loop-text
invariant-loop-text l = l.names ≡ interned l.fn.names (take l.text-index l.texts)
