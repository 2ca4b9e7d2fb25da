use Rattle.std.proofs.Common.{◌∙◌, sym, subst}
use Rattle.std.specs.Prelude.{MatchOption}
use Rattle.jn_lexer.specs.Found.{NoToken, IsFound}
use Rattle.jn_lexer.proofs.Standing.{character_fault, dot_fault}
use Rattle.jn_lexer.proofs.words.mark_or_fault.Goals as goal

pub returns-in-None : goal.returns-in-None
returns-in-None c = character_fault c.args.text.now c.requires (subst (λ o. MatchOption o (NoToken c.args.text.now) (λ found. IsFound c.args.text.now found)) c.in-None.is c.mark_at.ensures)

pub returns-then-begins_bad_dot : goal.returns-then-begins_bad_dot
returns-then-begins_bad_dot c = dot_fault c.args.text.now (sym c.begins_bad_dot.ensures ∙ c.if-begins_bad_dot.true)
