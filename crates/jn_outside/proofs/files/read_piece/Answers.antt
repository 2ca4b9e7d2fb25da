use Rattle.std.proofs.Common.{rules, ◌≤◌, [], sym, ◌∙◌, arith}
use Rattle.jn_outside.proofs.Giving.{none_more}
use Rattle.jn_outside.proofs.Reading.{reads_at_most}
use Rattle.jn_outside.proofs.files.read_piece.Goals as goal

pub returns-in-Err-extend_from_slice-clause-few : goal.returns-in-Err-extend_from_slice-clause-few
returns-in-Err-extend_from_slice-clause-few g c = λ _ held name read.
    let le : c.in-Ok.count ≤ c.args.room = search rules in
    reads_at_most held name c.args.bytes.now.items (g.F.Files.left c.args.files.now) (g.F.Files.left c.read.new.self) c.in-Ok.count c.args.room c.read.new.buf le c.in-Ok.ensures.bytes read

pub returns-in-Err-clause-gave : goal.returns-in-Err-clause-gave
returns-in-Err-clause-gave g c = ([], record { few = omega arith; gave = c.in-Err.ensures.spared ∙ sym (none_more (g.F.Files.gave c.args.files.now)) }, tt)
