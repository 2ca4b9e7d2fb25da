use Rattle.jn_parse_decl.proofs.Turns.{deep_row}
use Rattle.jn_parse_decl.proofs.file.parse_file.Goals as goal

pub returns-in-Some : goal.returns-in-Some
returns-in-Some g c =
    let found = rw c.in-Some.is at (rw c.in-Ok.is at c.scan.ensures) in
    record { tree = tt; row = deep_row c.args.file c.args.end c.args.tokens.now c.in-Some.place c.row.result found c.row.ensures }
