use Rattle.std.proofs.Common.{map, subst}
use Rattle.jn_places.specs.PlacedView.{placed_file}
use Rattle.nullcheck_cert_check.proofs.Certified.{IsTypedAll, IsWhole, program_read}
use Rattle.nullcheck_cert_write.proofs.Finding.{found_all, found_stands}
use Rattle.jn_front.proofs.Kept.{read_from}
use Rattle.nullcheck_cert_write.proofs.making.verdict_of.Goals as goal

pub make_based-requires-clause-program : goal.make_based-requires-clause-program
make_based-requires-clause-program g c κs lives =
    let trees = map placed_file c.args.trees.now in
    let reads = c.args.reads.now in
    let names = c.args.names.now in
    let whole = subst (IsWhole reads) c.in-Some.is c.requires.whole in
    let typed = subst (IsTypedAll c.args.infer reads names trees c.args.rows) c.in-Some.is c.requires.typed in
    program_read c.args.infer reads names trees c.args.rows c.in-Some.base whole (read_from c.args.reads.now) typed

pub returns-in-None-clause-found : goal.returns-in-None-clause-found
returns-in-None-clause-found g c files are =
    subst (IsTypedAll c.args.infer c.args.reads.now c.args.names.now (map placed_file c.args.trees.now) c.args.rows) c.in-None.is c.requires.typed files are

pub returns-in-Some-clause-found : goal.returns-in-Some-clause-found
returns-in-Some-clause-found g c =
    let trees = map placed_file c.args.trees.now in
    let reads = c.args.reads.now in
    let names = c.args.names.now in
    let whole = subst (IsWhole reads) c.in-Some.is c.requires.whole in
    let typed = subst (IsTypedAll c.args.infer reads names trees c.args.rows) c.in-Some.is c.requires.typed in
    found_all c.args.infer reads names trees c.args.rows c.in-Some.base (read_from c.args.reads.now) typed whole c.make_based.result c.make_based.ensures

pub returns-in-Some-clause-stand : goal.returns-in-Some-clause-stand
returns-in-Some-clause-stand g c =
    let trees = map placed_file c.args.trees.now in
    let reads = c.args.reads.now in
    let names = c.args.names.now in
    let whole = subst (IsWhole reads) c.in-Some.is c.requires.whole in
    let typed = subst (IsTypedAll c.args.infer reads names trees c.args.rows) c.in-Some.is c.requires.typed in
    found_stands c.args.infer reads names trees c.args.rows c.in-Some.base (read_from c.args.reads.now) typed whole c.make_based.result
