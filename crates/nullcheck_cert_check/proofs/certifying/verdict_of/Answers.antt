use Rattle.std.proofs.Common.{map, subst}
use Rattle.jn_places.specs.PlacedView.{placed_file}
use Rattle.nullcheck_cert_check.proofs.Certified.{IsTypedAll, IsWhole, found_all, found_stands, found_whole, program_read}
use Rattle.jn_front.proofs.Kept.{read_from}
use Rattle.nullcheck_cert_check.proofs.certifying.verdict_of.Goals as goal

pub certify-requires-clause-program : goal.certify-requires-clause-program
certify-requires-clause-program c =
    let trees = map placed_file c.args.trees.now in
    let reads = c.args.reads.now in
    let names = c.args.names.now in
    let whole = subst (IsWhole reads) c.in-Some.is c.requires.whole in
    let typed = subst (IsTypedAll c.args.infer reads names trees c.args.rows) c.in-Some.is c.requires.typed in
    program_read c.args.infer reads names trees c.args.rows c.in-Some.base whole (read_from c.args.reads.now) typed

pub returns-in-None-clause-found : goal.returns-in-None-clause-found
returns-in-None-clause-found c files bytes are is =
    subst (IsTypedAll c.args.infer c.args.reads.now c.args.names.now (map placed_file c.args.trees.now) c.args.rows) c.in-None.is c.requires.typed files are

pub returns-in-Some-clause-found : goal.returns-in-Some-clause-found
returns-in-Some-clause-found c =
    let whole = subst (IsWhole c.args.reads.now) c.in-Some.is c.requires.whole in
    found_all c.args.infer c.args.reads.now c.args.names.now (map placed_file c.args.trees.now) c.args.rows c.in-Some.base whole c.args.cert.now c.certify.result c.certify.ensures.found

pub returns-in-Some-clause-whole : goal.returns-in-Some-clause-whole
returns-in-Some-clause-whole c =
    let whole = subst (IsWhole c.args.reads.now) c.in-Some.is c.requires.whole in
    found_whole c.args.infer c.args.reads.now c.args.names.now (map placed_file c.args.trees.now) c.args.rows c.in-Some.base whole c.certify.result

pub returns-in-Some-clause-stand : goal.returns-in-Some-clause-stand
returns-in-Some-clause-stand c = found_stands c.args.reads.now c.certify.result c.certify.ensures.program
