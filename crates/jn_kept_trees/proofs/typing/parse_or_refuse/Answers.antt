use Rattle.jn_kept_trees.proofs.Found.{limits_typed, texts_typed, trees_parsed}
use Rattle.jn_front.proofs.Kept.{read_from}
use Rattle.jn_kept_trees.proofs.typing.parse_or_refuse.Goals as goal

pub returns-then-not-no_rows-clause-refused : goal.returns-then-not-no_rows-clause-refused
returns-then-not-no_rows-clause-refused g c =
    let made = c.in_ok-typed.ensures in
    limits_typed c.args.infer c.args.reads.now c.in_ok-limits.limits.items c.in_ok-limits.ensures c.new.result.items c.in_ok-typed.typed (c.no_rows.ensures.some c.if-not-no_rows.true) made.rows made.base c.new.ensures.items made.kept

pub returns-then-no_rows-clause-parsed : goal.returns-then-no_rows-clause-parsed
returns-then-no_rows-clause-parsed g c =
    let none = c.no_rows-2.ensures.none c.if-no_rows.true in
    let made = c.in_ok-parsed.ensures in
    trees_parsed c.args.reads.now c.in_ok-limits.limits.items c.in_ok-limits.ensures (c.no_rows.ensures.none c.if-not-no_rows.false) (read_from c.args.reads.now) c.in_ok-parsed.parsed (made.trees none) (made.texts none)

pub returns-then-no_rows-clause-same : goal.returns-then-no_rows-clause-same
returns-then-no_rows-clause-same g c = c.in_ok-parsed.ensures.same (c.no_rows-2.ensures.none c.if-no_rows.true)

pub returns-clause-refused : goal.returns-clause-refused
returns-clause-refused g c =
    let some = c.no_rows-2.ensures.some c.if-no_rows.false in
    let parsed = c.in_ok-parsed.ensures in
    let made = c.in_ok-typed-2.ensures in
    texts_typed c.args.infer c.args.reads.now c.in_ok-limits.limits.items c.in_ok-limits.ensures (c.no_rows.ensures.none c.if-not-no_rows.false) c.in_ok-parsed.parsed.rows.items c.in_ok-parsed.parsed.kept.items c.in_ok-typed-2.typed some (parsed.rows some) (parsed.kept some) made.rows made.base made.kept
