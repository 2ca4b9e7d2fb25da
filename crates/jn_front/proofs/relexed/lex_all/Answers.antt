use Rattle.std.proofs.Common.{◌≡◌, ◌∙◌, length, ap, sym, subst, arith}
use Rattle.jn_front.specs.declared.source.SourceRead.{SourceRead}
use Rattle.jn_lexer.specs.Lexed.{Lexed}
use Rattle.jn_front.proofs.Kept.{read_fits}
use Rattle.jn_front.proofs.Relexing.{all_lexed, at_place, lexes, next}
use Rattle.jn_front.proofs.relexed.lex_all.Goals as goal

pub lex_again-requires-clause-few : goal.lex_again-requires-clause-few
lex_again-requires-clause-few c =
    let read = c.index-reads-file.result in
    let fits = read_fits read in
    let text = c.as_slice-text.ensures ∙ ap (λ (r : SourceRead). r.file.bytes) (sym c.index-reads-file.is) in
    let size : length c.as_slice-text.result.now ≡ length read.file.bytes = ap length text in
    let lt = c.loop-file-test.true in
    let few = c.requires.few in
    let names = c.loop-file.invariant.few in
    omega (arith, fits, size, lt, few, names)

pub lex_again-requires-clause-lexes : goal.lex_again-requires-clause-lexes
lex_again-requires-clause-lexes c =
    let read = c.index-reads-file.result in
    let here = at_place c.args.reads.now c.loop-file.file read read c.loop-file-test.true c.index-reads-file.is in
    let text = c.as_slice-text.ensures ∙ ap (λ (r : SourceRead). r.file.bytes) (sym c.index-reads-file.is) in
    let found = lexes c.args.reads.now c.loop-file.file c.loop-file.names c.loop-file.all.items read here c.requires.lexes c.loop-file.invariant in
    (found.0, found.1, subst (λ text. Lexed (record { 0 = c.loop-file.file }) text c.loop-file.names found.0 found.1) (sym text) found.2)

pub loop-file-preserved : goal.loop-file-preserved
loop-file-preserved c =
    let read = c.index-reads-file.result in
    let here = at_place c.args.reads.now c.loop-file.file read read c.loop-file-test.true c.index-reads-file.is in
    let fits = read_fits read in
    let text = c.as_slice-text.ensures ∙ ap (λ (r : SourceRead). r.file.bytes) (sym c.index-reads-file.is) in
    let lexed = subst (λ text. Lexed (record { 0 = c.loop-file.file }) text c.loop-file.names c.in_ok-tokens.tokens c.lex_again.new.names) text c.in_ok-tokens.ensures in
    let more = c.texts_have_few_tokens.ensures.names (record { 0 = c.loop-file.file }) read.file.bytes c.loop-file.names c.in_ok-tokens.tokens c.lex_again.new.names lexed in
    next c.texts_have_one_reading.ensures.one c.args.reads.now c.loop-file.file c.loop-file.names c.loop-file.all.items c.put.new.items.items read c.in_ok-tokens.tokens c.lex_again.new.names c.loop-file-test.true here fits more lexed c.in_ok-put.ensures c.loop-file.invariant

pub returns : goal.returns
returns c = all_lexed c.args.reads.now c.loop-file.file c.loop-file.names c.loop-file.all.items c.loop-file-test.false c.loop-file.invariant
