use Rattle.std.proofs.Common.{◌≡◌, [], ◌∷◌, ◌++◌, Some, None, subst, option_map}
use Rattle.nullcheck_lsp_top.specs.Reading.{IsText, file_of, source}
use Rattle.nullcheck_lsp_top.proofs.Reading.{reads_text, reads_lost}
use Rattle.nullcheck_lsp_top.proofs.texts.read_one.Goals as goal

pub returns-in_ok-push-in-Some-clause-reads : goal.returns-in_ok-push-in-Some-clause-reads
returns-in_ok-push-in-Some-clause-reads g c =
    let held = g.F.Files.held c.args.files.now in
    let old = source (g.F.Files.gave c.args.files.now) (g.F.Files.faults c.args.files.now) in
    let new = source (g.F.Files.gave c.text_of.new.files) (g.F.Files.faults c.text_of.new.files) in
    let text = c.in-Some.text.items in
    let is : IsText held c.args.name.now old new (Some text) = subst (λ o. IsText held c.args.name.now old new (option_map (λ bytes. bytes.items) o)) c.in-Some.is (subst (λ n. IsText held n old new (option_map (λ bytes. bytes.items) c.in_ok-text.field-0)) c.as_str.ensures c.in_ok-text.ensures.read) in
    let files : c.push.new.self ≡ c.args.reads.now.files ++ file_of c.args.name.now text ∷ [] = cc (c.in_ok-push-in-Some.ensures.ok, c.in_ok-copy.ensures, c.of_vec.ensures) in
    reads_text held c.args.name.now text old new c.args.reads.now.files c.push.new.self c.args.reads.now.lost is files

pub returns-in_ok-push-in-None-clause-reads : goal.returns-in_ok-push-in-None-clause-reads
returns-in_ok-push-in-None-clause-reads g c =
    let held = g.F.Files.held c.args.files.now in
    let old = source (g.F.Files.gave c.args.files.now) (g.F.Files.faults c.args.files.now) in
    let new = source (g.F.Files.gave c.text_of.new.files) (g.F.Files.faults c.text_of.new.files) in
    let is : IsText held c.args.name.now old new None = subst (λ o. IsText held c.args.name.now old new (option_map (λ bytes. bytes.items) o)) c.in-None.is (subst (λ n. IsText held n old new (option_map (λ bytes. bytes.items) c.in_ok-text.field-0)) c.as_str.ensures c.in_ok-text.ensures.read) in
    let lost : c.push-in-None.new.self ≡ c.args.reads.now.lost ++ c.args.name.now ∷ [] = cc (c.in_ok-push-in-None.ensures.ok, c.in_ok-copy.ensures) in
    reads_lost held c.args.name.now old new c.args.reads.now.files c.args.reads.now.lost c.push-in-None.new.self is lost
