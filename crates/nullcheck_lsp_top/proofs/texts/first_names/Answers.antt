use Rattle.std.proofs.Common.{◌≡◌, length, min, take, ap, ◌∙◌, arith}
use Rattle.std.proofs.lemmas.List.{take_min}
use Rattle.nullcheck_lsp_top.proofs.texts.first_names.Goals as goal

pub returns : goal.returns
returns c =
    let names = c.args.names.now in
    let turned : min (length names) 65 ≡ min 65 (length names) = omega arith in
    ap (λ n. take n names) (c.min.ensures ∙ turned) ∙ take_min 65 names
