use Rattle.std.proofs.Common.{◌≡◌, length, map, sym, ap, ◌∙◌, subst}
use Rattle.std.proofs.lemmas.Result.{IfOk-weaker}
use Rattle.jn_base.specs.declared.place.Span.{Span}
use Rattle.jn_points.specs.declared.program.Program.{Program}
use Rattle.jn_trees.specs.View.{file_view}
use Rattle.jn_annotate.specs.Annotated.{AreWorded, unspelled_slots}
use Rattle.jn_annotate.specs.Answers.{IsWhyRefused}
use Rattle.jn_annotate.specs.Chosen.{chosen_slots}
use Rattle.jn_front.specs.Files.{files_of_reads}
use Rattle.nullcheck_annotate_top.specs.Places.{fault_span}
use Rattle.nullcheck_annotate_top.specs.Study.{AreUnannotated, IsStudy, left_at}
use Rattle.nullcheck_annotate_top.proofs.Studying.{annotated, signature_long, unannotated}
use Rattle.nullcheck_annotate_top.proofs.study.study_solved.Goals as goal

pub annotate-requires-clause-slots : goal.annotate-requires-clause-slots
annotate-requires-clause-slots c = signature_long c.args.base.now c.args.sig.now c.requires.least ∙ sym (ap (λ (P : Program). length P.slots) c.program-program.ensures.is)

pub study_left-requires : goal.study_left-requires
study_left-requires c = record { slots = signature_long c.args.base.now c.args.sig.now c.requires.least ∙ sym (ap (λ (P : Program). length P.slots) c.program-program.ensures.is) }

pub returns-in-Ok : goal.returns-in-Ok
returns-in-Ok c =
    let p = c.requires.program in
    let terse = c.args.terse in
    let imports = c.args.imports in
    let files = files_of_reads c.args.reads.now in
    let texts = c.args.texts.now in
    let tokens = c.args.tokens.now in
    let views = map file_view c.args.trees.now in
    let s = c.args.sig.now in
    let same = c.program-program.ensures.is in
    let h = subst (λ P. AreWorded (chosen_slots terse P s) imports P s texts tokens views c.in-Ok.new.items) same c.in-Ok.ensures.annotated in
    let left = ap (λ P. map (left_at P) (unspelled_slots P s)) same in
    IfOk-weaker c.study_left.result _ _
    (λ study e. subst (IsStudy c.args.infer terse imports files) (sym e)
    (annotated c.args.infer terse imports files c.args.names.now c.args.base.now s texts tokens c.args.trees.now c.places_are_forgotten.ensures.view p.0 p.1 p.2 c.requires.texts c.requires.least c.in-Ok.new.items (map (left_at c.program-program.result.now) (unspelled_slots c.program-program.result.now s)) h left))
    c.study_left.ensures

pub returns-in-Err-Refused : goal.returns-in-Err-Refused
returns-in-Err-Refused c =
    let p = c.requires.program in
    let terse = c.args.terse in
    let imports = c.args.imports in
    let texts = c.args.texts.now in
    let tokens = c.args.tokens.now in
    let views = map file_view c.args.trees.now in
    let s = c.args.sig.now in
    let fault = c.in-Err-Refused.fault in
    let why = subst (λ f. IsWhyRefused (chosen_slots terse c.args.base.now s) imports c.args.base.now s texts tokens views f) c.in-Err-Refused.field-0-is (subst (λ P. IsWhyRefused (chosen_slots terse P s) imports P s texts tokens views c.in-Err-Refused.field-0) c.program-program.ensures.is c.in-Err-Refused.ensures.refused) in
    let at : ◌≡◌ {A = Span} c.fault_span.result (fault_span c.program-program.result.now fault) = search (c.fault_span.ensures, c.in-Err-Refused.field-0-is) in
    let whole = unannotated c.args.infer terse imports (files_of_reads c.args.reads.now) c.args.names.now c.args.base.now s texts tokens c.args.trees.now c.places_are_forgotten.ensures.view p.0 p.1 p.2 c.requires.texts c.requires.least fault c.fault_span.result why (at ∙ ap (λ P. fault_span P fault) c.program-program.ensures.is) in
    subst (λ f. AreUnannotated c.args.infer terse imports (files_of_reads c.args.reads.now) f c.fault_span.result) (search (c.in-Err-Refused.field-0-is)) whole
