use Rattle.std.proofs.Common.{◌≡◌, ℕ, List, length, ap, ◌∙◌, refl, sym, subst}
use Rattle.jn_points.specs.declared.program.Program.{Program}
use Rattle.jn_quals.specs.Qualifier.{Qualifier}
use Rattle.jn_sigs.specs.Packed.{ArePacked, unpacked}
use Rattle.jn_sigs.specs.Signature.{start_signature}
use Rattle.jn_system.proofs.TaskSteps.{no_tasks}
use Rattle.jn_inference_law.specs.Inference.{words_for}
use Rattle.jn_inference_law.proofs.LeastSignature.{found_count, found_signature, least_start, length-start}
use Rattle.jn_system.proofs.solving.solve_with.Goals as goal

pub returns-then-is_none : goal.returns-then-is_none
returns-then-is_none g c = least_start c.args.program.now c.in_ok-first.first (no_tasks c.args.program.now c.args.overriders.now _ _ c.requires.overriders c.len-2.ensures refl (c.is_none.ensures.none c.if-is_none.true)) c.in_ok-first.ensures

pub solve-requires-clause-count : goal.solve-requires-clause-count
solve-requires-clause-count g c κs lives =
    c.words.ensures.packed.enough ∙ ap words_for (ap (λ (s : List Qualifier). length s) c.in_ok-first.ensures ∙ length-start c.args.program.now ∙ ap (λ (P : Program). length P.slots) (sym c.new-system.ensures))

pub signature-requires : goal.signature-requires
signature-requires g c =
    let P = c.args.program.now in
    let start = c.words.result.now in
    let long : length c.in_ok-first.first ≡ length P.slots = ap (λ (s : List Qualifier). length s) c.in_ok-first.ensures ∙ length-start P in
    let packed = subst (λ (n : ℕ). ArePacked start n) long c.words.ensures.packed in
    let starts = subst (λ (n : ℕ). unpacked start n ≡ start_signature P) long (c.words.ensures.same ∙ c.in_ok-first.ensures) in
    ap (λ (ws : List ℕ). length ws) c.as_slice.ensures.value
    ∙ found_count P c.requires.inferable start packed starts c.new-system.result.program.now c.in_ok-words.words.items c.new-system.ensures c.in_ok-words.ensures
    ∙ ap words_for (sym c.len-3.ensures)

pub returns : goal.returns
returns g c =
    let P = c.args.program.now in
    let start = c.words.result.now in
    let long : length c.in_ok-first.first ≡ length P.slots = ap (λ (s : List Qualifier). length s) c.in_ok-first.ensures ∙ length-start P in
    let packed = subst (λ (n : ℕ). ArePacked start n) long c.words.ensures.packed in
    let starts = subst (λ (n : ℕ). unpacked start n ≡ start_signature P) long (c.words.ensures.same ∙ c.in_ok-first.ensures) in
    found_signature P c.requires.inferable start packed starts c.new-system.result.program.now c.in_ok-words.words.items c.in_ok-sig.sig c.new-system.ensures c.in_ok-words.ensures
    (c.in_ok-sig.ensures ∙ ap (λ (ws : List ℕ). unpacked ws c.len-3.result) c.as_slice.ensures.value ∙ ap (λ (n : ℕ). unpacked c.in_ok-words.words.items n) c.len-3.ensures)
