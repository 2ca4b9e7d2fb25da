use Rattle.std.proofs.Common.{◌≡◌, ◌||◌, ◌∙◌, sym, ap, List, ℕ}
use Rattle.jn_points.specs.Lookup.{method_at}
use Rattle.jn_transfer.specs.Contributions.{result_slot_of}
use Rattle.jn_transfer.specs.Pairs.{under}
use Rattle.jn_inference_law.specs.Reading.{slot_list, methods_reads, has_word}
use Rattle.jn_system.proofs.ReadSteps.{has_word-append}
use Rattle.jn_system.proofs.reading.pair_reads.Goals as goal

pub returns : goal.returns
returns c =
    let P = c.args.program.now in
    let w = c.args.word in
    let m = c.args.overrider.now.method in
    let slots = slot_list (result_slot_of (method_at P m)) in
    c.either.ensures
    ∙ (λ i. c.is_in-result.ensures i || c.some_given-given.ensures i)
    ∙ (λ i. has_word w (slot_list (c.result_slot.ensures i)) || has_word w (methods_reads P (c.as_slice.ensures i)))
    ∙ ap (λ (ks : List ℕ). has_word w slots || has_word w (methods_reads P ks)) c.requires.under
    ∙ sym (has_word-append w slots (methods_reads P (under P m)))
