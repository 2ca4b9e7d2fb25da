-- Files that change, one after the other.
use Rattle.std.proofs.Common.{◌≡◌, List, ◌++◌, ap, ◌∙◌, append_assoc}
use Rattle.nullcheck_annotate_top.specs.declared.changes.Change.{Change}

-- what is left after the next file
pub next_change : (done new left c whole : List Change) → new ≡ done ++ c → done ++ (c ++ left) ≡ whole → new ++ left ≡ whole
next_change done new left c whole put before = ap (λ x. x ++ left) put ∙ append_assoc done c left ∙ before
