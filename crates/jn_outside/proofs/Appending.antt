-- One write after another.
use Rattle.std.proofs.Common.{◌≡◌, ℕ, ◌+◌, ◌++◌, List, Option, Some, None, take, drop, sym, ap, ◌∙◌, append_assoc}
use Rattle.std.proofs.Math.Seq.{take-add}
use Rattle.jn_outside.specs.Sink.{Appends}

pub appends_more : (a b c : Option (List ℕ)) (bytes : List ℕ) (done n : ℕ) → Appends a b (take done bytes) → Appends b c (take n (drop done bytes)) → Appends a c (take (done + n) bytes)
appends_more None None c bytes done n h k = k
appends_more None (Some v) c bytes done n h k = cc
appends_more (Some w) None c bytes done n h k = cc
appends_more (Some w) (Some v) c bytes done n h k =
    let e : v ≡ w ++ take done bytes = cc in
    let f : take (done + n) bytes ≡ take done bytes ++ take n (drop done bytes) = take-add done n bytes in
    k ∙ ap (λ x. Some (x ++ take n (drop done bytes))) e ∙ ap Some (append_assoc w (take done bytes) (take n (drop done bytes)) ∙ ap (λ x. w ++ x) (sym f))
