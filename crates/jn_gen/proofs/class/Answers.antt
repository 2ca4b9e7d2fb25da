-- The text as it is formatted is the lines, each ended by a line feed.
use Rattle.std.proofs.Common.{◌≡◌, ◌++◌, ◌∙◌, ℕ, List, [], codes, decimal, refl}
use Rattle.std.proofs.lemmas.Result.{IfOk-weaker}
use Rattle.std.proofs.lemmas.List.{append_assoc, append-nil}
use Rattle.jn_gen.specs.Generated.{class_lines}
use Rattle.jn_gen.proofs.class.Goals as goal

joined : (k n a1 b1 a2 b2 tag a3 b3 a4 b4 l1 l2 l3 l4 l5 : List ℕ)
    → a1 ++ (k ++ ((b1 ++ (n ++ (a2))) ++ (k ++ ((b2 ++ (n ++ (tag ++ (n ++ (a3))))) ++ (k ++ ((b3 ++ (n ++ (a4))) ++ (k ++ ((b4 ++ (n ++ (l1 ++ (n ++ (l2 ++ (n ++ (l3 ++ (n ++ (l4 ++ (n ++ (l5 ++ (n))))))))))))))))))))
    ≡ ((a1 ++ k ++ b1) ++ n) ++ (((a2 ++ k ++ b2) ++ n) ++ ((tag ++ n) ++ (((a3 ++ k ++ b3) ++ n) ++ (((a4 ++ k ++ b4) ++ n) ++ ((l1 ++ n) ++ ((l2 ++ n) ++ ((l3 ++ n) ++ ((l4 ++ n) ++ ((l5 ++ n) ++ [])))))))))
joined k n a1 b1 a2 b2 tag a3 b3 a4 b4 l1 l2 l3 l4 l5 = simp (append_assoc, append-nil) refl

pub returns : goal.returns
unfolding class_lines
returns c = IfOk-weaker c.format.result _ _ (λ s h. h ∙ joined (decimal c.args.k) (codes "\n")
    (codes "class G") (codes " {") (codes "  private @Nullable G") (codes " next;") (codes "  private String tag;")
    (codes "  G") (codes "(String t) { this.tag = t; }") (codes "  private String pick(G") (codes " o) {")
    (codes "    if (o == null) return this.tag;") (codes "    return o.tag;") (codes "  }") (codes "  String run() { return pick(next) + pick(this); }") (codes "}")) c.format.ensures.ok
