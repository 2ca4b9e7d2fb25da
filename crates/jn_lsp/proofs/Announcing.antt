-- Publications, one by one.
use Rattle.std.proofs.Common.{◌≡◌, ℕ, ◌+◌, ◌<◌, true, false, not, List, [], ◌∷◌, ◌++◌, Option, cond, filter, length, map, get_or, take, append-nil, append_assoc, refl, sym, ap, ◌∙◌, subst}
use Rattle.std.proofs.Common.{inl, inr}
use Rattle.std.proofs.lemmas.List.{map-append, take_more}
use Rattle.std.proofs.lemmas.List.Elements.{filter_more}
use Rattle.jn_lsp_text.specs.declared.reply.Diagnostic.{Diagnostic}
use Rattle.jn_lsp_text.specs.declared.reply.Reply.{Reply}
use Rattle.jn_lsp_text.specs.declared.reply.Reply.TheVariants.{Publish}
use Rattle.jn_lsp.specs.declared.versions.Version.{Version}
use Rattle.jn_lsp.specs.Tracking.{version_of}
use Rattle.jn_lsp.specs.declared.diagnostics.Told.{Told}
use Rattle.jn_lsp.specs.Publications.{Adds, ArePublished, Clears, gone, is_told}

-- one name more
pub published_more : (opened : Option (List ℕ)) (versions : List Version) (before told : List Told) (one : Told) (replies more : List Reply) → ArePublished opened versions before told replies → Adds opened versions before one.name one.diagnostics replies more → ArePublished opened versions before (told ++ one ∷ []) more
published_more opened versions before [] one replies more are (inl (same, e)) = inl (same, e ∙ are)
published_more opened versions before [] one replies more are (inr (other, e)) = inr (other, ([], e ∙ ap (λ rs. rs ++ Publish one.name (version_of versions one.name) one.diagnostics ∷ []) are, refl))
published_more opened versions before (first ∷ told) one replies more (inl (same, rest)) adds = inl (same, published_more opened versions before told one replies more rest adds)
published_more opened versions before (first ∷ told) one replies more (inr (other, (rest, e, are))) (inl (same, f)) = inr (other, (rest, f ∙ e, published_more opened versions before told one rest rest are (inl (same, refl))))
published_more opened versions before (first ∷ told) one replies more (inr (other, (rest, e, are))) (inr (differs, f)) =
    inr (other, (rest ++ Publish one.name (version_of versions one.name) one.diagnostics ∷ [], f ∙ ap (λ rs. rs ++ Publish one.name (version_of versions one.name) one.diagnostics ∷ []) e, published_more opened versions before told one rest (rest ++ Publish one.name (version_of versions one.name) one.diagnostics ∷ []) are (inr (differs, refl))))

pub announced_more : (opened : Option (List ℕ)) (versions : List Version) (before front told : List Told) (i : ℕ) (d : Told) (replies more : List Reply) → i < length told → ArePublished opened versions before (front ++ take i told) replies → Adds opened versions before (get_or told i d).name (get_or told i d).diagnostics replies more → ArePublished opened versions before (front ++ take (i + 1) told) more
announced_more opened versions before front told i d replies more lt are adds =
    subst (λ l. ArePublished opened versions before l more) (append_assoc front (take i told) (get_or told i d ∷ []) ∙ ap (λ l. front ++ l) (sym (take_more told i d lt))) (published_more opened versions before (front ++ take i told) (get_or told i d) replies more are adds)

-- ---- names that are gone

gone_more : (before after : List Told) (i : ℕ) (d : Told) → i < length before → gone (take (i + 1) before) after ≡ gone (take i before) after ++ map (λ (one : Told). record { name = one.name; diagnostics = [] }) (cond (not (is_told after (get_or before i d).name)) (get_or before i d ∷ []) [])
gone_more before after i d lt =
    ap (map (λ (one : Told). record { name = one.name; diagnostics = [] })) (filter_more (λ (one : Told). not (is_told after one.name)) before i d lt)
    ∙ map-append (λ (one : Told). record { name = one.name; diagnostics = [] }) (filter (λ (one : Told). not (is_told after one.name)) (take i before)) (cond (not (is_told after (get_or before i d).name)) (get_or before i d ∷ []) [])

pub gone_same : (opened : Option (List ℕ)) (versions : List Version) (before after : List Told) (i : ℕ) (d : Told) (replies : List Reply) → i < length before → is_told after (get_or before i d).name ≡ true → ArePublished opened versions before (gone (take i before) after) replies → ArePublished opened versions before (gone (take (i + 1) before) after) replies
gone_same opened versions before after i d replies lt t are =
    subst (λ l. ArePublished opened versions before l replies) (sym (gone_more before after i d lt ∙ ap (λ b. gone (take i before) after ++ map (λ (one : Told). record { name = one.name; diagnostics = [] }) (cond (not b) (get_or before i d ∷ []) [])) t ∙ append-nil (gone (take i before) after))) are

pub gone_added : (opened : Option (List ℕ)) (versions : List Version) (before after : List Told) (i : ℕ) (d : Told) (replies more : List Reply) → i < length before → is_told after (get_or before i d).name ≡ false → ArePublished opened versions before (gone (take i before) after) replies → Adds opened versions before (get_or before i d).name [] replies more → ArePublished opened versions before (gone (take (i + 1) before) after) more
gone_added opened versions before after i d replies more lt t are adds =
    subst (λ l. ArePublished opened versions before l more) (sym (gone_more before after i d lt ∙ ap (λ b. gone (take i before) after ++ map (λ (one : Told). record { name = one.name; diagnostics = [] }) (cond (not b) (get_or before i d ∷ []) [])) t)) (published_more opened versions before (gone (take i before) after) (record { name = (get_or before i d).name; diagnostics = [] }) replies more are adds)

pub gone_cleared : (opened : Option (List ℕ)) (versions : List Version) (before after : List Told) (i : ℕ) (item : Told) (name : List ℕ) (replies more : List Reply) → i < length before → item ≡ get_or before i item → name ≡ item.name → ArePublished opened versions before (gone (take i before) after) replies → Clears opened versions before after name replies more → ArePublished opened versions before (gone (take (i + 1) before) after) more
gone_cleared opened versions before after i item name replies more lt is same are (inl (t, e)) =
    subst (ArePublished opened versions before (gone (take (i + 1) before) after)) (sym e) (gone_same opened versions before after i item replies lt (subst (λ n. is_told after n ≡ true) (same ∙ ap (λ (one : Told). one.name) is) t) are)
gone_cleared opened versions before after i item name replies more lt is same are (inr (t, adds)) =
    let e = same ∙ ap (λ (one : Told). one.name) is in
    gone_added opened versions before after i item replies more lt (subst (λ n. is_told after n ≡ false) e t) are (subst (λ n. Adds opened versions before n [] replies more) e adds)

pub announced_one : (opened : Option (List ℕ)) (versions : List Version) (before front told : List Told) (i : ℕ) (item : Told) (name : List ℕ) (diagnostics : List Diagnostic) (replies more : List Reply) → i < length told → item ≡ get_or told i item → name ≡ item.name → diagnostics ≡ item.diagnostics → ArePublished opened versions before (front ++ take i told) replies → Adds opened versions before name diagnostics replies more → ArePublished opened versions before (front ++ take (i + 1) told) more
announced_one opened versions before front told i item name diagnostics replies more lt is same found are adds =
    announced_more opened versions before front told i item replies more lt are (subst (λ ds. Adds opened versions before (get_or told i item).name ds replies more) (found ∙ ap (λ (one : Told). one.diagnostics) is) (subst (λ n. Adds opened versions before n diagnostics replies more) (same ∙ ap (λ (one : Told). one.name) is) adds))
