-- What was published last.
use Rattle.std.proofs.Common.{◌≡◌, ℕ, ◌+◌, Bool, true, false, not, ◌||◌, List, [], ◌∷◌, ◌++◌, Option, cond, filter, map, bytes_eq, refl, sym, ap, ◌∙◌, subst, inl, inr}
use Rattle.std.specs.Prelude.{◌⊎◌}
use Rattle.std.proofs.lemmas.Slice.Eq.{bytes_eq-Decides}
use Rattle.jn_base.specs.declared.infer.Infer.{Infer}
use Rattle.jn_front.specs.declared.source.SourceFile.{SourceFile}
use Rattle.jn_lsp_text.specs.declared.encoding.Encoding.{Encoding}
use Rattle.jn_lsp_text.specs.declared.reply.Diagnostic.{Diagnostic}
use Rattle.jn_lsp_text.specs.declared.reply.Reply.{Reply}
use Rattle.jn_lsp_text.specs.declared.reply.Reply.TheVariants.{Publish}
use Rattle.jn_lsp.specs.declared.versions.Version.{Version}
use Rattle.jn_lsp.specs.Tracking.{version_of}
use Rattle.jn_lsp.specs.declared.diagnostics.Told.{Told}
use Rattle.jn_lsp.specs.Publications.{Announces, ArePublished, gone, is_named, is_told, last_published, published}
use Rattle.jn_lsp.specs.Stand.{has_name}
use Rattle.jn_lsp.specs.declared.unchecked.LastReport.{LastReport}
use Rattle.jn_lsp.specs.Reported.{IsTold, reported_at}
use Rattle.jn_lsp.specs.Telling.{told_from, told_of}
use Rattle.jn_lsp.proofs.Names.{AreOwn, or_false, true_false}

-- no name comes again
abbrev pub AreOwnTold : List Told → Type 0
AreOwnTold [] = Unit {0}
AreOwnTold (one ∷ told) = (is_told told one.name ≡ false) × AreOwnTold told

own_from : (diagnostics : ℕ → List Diagnostic) (at : ℕ) (name : List ℕ) (files : List SourceFile) → is_told (told_from diagnostics at files) name ≡ has_name name files
own_from diagnostics at name [] = refl
own_from diagnostics at name (file ∷ files) = ap (λ b. bytes_eq file.name name || b) (own_from diagnostics (at + 1) name files)

pub own_told : (diagnostics : ℕ → List Diagnostic) (at : ℕ) (files : List SourceFile) → AreOwn files → AreOwnTold (told_from diagnostics at files)
own_told diagnostics at [] own = tt
own_told diagnostics at (file ∷ files) own = (own_from diagnostics (at + 1) file.name files ∙ own.0, own_told diagnostics (at + 1) files own.1)

pub told_own : (infer : Infer) (encoding : Encoding) (last : LastReport) (came : Bool) (files : List SourceFile) (told : List Told) → AreOwn files → IsTold infer encoding last came files told → AreOwnTold told
told_own infer encoding last came [] told own is = subst AreOwnTold (sym is.0) tt
told_own infer encoding last came (file ∷ files) told own is = subst AreOwnTold (sym is.are) (own_told (reported_at encoding last (file ∷ files) is.report is.notes) 0 (file ∷ files) own)

abbrev pub AreEmpty : List Told → Type 0
AreEmpty [] = Unit {0}
AreEmpty (one ∷ told) = (one.diagnostics ≡ []) × AreEmpty told

-- ---- lists of replies

pub last_both : (name : List ℕ) (last : List Diagnostic) (one other : List Reply) → last_published name last (one ++ other) ≡ last_published name (last_published name last one) other
last_both name last [] other = refl
last_both name last (reply ∷ one) other = last_both name (published name last reply) one other

split : (opened : Option (List ℕ)) (versions : List Version) (before one other : List Told) (replies : List Reply) → ArePublished opened versions before (one ++ other) replies → (first : List Reply) × (rest : List Reply) × (replies ≡ first ++ rest) × ArePublished opened versions before one first × ArePublished opened versions before other rest
split opened versions before [] other replies are = ([], replies, refl, refl, are)
split opened versions before (x ∷ one) other replies (inl (same, are)) = let s = split opened versions before one other replies are in (s.0, s.1, s.2, inl (same, s.3), s.4)
split opened versions before (x ∷ one) other replies (inr (differs, (rest, e, are))) =
    let s = split opened versions before one other rest are in
    (Publish x.name (version_of versions x.name) x.diagnostics ∷ s.0, s.1, e ∙ ap (λ rs. Publish x.name (version_of versions x.name) x.diagnostics ∷ rs) s.2, inr (differs, (s.0, refl, s.3)), s.4)

module _ (opened : Option (List ℕ)) (versions : List Version) (before : List Told) (name : List ℕ) where
  there : (one : Told) (last : List Diagnostic) → is_named name one ≡ true → published name last (Publish one.name (version_of versions one.name) one.diagnostics) ≡ one.diagnostics
  there one last t = ap (λ b. cond b one.diagnostics last) t

  elsewhere : (one : Told) (last : List Diagnostic) → is_named name one ≡ false → published name last (Publish one.name (version_of versions one.name) one.diagnostics) ≡ last
  elsewhere one last t = ap (λ b. cond b one.diagnostics last) t

  -- publications of other names
  absent : (told : List Told) (replies : List Reply) (last : List Diagnostic) → is_told told name ≡ false → ArePublished opened versions before told replies → last_published name last replies ≡ last
  absent [] replies last no_one are = ap (last_published name last) are
  absent (one ∷ told) replies last no_one (inl (same, are)) = absent told replies last (or_false (is_named name one) (is_told told name) no_one).1 are
  absent (one ∷ told) replies last no_one (inr (differs, (rest, e, are))) =
      let two = or_false (is_named name one) (is_told told name) no_one in
      ap (last_published name last) e ∙ ap (λ l. last_published name l rest) (elsewhere one last two.0) ∙ absent told rest last two.1 are

  -- where something was told, or nothing was
  unnamed : (told : List Told) → is_told told name ≡ false → told_of told name ≡ []
  unnamed [] no_one = refl
  unnamed (one ∷ told) no_one = let two = or_false (is_named name one) (is_told told name) no_one in ap (λ b. cond b one.diagnostics (told_of told name)) two.0 ∙ unnamed told two.1

  same_name : (one : Told) → is_named name one ≡ true → told_of before one.name ≡ told_of before name
  same_name one t = ap (told_of before) ((bytes_eq-Decides one.name name).0 t)

  -- a list whose names are each of its own: what is told of the name is published, or was told before
  present : (told : List Told) (replies : List Reply) (last : List Diagnostic) → AreOwnTold told → is_told told name ≡ true → last ≡ told_of before name → ArePublished opened versions before told replies → last_published name last replies ≡ told_of told name
  present [] replies last own some was are = true_false false some refl
  present (one ∷ told) replies last own some was are = case (is_named name one) refl are (λ rs t. present told rs last own.1 t was)
    where
      tells : (b : Bool) → is_named name one ≡ b → told_of (one ∷ told) name ≡ cond b one.diagnostics (told_of told name)
      tells b e = ap (λ t. cond t one.diagnostics (told_of told name)) e

      alone : is_named name one ≡ true → is_told told name ≡ false
      alone t = subst (λ n. is_told told n ≡ false) ((bytes_eq-Decides one.name name).0 t) own.0

      case : (b : Bool) → is_named name one ≡ b → ArePublished opened versions before (one ∷ told) replies → ((rs : List Reply) → is_told told name ≡ true → ArePublished opened versions before told rs → last_published name last rs ≡ told_of told name) → last_published name last replies ≡ told_of (one ∷ told) name
      case true t (inl (same, are)) r = absent told replies last (alone t) are ∙ was ∙ sym (same_name one t) ∙ same.0 ∙ sym (tells true t)
      case true t (inr (differs, (rest, e, are))) r = ap (last_published name last) e ∙ ap (λ l. last_published name l rest) (there one last t) ∙ absent told rest one.diagnostics (alone t) are ∙ sym (tells true t)
      case false t (inl (same, are)) r = r replies (ap (λ b. b || is_told told name) (sym t) ∙ some) are ∙ sym (tells false t)
      case false t (inr (differs, (rest, e, are))) r = ap (last_published name last) e ∙ ap (λ l. last_published name l rest) (elsewhere one last t) ∙ r rest (ap (λ b. b || is_told told name) (sym t) ∙ some) are ∙ sym (tells false t)

  -- names of which nothing is told any more, where nothing is left, or what was told before
  emptied : (told : List Told) (replies : List Reply) (last : List Diagnostic) → AreEmpty told → is_told told name ≡ true → (last ≡ told_of before name) ⊎ (last ≡ []) → ArePublished opened versions before told replies → last_published name last replies ≡ []
  emptied [] replies last empty some was are = true_false false some refl
  emptied (one ∷ told) replies last empty some was are = case (is_named name one) (is_told told name) refl refl are (λ l rs t w. emptied told rs l empty.1 t w)
    where
      nothing : (last : List Diagnostic) (replies : List Reply) (c : Bool) → is_told told name ≡ c → last ≡ [] → ArePublished opened versions before told replies → ((l : List Diagnostic) (rs : List Reply) → is_told told name ≡ true → (l ≡ told_of before name) ⊎ (l ≡ []) → ArePublished opened versions before told rs → last_published name l rs ≡ []) → last_published name last replies ≡ []
      nothing last replies true t e are r = r last replies t (inr e) are
      nothing last replies false t e are r = absent told replies last t are ∙ e

      was_empty : (last ≡ told_of before name) ⊎ (last ≡ []) → told_of before name ≡ [] → last ≡ []
      was_empty (inl e) same = e ∙ same
      was_empty (inr e) same = e

      case : (b c : Bool) → is_named name one ≡ b → is_told told name ≡ c → ArePublished opened versions before (one ∷ told) replies → ((l : List Diagnostic) (rs : List Reply) → is_told told name ≡ true → (l ≡ told_of before name) ⊎ (l ≡ []) → ArePublished opened versions before told rs → last_published name l rs ≡ []) → last_published name last replies ≡ []
      case true c t u (inl (same, are)) r = nothing last replies c u (was_empty was (sym (same_name one t) ∙ same.0 ∙ empty.0)) are r
      case true c t u (inr (differs, (rest, e, are))) r = ap (last_published name last) e ∙ ap (λ l. last_published name l rest) (there one last t ∙ empty.0) ∙ nothing [] rest c u refl are r
      case false c t u (inl (same, are)) r = r last replies (ap (λ b. b || is_told told name) (sym t) ∙ some) was are
      case false c t u (inr (differs, (rest, e, are))) r = ap (last_published name last) e ∙ ap (λ l. last_published name l rest) (elsewhere one last t) ∙ r last rest (ap (λ b. b || is_told told name) (sym t) ∙ some) was are

-- ---- names that are gone

gone_empty : (before after : List Told) → AreEmpty (gone before after)
gone_empty [] after = tt
gone_empty (one ∷ before) after = case (is_told after one.name) (gone_empty before after)
  where
    case : (b : Bool) → AreEmpty (gone before after) → AreEmpty (map (λ (one : Told). record { name = one.name; diagnostics = [] }) (cond (not b) (one ∷ filter (λ (one : Told). not (is_told after one.name)) before) (filter (λ (one : Told). not (is_told after one.name)) before)))
    case true r = r
    case false r = (refl, r)

module _ (after : List Told) (name : List ℕ) where
  gone_step : (one : Told) (before : List Told) (b : Bool) → is_told after one.name ≡ b → is_told (gone (one ∷ before) after) name ≡ cond b (is_told (gone before after) name) (is_named name one || is_told (gone before after) name)
  gone_step one before b e = ap (λ t. is_told (map (λ (one : Told). record { name = one.name; diagnostics = [] }) (cond (not t) (one ∷ filter (λ (one : Told). not (is_told after one.name)) before) (filter (λ (one : Told). not (is_told after one.name)) before))) name) e ∙ both b
    where
      both : (b : Bool) → is_told (map (λ (one : Told). record { name = one.name; diagnostics = [] }) (cond (not b) (one ∷ filter (λ (one : Told). not (is_told after one.name)) before) (filter (λ (one : Told). not (is_told after one.name)) before))) name ≡ cond b (is_told (gone before after) name) (is_named name one || is_told (gone before after) name)
      both true = refl
      both false = refl

  same_told : (one : Told) → is_named name one ≡ true → is_told after one.name ≡ is_told after name
  same_told one t = ap (is_told after) ((bytes_eq-Decides one.name name).0 t)

  -- what is told of isn't gone
  not_gone : (before : List Told) → is_told after name ≡ true → is_told (gone before after) name ≡ false
  not_gone [] t = refl
  not_gone (one ∷ before) t = case (is_told after one.name) (is_named name one) refl refl (not_gone before t)
    where
      case : (b c : Bool) → is_told after one.name ≡ b → is_named name one ≡ c → is_told (gone before after) name ≡ false → is_told (gone (one ∷ before) after) name ≡ false
      case true c e f r = gone_step one before true e ∙ r
      case false true e f r = true_false (is_told after name) t (sym (same_told one f) ∙ e)
      case false false e f r = gone_step one before false e ∙ ap (λ x. x || is_told (gone before after) name) f ∙ r

  -- what was told and isn't told of any more is gone
  is_gone : (before : List Told) → is_told after name ≡ false → is_told (gone before after) name ≡ false → is_told before name ≡ false
  is_gone [] f g = refl
  is_gone (one ∷ before) f g = case (is_told after one.name) (is_named name one) refl refl (λ h. is_gone before f h)
    where
      case : (b c : Bool) → is_told after one.name ≡ b → is_named name one ≡ c → (is_told (gone before after) name ≡ false → is_told before name ≡ false) → is_told (one ∷ before) name ≡ false
      case true true e h r = true_false (is_told after name) (sym (same_told one h) ∙ e) f
      case true false e h r = ap (λ x. x || is_told before name) h ∙ r (sym (gone_step one before true e) ∙ g)
      case false c e h r = let two = or_false (is_named name one) (is_told (gone before after) name) (sym (gone_step one before false e) ∙ g) in ap (λ x. x || is_told before name) two.0 ∙ r two.1

-- what is told of a name after the publications is what is told after
pub announced : (opened : Option (List ℕ)) (versions : List Version) (before after : List Told) (replies : List Reply) (name : List ℕ) → AreOwnTold after → Announces opened versions before after replies → last_published name (told_of before name) replies ≡ told_of after name
announced opened versions before after replies name own announces =
    let s = split opened versions before (gone before after) after replies announces in
    ap (last_published name (told_of before name)) s.2 ∙ last_both name (told_of before name) s.0 s.1 ∙ behind (is_told after name) (is_told (gone before after) name) refl refl s.0 s.1 s.3 s.4
  where
    behind : (b c : Bool) → is_told after name ≡ b → is_told (gone before after) name ≡ c → (first rest : List Reply) → ArePublished opened versions before (gone before after) first → ArePublished opened versions before after rest → last_published name (last_published name (told_of before name) first) rest ≡ told_of after name
    behind true c t u first rest a r = present opened versions before name after rest (last_published name (told_of before name) first) own t (absent opened versions before name (gone before after) first (told_of before name) (not_gone after name before t) a) r
    behind false true t u first rest a r = absent opened versions before name after rest (last_published name (told_of before name) first) t r ∙ emptied opened versions before name (gone before after) first (told_of before name) (gone_empty before after) u (inl refl) a ∙ sym (unnamed opened versions before name after t)
    behind false false t u first rest a r = absent opened versions before name after rest (last_published name (told_of before name) first) t r ∙ absent opened versions before name (gone before after) first (told_of before name) u a ∙ unnamed opened versions before name before (is_gone after name before t u) ∙ sym (unnamed opened versions before name after t)
