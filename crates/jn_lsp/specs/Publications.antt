-- What is published: of each name of which something else was told last, and of a document that is opened, what is told now.
use Rattle.std.specs.Prelude.{ℕ, ◌≡◌, ◌⊎◌, ◌++◌, Bool, true, false, not, List, [], ◌∷◌, Option, Some, None, bytes_eq, filter, map, if◌then◌else◌}
use Rattle.std.specs.List.{list_any}
use Rattle.jn_lsp_text.specs.declared.reply.Diagnostic.{Diagnostic}
use Rattle.jn_lsp_text.specs.declared.reply.Reply.{Reply}
use Rattle.jn_lsp_text.specs.declared.reply.Reply.TheVariants.{Capabilities, Done, Refusal, Publish, Show, Watch, Actions, Hints, Hovered, Announce, Begin, End}
use Rattle.jn_lsp.specs.declared.diagnostics.Told.{Told}
use Rattle.jn_lsp.specs.declared.versions.Version.{Version}
use Rattle.jn_lsp.specs.Telling.{told_of}
use Rattle.jn_lsp.specs.Tracking.{version_of}

abbrev pub is_named : List ℕ → Told → Bool
is_named name one = bytes_eq one.name name

abbrev pub is_told : List Told → List ℕ → Bool
is_told told name = list_any (is_named name) told

-- of names of which nothing is told any more: no diagnostics
abbrev pub gone : List Told → List Told → List Told
gone before after = map (λ (one : Told). record { name = one.name; diagnostics = [] }) (filter (λ (one : Told). not (is_told after one.name)) before)

-- the document of this name is opened now
abbrev pub is_opened : Option (List ℕ) → List ℕ → Bool
is_opened None name = false
is_opened (Some opened) name = bytes_eq opened name

-- what is told of a name is published where something else was told before; of a document that is opened in any case, as a client may
-- show what is told of a file only while it has that open. With it goes the version of the document, where it is open with one
module _ (opened : Option (List ℕ)) (versions : List Version) (before : List Told) where
  abbrev pub IsKnown : List ℕ → List Diagnostic → Type 0
  IsKnown name diagnostics = (told_of before name ≡ diagnostics) × (is_opened opened name ≡ false)

  abbrev pub IsNews : List ℕ → List Diagnostic → Type 0
  IsNews name diagnostics = (told_of before name ≡ diagnostics → ⊥) ⊎ (is_opened opened name ≡ true)

  -- the replies, with a publication after them where this is news of the name
  abbrev pub Adds : List ℕ → List Diagnostic → List Reply → List Reply → Type 0
  Adds name diagnostics replies more =
      (IsKnown name diagnostics × (more ≡ replies))
      ⊎ (IsNews name diagnostics × (more ≡ replies ++ Publish name (version_of versions name) diagnostics ∷ []))

  -- the same of no diagnostics, where nothing is told of the name any more
  abbrev pub Clears : List Told → List ℕ → List Reply → List Reply → Type 0
  Clears after name replies more =
      ((is_told after name ≡ true) × (more ≡ replies))
      ⊎ ((is_told after name ≡ false) × Adds name [] replies more)

  -- a publication for each of these that is news, in their order
  abbrev pub ArePublished : List Told → List Reply → Type 0
  ArePublished [] replies = replies ≡ []
  ArePublished (one ∷ told) replies =
      (IsKnown one.name one.diagnostics × ArePublished told replies)
      ⊎ (IsNews one.name one.diagnostics × ((rest : List Reply) × (replies ≡ Publish one.name (version_of versions one.name) one.diagnostics ∷ rest) × ArePublished told rest))

  -- what was told before becomes what is told after: first the names that are gone, then all others
  abbrev pub Announces : List Told → List Reply → Type 0
  Announces after replies = ArePublished (gone before after ++ after) replies

-- what is told of a name after a reply
abbrev pub published : List ℕ → List Diagnostic → Reply → List Diagnostic
published name before (Publish other version diagnostics) = if bytes_eq other name then diagnostics else before
published name before (Capabilities id encoding) = before
published name before (Done id) = before
published name before (Refusal id failure) = before
published name before (Show words) = before
published name before Watch = before
published name before (Actions id actions) = before
published name before (Hints id hints) = before
published name before (Hovered id markup hover) = before
published name before (Announce number) = before
published name before (Begin number) = before
published name before (End number) = before

-- what was published last of a name; where nothing was, this
abbrev pub last_published : List ℕ → List Diagnostic → List Reply → List Diagnostic
last_published name before [] = before
last_published name before (reply ∷ replies) = last_published name (published name before reply) replies
