-- What is asked of folders and files, also where memory is wanted.
use Rattle.std.proofs.Common.{◌≡◌, ℕ, ◌+◌, ◌<◌, ◌++◌, Bool, true, false, List, [], ◌∷◌, drop, get_or, length, take, Option, inl, inr, refl, sym, ap, ◌∙◌, subst, append-nil}
use Rattle.std.proofs.lemmas.List.{drop_more, take-append-drop}
use Rattle.jn_outside.specs.declared.given.Given.{Given}
use Rattle.jn_outside.specs.Files.{Holding}
use Rattle.jn_outside.specs.Gave.{GivesLittle}
use Rattle.jn_front.specs.declared.source.SourceFile.{SourceFile}
use Rattle.jn_front.specs.Files.{file_limit}
use Rattle.jn_lsp_text.specs.declared.message.Message.{Message}
use Rattle.nullcheck_lsp_top.specs.declared.client.Client.{Client}
use Rattle.nullcheck_lsp_top.specs.declared.client.Root.{Root}
use Rattle.nullcheck_lsp_top.specs.declared.messages.Task.{Task}
use Rattle.nullcheck_lsp_top.specs.Hearing.{IsTask, StartsBy, looks, taken_as}
use Rattle.nullcheck_lsp_top.specs.Looking.{AreNamedBy, BeginsNamed, Listing, Outside, Starts, StartsWhere, Traces, TracesFirst, listing_of, root_or}
use Rattle.nullcheck_lsp_top.specs.Reading.{AreRead, GivesNext, ReadsFirst, Source, is_many, names_taken, source}
use Rattle.nullcheck_lsp_top.proofs.Searching.{begins_none}

-- ---- files

-- nothing was read
pub reads_none : (held : Option Holding) (names : List (List ℕ)) (old : Source) (new : List Given) → new ≡ old.gave → ReadsFirst held names old new
reads_none held names old new same = record {
  done = [];
  left = names;
  parts = refl;
  mid = old;
  files = [];
  lost = [];
  read = (refl, refl, refl);
  next = by names;
}
  where
    by : (names : List (List ℕ)) → GivesNext names old.gave new
    by [] = same
    by (name ∷ others) = inl same

-- as many as are taken
pub reads_taken : (held : Option Holding) (names : List (List ℕ)) (many : Bool) (old : Source) (new : List Given) → many ≡ false → ReadsFirst held names old new → ReadsFirst held (names_taken many names) old new
reads_taken held names many old new few read = subst (λ b. ReadsFirst held (names_taken b names) old new) (sym few) read

-- all were
pub reads_all : (held : Option Holding) (names : List (List ℕ)) (old mid : Source) (files : List SourceFile) (lost : List (List ℕ)) (new : List Given) → AreRead held names old mid files lost → new ≡ mid.gave → ReadsFirst held names old new
reads_all held names old mid files lost new read same = record {
  done = names;
  left = [];
  parts = sym (append-nil names);
  mid = mid;
  files = files;
  lost = lost;
  read = read;
  next = same;
}

-- so many were, and one more in part
pub reads_part : (held : Option Holding) (names : List (List ℕ)) (i : ℕ) (name : List ℕ) (old mid : Source) (files : List SourceFile) (lost : List (List ℕ)) (new : List Given) → i < length names → name ≡ get_or names i name → AreRead held (take i names) old mid files lost → GivesLittle name (file_limit + 1) mid.gave new → ReadsFirst held names old new
reads_part held names i name old mid files lost new lt item read little = record {
  done = take i names;
  left = name ∷ drop (i + 1) names;
  parts = sym (take-append-drop i names) ∙ ap (λ l. take i names ++ l) (drop_more names i name lt ∙ ap (λ n. n ∷ drop (i + 1) names) (sym item));
  mid = mid;
  files = files;
  lost = lost;
  read = read;
  next = little;
}

-- ---- folders

named_none : (root : Root) (files : List (List ℕ)) (old : Listing) → BeginsNamed root files old old
named_none root [] old = begins_none root.exclude root.folders old
named_none root (file ∷ files) old = refl

-- ---- both

pub starts_none : (held : Option Holding) (root : Root) (old : Outside) → Starts held root old old
starts_none held root old = inl (named_none root root.files (listing_of old), refl)

pub where_none : (wanted : Bool) (held : Option Holding) (root : Root) (old : Outside) → StartsWhere wanted held root old old
where_none false held root old = refl
where_none true held root old = starts_none held root old

-- names were found, and files were read
pub starts_files : (held : Option Holding) (root : Root) (old new : Outside) (names missed unnamed : List (List ℕ)) (many : Bool) → AreNamedBy root root.files (listing_of old) (listing_of new) names missed unnamed → many ≡ is_many names → ReadsFirst held (names_taken many names) (source old.gave old.reads) new.gave → Starts held root old new
starts_files held root old new names missed unnamed many named is read = inr (record {
  names = names;
  missed = missed;
  unnamed = unnamed;
  named = named;
  read = subst (λ b. ReadsFirst held (names_taken b names) (source old.gave old.reads) new.gave) is read;
})

-- ---- a message

module _ (held : Option Holding) (old out new : Outside) (before : Client) (message : Message) (task : Task) (is : IsTask before message task) where
  -- the folders were asked where they really are, and files were read
  pub starts_from : (root : Root) (told : Option Root) → Traces task.told told old out → root ≡ root_or told before.root → StartsWhere task.looks held root out new → StartsBy held old new before message
  starts_from root told traces e starts = inl (
    told,
    out,
    subst (λ (r : Option Root). Traces r told old out) is.told traces,
    subst (λ (r : Root). StartsWhere (looks before.server.phase (taken_as before message)) held r out new) e
        (subst (λ b. StartsWhere b held root out new) is.looks starts),
  )

  -- they were asked, and nothing else
  pub starts_traced : (told : Option Root) → Traces task.told told old out → StartsBy held old out before message
  starts_traced told traces = inl (told, out, subst (λ (r : Option Root). Traces r told old out) is.told traces, where_none (looks before.server.phase (taken_as before message)) held (root_or told before.root) out)

  -- some of them were
  pub starts_first : TracesFirst task.told old out → StartsBy held old out before message
  starts_first first = inr (subst (λ (r : Option Root). TracesFirst r old out) is.told first)
