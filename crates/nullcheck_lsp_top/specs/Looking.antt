-- Where a workspace's files are, and what is found there.
use Rattle.std.specs.Prelude.{ℕ, ◌≡◌, ◌⊎◌, ◌++◌, Bool, false, true, List, [], ◌∷◌, Option, Some, None, length, map, take, if◌then◌else◌}
use Rattle.std.specs.List.{flat_map}
use Rattle.jn_base.specs.declared.infer.Infer.{Infer}
use Rattle.jn_outside.specs.Files.{Holding}
use Rattle.jn_outside.specs.declared.given.Given.{Given}
use Rattle.jn_folder.specs.declared.listed.Listed.{Listed}
use Rattle.jn_folder.specs.Listing.{each_once, is_among, with_real}
use Rattle.jn_folder.specs.Walking.{BeginsWalk, Counts, IsOrderOf, Walks, telling}
use Rattle.jn_front.specs.declared.source.SourceFile.{SourceFile}
use Rattle.jn_lsp_text.specs.declared.folders.Folders.{Folders}
use Rattle.jn_lsp_text.specs.declared.message.Message.{Message}
use Rattle.jn_lsp_text.specs.declared.message.Message.TheVariants.{Initialize, Initialized, DidOpen, DidChange, DidSave, DidClose, WatchedFiles, ChangedFolders, CodeAction, InlayHint, Hover, Shutdown, Exit, Ignored, Unknown, BadDocument, BadParams, NoMessage, NoJson, BadHeader, TooLarge}
use Rattle.jn_lsp.specs.declared.phase.Phase.{Phase}
use Rattle.jn_lsp.specs.declared.phase.Phase.TheVariants.{Waiting, Serving, ShutDown, Exited}
use Rattle.jn_lsp.specs.Serving.{new_server}
use Rattle.nullcheck_lsp_top.specs.declared.client.Client.{Client}
use Rattle.nullcheck_lsp_top.specs.declared.client.Home.{Home}
use Rattle.nullcheck_lsp_top.specs.declared.client.Root.{Root}
use Rattle.nullcheck_lsp_top.specs.Announcing.{progress_with}
use Rattle.nullcheck_lsp_top.specs.Placing.{files_named, named_path, named_paths}
use Rattle.nullcheck_lsp_top.specs.Reading.{AreTaken, ReadsFirst, is_many, names_taken, source, warnings_of}

-- ---- where files are

-- a folder that wasn't asked yet where it really is
abbrev pub unasked : List ℕ → Home
unasked path = record { path = path; real = None }

-- the plain paths of the folders, each once, and what the settings say
abbrev pub root_of : Folders → List (List ℕ) → List (List ℕ) → Root
root_of folders files exclude = record { folders = map unasked (named_paths None folders.paths); watched = folders.watched; files = files; exclude = exclude; left = [] }

abbrev pub no_folders : Folders
no_folders = record { paths = []; watched = false }

-- a client that didn't speak yet, of a server that infers these members where it chooses none
abbrev pub new_client : Infer → Client
new_client infer = record { server = new_server infer; root = root_of no_folders [] []; shown = []; said = false; progress = progress_with false 1 }

-- `initialize` says where the files are
abbrev pub root_in : Message → Option Root
root_in (Initialize id folders infer files exclude markup encoding progress) = Some (root_of folders files exclude)
root_in Initialized = None
root_in (DidOpen name version text) = None
root_in (DidChange name version changes) = None
root_in (DidSave name) = None
root_in (DidClose name) = None
root_in WatchedFiles = None
root_in (ChangedFolders added removed) = None
root_in (CodeAction id name range) = None
root_in (InlayHint id name range) = None
root_in (Hover id name position) = None
root_in (Shutdown id) = None
root_in Exit = None
root_in Ignored = None
root_in (Unknown id) = None
root_in (BadDocument name) = None
root_in (BadParams id) = None
root_in NoMessage = None
root_in NoJson = None
root_in BadHeader = None
root_in TooLarge = None

-- ---- folders that change

-- the path of a folder that isn't removed
abbrev pub stays : List (List ℕ) → Home → List (List ℕ)
stays removed home = if is_among removed home.path then [] else home.path ∷ []

abbrev pub leaves : List (List ℕ) → Home → List Home
leaves removed home = if is_among removed home.path then home ∷ [] else []

-- the folders before that aren't removed, then the added ones, each once
abbrev pub paths_behind : List Home → List (List ℕ) → List (List ℕ) → List (List ℕ)
paths_behind homes added removed = each_once (flat_map (stays removed) homes ++ added)

-- they are asked anew where they really are; by those that are removed documents are known that were opened below them
abbrev pub root_moved : Root → List (List ℕ) → List (List ℕ) → Root
root_moved root added removed = record { folders = map unasked (paths_behind root.folders added removed); watched = root.watched; files = root.files; exclude = root.exclude; left = root.left ++ flat_map (leaves removed) root.folders }

-- by their plain paths
abbrev pub root_behind : Root → List (List ℕ) → List (List ℕ) → Root
root_behind root added removed = root_moved root (map (named_path None) added) (map (named_path None) removed)

abbrev pub root_by : Root → Message → Option Root
root_by root (ChangedFolders added removed) = Some (root_behind root added removed)
root_by root _ = None

-- the first `initialize` says where the files are, and then each change of the folders while the server serves
abbrev pub told_root : Phase → Root → Message → Option Root
told_root Waiting root m = root_in m
told_root Serving root m = root_by root m
told_root ShutDown root m = None
told_root (Exited in_order) root m = None

abbrev pub root_or : Option Root → Root → Root
root_or None root = root
root_or (Some told) root = told

-- ---- what is told

-- what files and folders tell
pub record Outside : Type 0 where
  pub told : List Listed
  pub lists : ℕ
  pub gave : List Given
  pub reads : ℕ

abbrev pub outside : List Listed → ℕ → List Given → ℕ → Outside
outside told lists gave reads = record { told = told; lists = lists; gave = gave; reads = reads }

-- what folders tell: what they listed, and the count of their faults
pub record Listing : Type 0 where
  pub told : List Listed
  pub faults : ℕ

abbrev pub listing : List Listed → ℕ → Listing
listing told faults = record { told = told; faults = faults }

abbrev pub listing_of : Outside → Listing
listing_of out = listing out.told out.lists

-- nothing was asked of files
abbrev pub ReadsNone : Outside → Outside → Type 0
ReadsNone old new = (new.gave ≡ old.gave) × (new.reads ≡ old.reads)

-- ---- where folders really are

abbrev pub home_at : List ℕ → Option (List ℕ) → Home
home_at path real = record { path = path; real = real }

-- each of these folders was asked where it really is, in their order, and that is kept with it
abbrev pub AreReal : List Home → List Home → Listing → Listing → Type 0
AreReal [] after old new = (after ≡ []) × (new ≡ old)
AreReal (home ∷ homes) after old new =
    (real : Option (List ℕ)) × (others : List Home) × (after ≡ home_at home.path real ∷ others)
    × AreReal homes others (listing (with_real old.told home.path real) old.faults) new

-- so many of them were
abbrev pub AreRealFirst : List Home → Listing → Listing → Type 0
AreRealFirst homes old new = (asked : ℕ) × (after : List Home) × AreReal (take asked homes) after old new

abbrev pub rooted : List Home → Root → Root
rooted homes root = record { folders = homes; watched = root.watched; files = root.files; exclude = root.exclude; left = root.left }

-- where it is said where the files are, the folders were asked, and that is kept
abbrev pub AreTraced : Option Root → Option Root → Listing → Listing → Type 0
AreTraced None after old new = (after ≡ None) × (new ≡ old)
AreTraced (Some root) after old new = (homes : List Home) × (after ≡ Some (rooted homes root)) × AreReal root.folders homes old new

abbrev pub AreTracedFirst : Option Root → Listing → Listing → Type 0
AreTracedFirst None old new = new ≡ old
AreTracedFirst (Some root) old new = AreRealFirst root.folders old new

-- and no file was
abbrev pub Traces : Option Root → Option Root → Outside → Outside → Type 0
Traces root after old new = AreTraced root after (listing_of old) (listing_of new) × ReadsNone old new

abbrev pub TracesFirst : Option Root → Outside → Outside → Type 0
TracesFirst root old new = AreTracedFirst root (listing_of old) (listing_of new) × ReadsNone old new

-- ---- names

-- what was found: files, folders that couldn't be listed, and folders in which a name is no text
pub record Finds : Type 0 where
  pub names : List (List ℕ)
  pub missed : List (List ℕ)
  pub unnamed : List (List ℕ)

abbrev pub finds : List (List ℕ) → List (List ℕ) → List (List ℕ) → Finds
finds names missed unnamed = record { names = names; missed = missed; unnamed = unnamed }

abbrev pub beside : Finds → Finds → Finds
beside one other = finds (one.names ++ other.names) (one.missed ++ other.missed) (one.unnamed ++ other.unnamed)

-- the Java files below a folder
abbrev pub AreBelow : List (List ℕ) → List ℕ → Listing → Listing → Finds → Type 0
AreBelow exclude path old new found = Walks exclude path (telling old.told new.told old.faults new.faults) found.names found.missed found.unnamed × Counts found.missed old.faults new.faults

-- they are put after what was found before
abbrev pub IsBesideBelow : List (List ℕ) → List ℕ → Listing → Listing → Finds → Finds → Type 0
IsBesideBelow exclude path old new before after = (more : Finds) × AreBelow exclude path old new more × (after ≡ beside before more)

-- those below each of these folders, one after the other
abbrev pub AreInFolders : List (List ℕ) → List Home → Listing → Listing → Finds → Type 0
AreInFolders exclude [] old new found = (found ≡ finds [] [] []) × (new ≡ old)
AreInFolders exclude (home ∷ homes) old new found =
    (mid : Listing) × (first : Finds) × (others : Finds) × AreBelow exclude home.path old mid first × AreInFolders exclude homes mid new others × (found ≡ beside first others)

-- without settings the names are those of the Java files of all folders, each once, in the order of their bytes
abbrev pub AreOfFolders : Root → Listing → Listing → List (List ℕ) → List (List ℕ) → List (List ℕ) → Type 0
AreOfFolders root old new names missed unnamed = (all : List (List ℕ)) × AreInFolders root.exclude root.folders old new (finds all missed unnamed) × IsOrderOf all names

abbrev pub AreNamedBy : Root → List (List ℕ) → Listing → Listing → List (List ℕ) → List (List ℕ) → List (List ℕ) → Type 0
AreNamedBy root [] old new names missed unnamed = AreOfFolders root old new names missed unnamed
AreNamedBy root (file ∷ files) old new names missed unnamed = (names ≡ files_named root) × (missed ≡ []) × (unnamed ≡ []) × (new ≡ old)

-- ---- files

-- these files and warnings are found: those of all names, in order
pub record IsFound (held : Option Holding) (root : Root) (old new : Outside) (files : List SourceFile) (warnings : List (List ℕ)) : Type 0 where
  pub names : List (List ℕ)
  pub missed : List (List ℕ)
  pub unnamed : List (List ℕ)
  pub lost : List (List ℕ)
  pub named : AreNamedBy root root.files (listing_of old) (listing_of new) names missed unnamed
  pub read : AreTaken held (is_many names) names (source old.gave old.reads) (source new.gave new.reads) files lost
  pub warned : warnings ≡ warnings_of (length names) missed unnamed lost

-- ---- where a search stops, as memory is wanted

-- folders were listed as the walks below these folders begin
abbrev pub BeginsInFolders : List (List ℕ) → List Home → Listing → Listing → Type 0
BeginsInFolders exclude [] old new = new.told ≡ old.told
BeginsInFolders exclude (home ∷ homes) old new =
    BeginsWalk exclude home.path old.faults old.told new.told
    ⊎ ((mid : Listing) × (first : Finds) × AreBelow exclude home.path old mid first × BeginsInFolders exclude homes mid new)

-- none where the settings name files
abbrev pub BeginsNamed : Root → List (List ℕ) → Listing → Listing → Type 0
BeginsNamed root [] old new = BeginsInFolders root.exclude root.folders old new
BeginsNamed root (file ∷ files) old new = new.told ≡ old.told

-- names were found, and the first of them were read
pub record ReadsNamed (held : Option Holding) (root : Root) (old new : Outside) : Type 0 where
  pub names : List (List ℕ)
  pub missed : List (List ℕ)
  pub unnamed : List (List ℕ)
  pub named : AreNamedBy root root.files (listing_of old) (listing_of new) names missed unnamed
  pub read : ReadsFirst held (names_taken (is_many names) names) (source old.gave old.reads) new.gave

-- what was asked of folders and files is what the workspace's search asks first
abbrev pub Starts : Option Holding → Root → Outside → Outside → Type 0
Starts held root old new = (BeginsNamed root root.files (listing_of old) (listing_of new) × (new.gave ≡ old.gave)) ⊎ ReadsNamed held root old new

abbrev pub StartsWhere : Bool → Option Holding → Root → Outside → Outside → Type 0
StartsWhere false held root old new = new ≡ old
StartsWhere true held root old new = Starts held root old new
