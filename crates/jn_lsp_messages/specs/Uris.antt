-- Names of files and their URIs (RFC 8089, RFC 3986). A name is a path, or a URI of another scheme.
use Rattle.std.specs.Prelude.{ℕ, ◌==◌, ◌&&◌, ◌++◌, Bool, List, Option, Some, None, bytes_eq, codes, drop, length, slice_index, take, if◌then◌else◌}
use Rattle.std.specs.Str.{is_utf8}
use Rattle.percent_encoding.specs.Percent.{percent_decode, percent_encode}
use Rattle.jn_lsp_messages.specs.declared.uri.TheConstants.{PATH}

-- whether a text begins with a slash
abbrev pub is_path : List ℕ → Bool
is_path text = slice_index text 0 == 47

-- the path after this front of a URI
unfoldable pub path_behind : List ℕ → List ℕ → Option (List ℕ)
path_behind front uri = if bytes_eq (take (length front) uri) front && is_path (drop (length front) uri) then Some (drop (length front) uri) else None

-- the first of two
abbrev pub or_other : {A : Type 0} → Option A → Option A → Option A
or_other (Some x) other = Some x
or_other None other = other

-- the path in a file's URI, which names no host or this one (RFC 8089, section 2)
abbrev pub path_in : List ℕ → Option (List ℕ)
path_in uri = or_other (path_behind (codes "file://") uri) (path_behind (codes "file://localhost") uri)

-- a path with its escapes read (RFC 3986, section 2.1), where that is a text
abbrev pub name_at : List ℕ → Option (List ℕ) → List ℕ
name_at uri None = uri
name_at uri (Some path) = if is_utf8 (percent_decode path) then percent_decode path else uri

-- the name that a URI stands for: the path of a file's, and itself where it is no file's
unfoldable pub name_of : List ℕ → List ℕ
name_of uri = name_at uri (path_in uri)

-- the URI of a name: all bytes of a path are escaped but those of unreserved characters (RFC 3986, section 2.3) and slashes
unfoldable pub uri_of : List ℕ → List ℕ
uri_of name = if is_path name then codes "file://" ++ percent_encode PATH name else name
