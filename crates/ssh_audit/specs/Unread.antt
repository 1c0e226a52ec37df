-- What standard error says of a file that could not be read (this project's rule).
use Rattle.std.specs.Prelude.{◌++◌, ◌&&◌, ℕ, List, codes, if◌then◌else◌, length, nat_lt}
use Rattle.std.specs.declared.io.ErrorKind.{ErrorKind}
use Rattle.std.specs.declared.io.ErrorKind.TheVariants.{NotFound, PermissionDenied, IsADirectory}
use Rattle.ssh_files.specs.declared.files.UnreadCause.{UnreadCause}
use Rattle.ssh_files.specs.declared.files.UnreadCause.TheVariants as cause
use Rattle.ssh_print.specs.Texts.{escaped_text}

-- why it could not be read, by the error of the system (open(2), read(2): ENOENT, EACCES, EISDIR, and all others)
abbrev pub why : ErrorKind → List ℕ
why NotFound = codes "there is no such file"
why PermissionDenied = codes "it may not be read"
why IsADirectory = codes "it is a folder"
why _ = codes "it could not be read"

-- the same for the list of a review
abbrev pub cause_of_kind : ErrorKind → UnreadCause
cause_of_kind NotFound = cause.NotFound
cause_of_kind PermissionDenied = cause.PermissionDenied
cause_of_kind IsADirectory = cause.IsADirectory
cause_of_kind _ = cause.Other

abbrev pub unread_line : List ℕ → ErrorKind → List ℕ
unread_line name kind = codes "ssh_audit: " ++ escaped_text name ++ codes ": " ++ why kind ++ codes "\n"

-- the most bytes that are reported before the last line
abbrev pub room : ℕ
room = 65536

-- What is reported with one more file that could not be read: its line comes after what was reported before. Without a name, since
-- it was reported, nothing does; nor where there is no room for more.
abbrev pub reported_with : List ℕ → ErrorKind → List ℕ → List ℕ
reported_with name kind reported = if nat_lt 0 (length name) && nat_lt (length reported) room then reported ++ unread_line name kind else reported
