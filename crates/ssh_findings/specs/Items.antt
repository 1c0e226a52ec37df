-- The names of a known_hosts line one by one, where they are not hashed (sshd(8), SSH_KNOWN_HOSTS FILE FORMAT;
-- ssh_config(5), PATTERNS).
use Rattle.std.specs.Prelude.{ℕ, Bool, not, ◌==◌, ◌||◌, ◌&&◌, List, Option, bytes_eq}
use Rattle.std.specs.List.{list_any}
use Rattle.ssh_patterns.specs.Lists.{pieces_left}
use Rattle.ssh_findings.specs.Lists.{begins_with_bang, is_stars}

-- a star or a question mark
abbrev pub is_wildcard : ℕ → Bool
is_wildcard c = (c == 42) || (c == 63)

abbrev pub has_wildcard : List ℕ → Bool
has_wildcard piece = list_any is_wildcard piece

-- a pattern, which may match more than one name, and is not negated
abbrev pub is_pattern : List ℕ → Bool
is_pattern piece = not (begins_with_bang piece) && has_wildcard piece

-- one name, which is not a pattern and is not negated
abbrev pub is_plain : List ℕ → Bool
is_plain piece = not (begins_with_bang piece) && not (has_wildcard piece)

-- some piece is a pattern
abbrev pub has_pattern : Option (List ℕ) → Bool
has_pattern list = list_any is_pattern (pieces_left list)

-- some piece consists of stars alone
abbrev pub names_all : Option (List ℕ) → Bool
names_all list = list_any is_stars (pieces_left list)

-- this is one of the plain names of the list
abbrev pub has_item : List ℕ → Option (List ℕ) → Bool
has_item item list = is_plain item && list_any (λ piece. bytes_eq piece item) (pieces_left list)

-- the two lists have a plain name in common
abbrev pub share_item : Option (List ℕ) → Option (List ℕ) → Bool
share_item list other = list_any (λ item. has_item item other) (pieces_left list)
