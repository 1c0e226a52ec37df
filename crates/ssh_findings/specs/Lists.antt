-- What the lists of `from` and `principals` options mean for every client (sshd(8), AUTHORIZED_KEYS FILE FORMAT).
use Rattle.std.specs.Prelude.{ℕ, Bool, false, not, ◌==◌, ◌&&◌, List, [], ◌∷◌, length}
use Rattle.std.specs.List.{list_all, list_any}
use Rattle.ssh_patterns.specs.Lists.{is_bad_source, items_of, pieces}

-- A `from` list permits nobody if some item is not allowed in it: an empty one, or one with a slash that is not a net.
unfoldable pub is_bad_list : List ℕ → Bool
is_bad_list list = list_any is_bad_source (items_of list)

-- a name, or nothing, between commas
abbrev pub says_name : List ℕ → Bool
says_name piece = not (length piece == 0)

abbrev pub says_none : List ℕ → Bool
says_none piece = length piece == 0

-- stars alone, and at least one
abbrev pub are_stars : List ℕ → Bool
are_stars piece = list_all (λ c. c == 42) piece

abbrev pub is_stars : List ℕ → Bool
is_stars piece = not (length piece == 0) && are_stars piece

-- a `!` is in front
abbrev pub begins_with_bang : List ℕ → Bool
begins_with_bang [] = false
begins_with_bang (c ∷ cs) = c == 33

abbrev pub has_name : List ℕ → Bool
has_name list = list_any says_name (pieces list)

abbrev pub has_empty_name : List ℕ → Bool
has_empty_name list = list_any says_none (pieces list)

abbrev pub has_stars : List ℕ → Bool
has_stars list = list_any is_stars (pieces list)

abbrev pub has_bang : List ℕ → Bool
has_bang list = list_any begins_with_bang (pieces list)

-- A `from` list permits any address if no piece is negated, and some piece consists of stars alone.
abbrev pub is_for_any_address : List ℕ → Bool
is_for_any_address list = has_stars list && not (has_bang list)
