-- Worked examples of lines with a colour (this project's rules).
use Rattle.std.specs.Prelude.{◌≡◌, ◌++◌, List, ◌∷◌, codes, Option, Some, None, refl}
use Rattle.ssh_audit.specs.declared.colour.Colour.TheVariants.{Red, Yellow}
use Rattle.ssh_audit.specs.declared.colour.Place.TheVariants.{Between, Within}
use Rattle.ssh_audit.specs.declared.colour.Printed.TheVariants.{OneAnswer, Files}
use Rattle.ssh_audit.specs.Colours.{colour_of, line_at, place_after, printed_by, taken}

-- what denies, and faults, are red; what has to be fixed is yellow
abbrev pub LinesColoured : Type 0
LinesColoured =
    (colour_of OneAnswer (codes "denied N6 0") ≡ Some Red)
    × (colour_of OneAnswer (codes "fault A9") ≡ Some Red)
    × (colour_of Files (codes "fault usage") ≡ Some Red)
    × (colour_of Files (codes "a b: fault A9") ≡ Some Red)
    × (colour_of Files (codes "f: does not admit: N3: no line admits the offer") ≡ Some Red)
    × (colour_of Files (codes "f: does not trust: N1 2: revoked") ≡ Some Red)
    × (colour_of Files (codes "f:5: unreadable") ≡ Some Yellow)
    × (colour_of Files (codes "    F8 tab: OpenSSH passes over this line") ≡ Some Yellow)

-- other lines have none, whatever a trust file says in them
abbrev pub LinesPlain : Type 0
LinesPlain =
    (colour_of OneAnswer (codes "granted line 1") ≡ None)
    × (colour_of OneAnswer (codes "command a: fault A9") ≡ None)
    × (colour_of Files (codes "f: admits by line 1") ≡ None)
    × (colour_of Files (codes "    command a: fault A9") ≡ None)
    × (colour_of Files (codes "f:1: key ssh-rsa SHA256:x a: fault A9") ≡ None)
    × (colour_of Files (codes "{\"file\":\"f\",\"comment\":\"a: fault A9\"}") ≡ None)
    × (colour_of Files (codes "total: 1 files, 0 faults") ≡ None)

-- the lines of these commands may have one
abbrev pub CommandsColoured : Type 0
CommandsColoured =
    (printed_by (codes "login") ≡ Some OneAnswer)
    × (printed_by (codes "review") ≡ Some Files)
    × (printed_by (codes "rewrite") ≡ None)
    × (printed_by (codes "readable") ≡ None)
    × (printed_by (codes "hash") ≡ None)
    × (printed_by (codes "show") ≡ None)
    × (printed_by (codes "explain") ≡ None)
    × (printed_by (codes "denied") ≡ None)

-- a line in one piece, and in three
abbrev pub LinesWritten : Type 0
LinesWritten =
    (line_at OneAnswer Between (codes "denied N3\nreason 1 G8\n") ≡ 27 ∷ codes "[31mdenied N3" ++ 27 ∷ codes "[0m\n")
    × (taken (codes "denied N3\nreason 1 G8\n") ≡ 10)
    × (line_at OneAnswer Between (codes "reason 1 G8\n") ≡ codes "reason 1 G8\n")
    × (line_at OneAnswer Between (codes "fault file ") ≡ 27 ∷ codes "[31mfault file ")
    × (place_after OneAnswer Between (codes "fault file ") ≡ Within (Some Red))
    × (line_at OneAnswer (Within (Some Red)) (codes "keys") ≡ codes "keys")
    × (line_at OneAnswer (Within (Some Red)) (codes "\n") ≡ 27 ∷ codes "[0m\n")
    × (place_after OneAnswer (Within (Some Red)) (codes "\n") ≡ Between)

pub lines_coloured : LinesColoured
unfolding colour_of
lines_coloured = (refl, refl, refl, refl, refl, refl, refl, refl)

pub lines_plain : LinesPlain
unfolding colour_of
lines_plain = (refl, refl, refl, refl, refl, refl, refl)

pub commands_coloured : CommandsColoured
commands_coloured = (refl, refl, refl, refl, refl, refl, refl, refl)

pub lines_written : LinesWritten
unfolding colour_of
lines_written = (refl, refl, refl, refl, refl, refl, refl, refl)
