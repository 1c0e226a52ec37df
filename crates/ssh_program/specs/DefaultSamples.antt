-- Worked examples of what a question may leave out (this project's rules).
use Rattle.std.specs.Prelude.{◌≡◌, true, false, List, [], ◌∷◌, codes, Some, None, refl}
use Rattle.clap.specs.Words.{Text}
use Rattle.ssh_program.specs.Defaults.{Surroundings, asked, words_with_defaults}
use Rattle.ssh_program.specs.ReviewZones.{gives_zone, rule_in}

-- nothing is known
abbrev nowhere : Surroundings
nowhere = record { time = None; zone = None; home = None; given_time = None; given_zone = None }

-- the second 7, in UTC, for a user whose home is `/h`
abbrev somewhere : Surroundings
somewhere = record nowhere { time = Some (codes "7"); zone = Some (codes "UTC0"); home = Some (codes "/h") }

-- the same for a question with a date and a time, and the name of a zone
abbrev dated : Surroundings
dated = record somewhere { given_time = Some (codes "9"); given_zone = Some (codes "CET-1") }

abbrev reported : Surroundings → List Text → List Text → Type 0
reported around words wanted = words_with_defaults around words ≡ wanted

-- a review of a file by its name, and of the user's own file
abbrev pub ReviewsReported : Type 0
ReviewsReported =
    reported somewhere (codes "review" ∷ codes "a/authorized_keys" ∷ [])
    (codes "review" ∷ codes "--now" ∷ codes "7" ∷ codes "--zone" ∷ codes "local:UTC0" ∷ codes "--kind" ∷ codes "auth" ∷ codes "a/authorized_keys" ∷ [])
    × reported somewhere (codes "review" ∷ codes "--now=1" ∷ codes "db.known_hosts" ∷ [])
    (codes "review" ∷ codes "--zone" ∷ codes "local:UTC0" ∷ codes "--kind" ∷ codes "known" ∷ codes "--now=1" ∷ codes "db.known_hosts" ∷ [])
    × reported somewhere (codes "review" ∷ codes "--now" ∷ codes "1" ∷ codes "--zone" ∷ codes "EST5" ∷ codes "--kind" ∷ codes "known" ∷ [])
    (codes "review" ∷ codes "--now" ∷ codes "1" ∷ codes "--zone" ∷ codes "EST5" ∷ codes "--kind" ∷ codes "known" ∷ codes "/h/.ssh/known_hosts" ∷ [])
    × reported dated (codes "review" ∷ codes "--now" ∷ codes "d" ∷ codes "--zone=z" ∷ codes "--kind" ∷ codes "auth" ∷ codes "-" ∷ [])
    (codes "review" ∷ codes "--now" ∷ codes "9" ∷ codes "--zone" ∷ codes "CET-1" ∷ codes "--kind" ∷ codes "auth" ∷ codes "-" ∷ [])

-- the zone of a review: what the value of `--zone` says, and whether it was given for the files
abbrev pub ReviewZonesRead : Type 0
ReviewZonesRead =
    (rule_in (codes "local:CET-1") ≡ codes "CET-1")
    × (rule_in (codes "CET-1") ≡ codes "CET-1")
    × (gives_zone None ≡ false)
    × (gives_zone (Some (codes "local:CET-1")) ≡ false)
    × (gives_zone (Some (codes "CET-1")) ≡ true)
    × (gives_zone (Some (codes "")) ≡ true)

-- a host's key asks of no zone; where nothing is known nothing is added, and nothing to other commands
abbrev pub OthersReported : Type 0
OthersReported =
    reported somewhere (codes "trusts" ∷ codes "--host" ∷ codes "h" ∷ codes "--" ∷ codes "--now" ∷ [])
    (codes "trusts" ∷ codes "--now" ∷ codes "7" ∷ codes "--host" ∷ codes "h" ∷ codes "--" ∷ codes "--now" ∷ [])
    × reported nowhere (codes "admits" ∷ codes "--user" ∷ codes "ann" ∷ []) (codes "admits" ∷ codes "--user" ∷ codes "ann" ∷ [])
    × reported somewhere (codes "login" ∷ codes "--user" ∷ codes "ann" ∷ []) (codes "login" ∷ codes "--user" ∷ codes "ann" ∷ [])
    × reported somewhere [] []

-- a host with its port, where `--port` is not given; an address of IPv6 is left as it is
abbrev pub HostsReported : Type 0
HostsReported =
    reported somewhere (codes "trusts" ∷ codes "--host" ∷ codes "[h]:2" ∷ codes "f" ∷ [])
    (codes "trusts" ∷ codes "--now" ∷ codes "7" ∷ codes "--host" ∷ codes "h" ∷ codes "--port" ∷ codes "2" ∷ codes "f" ∷ [])
    × reported somewhere (codes "trusts" ∷ codes "--host=h:22" ∷ codes "f" ∷ [])
    (codes "trusts" ∷ codes "--now" ∷ codes "7" ∷ codes "--host" ∷ codes "h" ∷ codes "--port" ∷ codes "22" ∷ codes "f" ∷ [])
    × reported somewhere (codes "trusts" ∷ codes "--host" ∷ codes "[::1]:2" ∷ codes "f" ∷ [])
    (codes "trusts" ∷ codes "--now" ∷ codes "7" ∷ codes "--host" ∷ codes "::1" ∷ codes "--port" ∷ codes "2" ∷ codes "f" ∷ [])
    × reported somewhere (codes "trusts" ∷ codes "--host" ∷ codes "::1" ∷ codes "f" ∷ [])
    (codes "trusts" ∷ codes "--now" ∷ codes "7" ∷ codes "--host" ∷ codes "::1" ∷ codes "f" ∷ [])
    × reported somewhere (codes "trusts" ∷ codes "--host" ∷ codes "h:2" ∷ codes "--port" ∷ codes "3" ∷ codes "f" ∷ [])
    (codes "trusts" ∷ codes "--now" ∷ codes "7" ∷ codes "--host" ∷ codes "h:2" ∷ codes "--port" ∷ codes "3" ∷ codes "f" ∷ [])
    × reported somewhere (codes "admits" ∷ codes "--host" ∷ codes "h:2" ∷ codes "f" ∷ [])
    (codes "admits" ∷ codes "--now" ∷ codes "7" ∷ codes "--zone" ∷ codes "UTC0" ∷ codes "--host" ∷ codes "h:2" ∷ codes "f" ∷ [])

pub hosts_reported : HostsReported
unfolding asked
hosts_reported = (refl, refl, refl, refl, refl, refl)

pub reviews_reported : ReviewsReported
unfolding asked
reviews_reported = (refl, refl, refl, refl)

pub others_reported : OthersReported
unfolding asked
others_reported = (refl, refl, refl, refl)

pub review_zones_read : ReviewZonesRead
review_zones_read = (refl, refl, refl, refl, refl, refl)
