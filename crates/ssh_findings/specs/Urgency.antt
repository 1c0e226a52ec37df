-- How soon to mend what a finding tells (this project's rule).
use Rattle.std.specs.Prelude.{Bool}
use denote.Enum.Bare.{sameb}
use Rattle.ssh_findings.specs.declared.code.Code.{Code}
use Rattle.ssh_findings.specs.declared.code.Code.TheVariants as code
use Rattle.ssh_findings.specs.contracts.urgency.Urgency as urgency_type
use Rattle.ssh_findings.specs.declared.urgency.Urgency.{Urgency}
use Rattle.ssh_findings.specs.declared.urgency.Urgency.TheVariants.{Today, Soon, TidyUp, Policy}

-- two urgencies are the same if they are the same variant
abbrev pub same_urgency : Urgency → Urgency → Bool
same_urgency = sameb urgency_type.the_type

abbrev pub how_soon : Code → Urgency
how_soon code.Unreadable = Today
how_soon code.SameKey = Soon
how_soon code.NeverDecides = TidyUp
how_soon code.GivesMore = Today
how_soon code.ShortKey = Soon
how_soon code.Expired = TidyUp
how_soon code.PermitsNobody = Soon
how_soon code.ReadOtherwise = Today
how_soon code.ForcedButForwards = Soon
how_soon code.UnreadableRevocation = Today
how_soon code.OtherKey = Today
how_soon code.TrustedAndRevoked = Today
how_soon code.PatternHosts = Soon
how_soon code.EveryHost = Today
how_soon code.AnyAddress = Policy
how_soon code.AnyCommand = Policy
how_soon code.NoExpiry = Policy
how_soon code.AnyPrincipal = Policy
how_soon code.NoComment = Policy
how_soon code.NamesInClear = Policy
how_soon code.SameHostKey = Policy
how_soon code.MayRefuse = Today
