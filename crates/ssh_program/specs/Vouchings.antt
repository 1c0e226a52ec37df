-- The source of the signatures that are vouched for: none, stored bytes, or a named file, of which nothing is stored
-- and which is read again for the signature that is looked for (this project's rule).
use Rattle.std.specs.Prelude.{◌≡◌, ℕ, false, List, [], Option, Some, None, Ok}
use Rattle.std.specs.Str.{bytes_eq}
use Rattle.ssh_files.specs.SourceState.{SourceState, dash}
use Rattle.ssh_offers.specs.declared.claim.Signed.{Signed}
use Rattle.ssh_print.specs.Responses.{Response}
use Rattle.ssh_program.specs.Audits.{vouched_in}
use Rattle.ssh_program.specs.declared.vouching.Vouching.{Vouching}
use Rattle.ssh_program.specs.declared.vouching.Vouching.TheVariants.{Nothing, Held, Named}

-- the name of the file that is read again, if one is
abbrev pub again_in : Vouching → Option (List ℕ)
again_in Nothing = None
again_in (Held vouched) = None
again_in (Named name) = Some name.now

-- these are the signatures that are vouched for: none; the stored ones; or those of the file of this name, which is not
-- standard input
abbrev pub VouchesFor : Vouching → SourceState → List Signed → Type 0
VouchesFor Nothing s vouched = vouched ≡ []
VouchesFor (Held held) s vouched = vouched ≡ held
VouchesFor (Named name) s vouched = (bytes_eq name.now dash ≡ false) × (vouched_in (Some name.now) s ≡ Ok vouched)

-- `Signs` is true of a response by the file that is read again and by the signatures that are vouched for, whichever
-- they are
abbrev pub ByVouching : (Option (List ℕ) → List Signed → SourceState → Option SourceState → Response → Type 0) → Vouching → SourceState → Option SourceState → Response → Type 0
ByVouching Signs v s t r = (vouched : List Signed) → VouchesFor v s vouched → Signs (again_in v) vouched s t r
